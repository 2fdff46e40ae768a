use Rattle.std.proofs.Common.{◌≡◌, ◌≤◌, ◌*◌, ◌/◌, ◌+◌, ℕ, length, ap, ◌∙◌, sym, arith}
use Rattle.qx_fields.specs.declared.order.Order.{Order}
use Rattle.qx_records.specs.InodeRecord.{inode_in}
use Rattle.qx_itable.specs.TableState.{if_live, record_bytes}
use Rattle.qx_itable.proofs.WrittenLeaves.{written-more, written-all}
use Rattle.qx_itable.proofs.table.ITable.leaf_bytes.Goals as goal

pub loop-place-preserved : goal.loop-place-preserved
loop-place-preserved c =
    let first : ℕ = c.args.leaf * (length c.args.into.now / 128) in
    let room : c.loop-place.place * 128 + 128 ≤ length c.loop-place.into = grind (arith, c.loop-place-test.true, c.loop-place.auto.into) in
    let same : c.self.inside.order ≡ c.args.self.now.order = ap (λ t. t.order) c.self.view_is in
    written-more c.args.self.now first c.loop-place.place c.loop-place.into c.write_record.new.into c.write_record.ensures.whole room
    c.loop-place.invariant
    (c.write_record.ensures.bytes ∙ (λ i. record_bytes (same i) (c.at.ensures.inode i)))
    (ap (λ (order : Order). if_live (inode_in order c.write_record.new.into)) (sym same) ∙ c.write_record.ensures.read_back ∙ c.at.ensures.inode)

pub returns-clause-bytes : goal.returns-clause-bytes
returns-clause-bytes c =
    let count : ℕ = length c.args.into.now / 128 in
    let long : length c.loop-place.into ≡ count * 128 = omega (arith, c.requires.whole, c.loop-place.auto.into) in
    written-all c.args.self.now (c.args.leaf * count) count c.loop-place.into long
    (λ k low. c.loop-place.invariant k (omega (arith, c.loop-place-test.false, low)))
