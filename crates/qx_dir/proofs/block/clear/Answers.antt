use Rattle.std.proofs.Common.{◌≡◌, ℕ, ◌*◌, length, set, ◌∙◌, ap}
use Rattle.std.proofs.lemmas.List.{length-replicate}
use Rattle.qx_records.specs.Slots.{records_in}
use Rattle.qx_dir.proofs.WrittenRows.{part-written, records-written}
use Rattle.qx_dir.proofs.block.clear.Goals as goal

pub returns-clause-records : goal.returns-clause-records
returns-clause-records c = λ order.
    let whole : length c.write_unused.new.into ≡ 32 = ap (λ l. length l) c.write_unused.ensures.bytes ∙ length-replicate {A = ℕ} 32 0 in
    ap (records_in order) (part-written c.args.block.now c.write_unused.new.into (c.args.place * 32) whole)
    ∙ records-written order c.args.block.now c.write_unused.new.into c.args.place whole c.requires.within
    ∙ ap (λ raw. set (records_in order c.args.block.now) c.args.place (record { place = c.args.place; raw = raw })) (c.write_unused.ensures.read_back order)
