use Rattle.std.proofs.Common.{◌≡◌, ℕ, List, ◌+◌, ◌-◌, ◌++◌, length, take, drop, replicate, ap, ◌∙◌, arith, lit<}
use Rattle.qx_bytes.proofs.Pieces.{filled, fill_next, fill_part}
use Rattle.qx_fields.specs.Number.{digits, put_field}
use Rattle.qx_records.specs.NameRecord.{long_name_in}
use Rattle.qx_records.specs.WrittenNames.{long_name_bytes}
use Rattle.qx_records.proofs.WrittenRecords.{long_name_pieces, zeros_behind, long_name_in-long_name_bytes}
use Rattle.qx_records.proofs.long_name.write_long_name.Goals as goal

pub returns-clause-bytes : goal.returns-clause-bytes
unfolding long_name_bytes put_field
returns-clause-bytes c =
    let name = c.args.name.now in
    let count = length name in
    let size = length c.args.into.now in
    let pieces = long_name_pieces c.args.order size name in
    let blanks : List ℕ = replicate size 0 in
    let zeros : c.fill.new.self ≡ replicate size 0 = c.fill.ensures.after (λ y e. cc) in
    let long : c.put16.new.into ≡ filled 1 pieces blanks = fill_next 0 pieces blanks _ _ (lit< tt) zeros c.put16.ensures in
    let end : 2 + count - 2 ≡ 2 + (count + 0) - 2 = omega arith in
    let part = c.copy_from_slice.new.self in
    let named : take 2 c.put16.new.into ++ (part ++ drop (2 + (count + 0) - 2) (drop 2 c.put16.new.into)) ≡ filled 2 pieces blanks =
    fill_part 1 pieces blanks c.put16.new.into part (lit< tt) long c.copy_from_slice.ensures.after in
    ap (λ (n : ℕ). take 2 c.put16.new.into ++ (part ++ drop n (drop 2 c.put16.new.into))) end
    ∙ named
    ∙ ap (λ (l : List ℕ). digits c.args.order 2 count ++ (name ++ l)) (zeros_behind size 2 count)

pub returns-clause-read_back : goal.returns-clause-read_back
returns-clause-read_back c =
    ap (λ (l : List ℕ). long_name_in c.args.order l) (returns-clause-bytes c)
    ∙ long_name_in-long_name_bytes c.args.order (length c.args.into.now) c.args.name.now c.requires.named c.requires.short
