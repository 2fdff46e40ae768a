use Rattle.std.proofs.Common.{◌≡◌, ℕ, List, ◌+◌, ◌-◌, ◌∷◌, [], ◌++◌, length, take, drop, replicate, set, refl, ap, ◌∙◌, arith, lit<}
use Rattle.qx_bytes.proofs.Pieces.{filled, fill_next, fill_byte, fill_part}
use Rattle.qx_fields.specs.Number.{digits, put_field}
use Rattle.qx_records.specs.NameRecord.{raw_in}
use Rattle.qx_records.specs.WrittenNames.{short_bytes}
use Rattle.qx_records.proofs.WrittenRecords.{short_pieces, zeros_behind, raw_in-short_bytes}
use Rattle.qx_records.proofs.rows.write_short.Goals as goal

pub returns-clause-bytes : goal.returns-clause-bytes
unfolding short_bytes put_field
returns-clause-bytes c =
    let name = c.args.name.now in
    let count = length name in
    let pieces = short_pieces c.args.order c.args.inode name in
    let blanks : List ℕ = replicate 32 0 in
    let zeros : c.fill.new.self ≡ replicate 32 0 = c.fill.ensures.after (λ y e. cc) ∙ ap (λ (n : ℕ). replicate n 0) c.requires.record in
    let inode : c.put32.new.into ≡ filled 1 pieces blanks = fill_next 0 pieces blanks _ _ (lit< tt) zeros c.put32.ensures in
    let with_length = set c.put32.new.into 4 count in
    let long : with_length ≡ filled 2 pieces blanks = fill_byte 1 pieces blanks c.put32.new.into count (lit< tt) refl (lit< tt) inode in
    let end : 5 + count - 5 ≡ 4 + (1 + (count + 0)) - 5 = omega arith in
    let part = c.copy_from_slice.new.self in
    ap (λ (n : ℕ). take 5 with_length ++ (part ++ drop n (drop 5 with_length))) end
    ∙ fill_part 2 pieces blanks with_length part (lit< tt) long c.copy_from_slice.ensures.after
    ∙ ap (λ (l : List ℕ). digits c.args.order 4 c.args.inode ++ ((count ∷ []) ++ (name ++ l))) (zeros_behind 32 5 count)

pub returns-clause-read_back : goal.returns-clause-read_back
returns-clause-read_back c =
    ap (λ (l : List ℕ). raw_in c.args.order l) (returns-clause-bytes c)
    ∙ raw_in-short_bytes c.args.order c.args.inode c.args.name.now c.requires.used (omega arith) c.requires.named c.requires.short
