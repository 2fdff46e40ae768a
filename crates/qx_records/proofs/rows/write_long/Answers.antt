use Rattle.std.proofs.Common.{◌≡◌, ℕ, List, replicate, set, refl, ap, ◌∙◌, arith, lit<}
use Rattle.qx_bytes.proofs.Pieces.{filled, fill_next, fill_byte}
use Rattle.qx_fields.specs.Number.{put_field}
use Rattle.qx_records.specs.NameRecord.{raw_in}
use Rattle.qx_records.specs.WrittenNames.{long_bytes}
use Rattle.qx_records.proofs.WrittenRecords.{long_pieces, raw_in-long_bytes}
use Rattle.qx_records.proofs.rows.write_long.Goals as goal

pub returns-clause-bytes : goal.returns-clause-bytes
unfolding long_bytes put_field
returns-clause-bytes c =
    let pieces = long_pieces c.args.order c.args.inode c.args.number c.args.sum in
    let blanks : List ℕ = replicate 32 0 in
    let zeros : c.fill.new.self ≡ replicate 32 0 = c.fill.ensures.after (λ y e. cc) ∙ ap (λ (n : ℕ). replicate n 0) c.requires.record in
    let inode : c.put32.new.into ≡ filled 1 pieces blanks = fill_next 0 pieces blanks _ _ (lit< tt) zeros c.put32.ensures in
    let with_length = set c.put32.new.into 4 255 in
    let long : with_length ≡ filled 3 pieces blanks = fill_byte 1 pieces blanks c.put32.new.into 255 (lit< tt) refl (lit< tt) inode in
    let number : c.put32-2.new.into ≡ filled 4 pieces blanks = fill_next 3 pieces blanks _ _ (lit< tt) long c.put32-2.ensures in
    fill_next 4 pieces blanks _ _ (lit< tt) number c.put32-3.ensures

pub returns-clause-read_back : goal.returns-clause-read_back
returns-clause-read_back c =
    ap (λ (l : List ℕ). raw_in c.args.order l) (returns-clause-bytes c)
    ∙ raw_in-long_bytes c.args.order c.args.inode c.args.number c.args.sum c.requires.used (omega arith) (omega arith) (omega arith)
