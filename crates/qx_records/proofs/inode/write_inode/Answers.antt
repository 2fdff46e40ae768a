use Rattle.std.proofs.Common.{◌≡◌, ◌*◌, ◌+◌, ℕ, List, length, replicate, set, refl, ap, ◌∙◌, arith, lit<}
use Rattle.std.specs.List.{replace_range}
use Rattle.qx_bytes.proofs.Pieces.{filled, fill_next, fill_byte}
use Rattle.qx_fields.specs.Number.{all_digits, put_field, put_fields}
use Rattle.qx_records.specs.InodeRecord.{inode_in}
use Rattle.qx_records.proofs.WrittenInodes.{put_pieces, filled-all, inode_in-inode_bytes}
use Rattle.qx_records.proofs.inode.write_inode.Goals as goal

pub returns-clause-fits : goal.returns-clause-fits
returns-clause-fits c = record {
  size = omega arith;
  uid = omega (arith, c.put32s.ensures.fit 0 0 (lit< tt));
  gid = omega (arith, c.put32s.ensures.fit 1 0 (lit< tt));
  ftime = omega (arith, c.put32s.ensures.fit 2 0 (lit< tt));
  mtime = omega (arith, c.put32s.ensures.fit 3 0 (lit< tt));
  atime = omega (arith, c.put32s.ensures.fit 4 0 (lit< tt));
  ctime = omega (arith, c.put32s.ensures.fit 5 0 (lit< tt));
  mode = omega arith;
  ext_mode = omega arith;
  sixteen = omega arith;
  pointers = c.put32s-2.ensures.fit;
}

pub returns-clause-bytes : goal.returns-clause-bytes
unfolding put_field put_fields
returns-clause-bytes c =
    let inode = c.args.inode.now in
    let order = c.args.order in
    let sixteen = (returns-clause-fits c).sixteen in
    let pieces = put_pieces order inode sixteen in
    let blanks : List ℕ = replicate 128 0 in
    let zeros : c.fill.new.self ≡ replicate 128 0 = c.fill.ensures.after (λ y e. cc) ∙ ap (λ (n : ℕ). replicate n 0) c.requires in
    let size : c.put64.new.into ≡ filled 1 pieces blanks = fill_next 0 pieces blanks _ _ (lit< tt) zeros c.put64.ensures in
    let words : c.put32s.new.into ≡ filled 2 pieces blanks = fill_next 1 pieces blanks _ _ (lit< tt) size c.put32s.ensures.bytes in
    let mode : c.put16.new.into ≡ filled 3 pieces blanks = fill_next 2 pieces blanks _ _ (lit< tt) words c.put16.ensures in
    let ext_mode : c.put16-2.new.into ≡ filled 4 pieces blanks = fill_next 3 pieces blanks _ _ (lit< tt) mode c.put16-2.ensures in
    let end : 36 + 4 * length inode.root.pointers ≡ 100 = omega arith in
    let pointers : c.put32s-2.new.into ≡ filled 5 pieces blanks =
    fill_next 4 pieces blanks _ _ (lit< tt) ext_mode (c.put32s-2.ensures.bytes ∙ ap (λ (n : ℕ). replace_range c.put16-2.new.into 36 n (all_digits order 4 inode.root.pointers)) end) in
    let with_levels = set c.put32s-2.new.into 100 inode.root.levels in
    let levels : with_levels ≡ filled 6 pieces blanks = fill_byte 5 pieces blanks c.put32s-2.new.into inode.root.levels (lit< tt) refl (lit< tt) pointers in
    fill_byte 6 pieces blanks with_levels inode.status (lit< tt) refl (lit< tt) levels ∙ filled-all order inode sixteen

pub returns-clause-read_back : goal.returns-clause-read_back
returns-clause-read_back c =
    ap (λ (l : List ℕ). inode_in c.args.order l) (returns-clause-bytes c) ∙ inode_in-inode_bytes c.args.order c.args.inode.now (returns-clause-fits c)
