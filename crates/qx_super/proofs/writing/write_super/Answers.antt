use Rattle.std.proofs.Common.{◌≡◌, ℕ, List, ◌++◌, ap, ◌∙◌, arith, take, drop, replicate, lit<}
use Rattle.qx_bytes.proofs.Pieces.{filled, fill_next, fill_part}
use Rattle.qx_fields.specs.Number.{put_field, put_fields}
use Rattle.qx_super.specs.Superblock.{superblock_of}
use Rattle.qx_super.specs.Written.{super_bytes}
use Rattle.qx_super.proofs.WrittenSuperblocks.{superblock_of-super_bytes, super_bytes-put, put_pieces, filled-all}
use Rattle.qx_super.proofs.writing.write_super.Goals as goal

pub returns-clause-bytes : goal.returns-clause-bytes
unfolding super_bytes put_field put_fields
returns-clause-bytes c =
    let s = c.args.s.now in
    let inode = c.write_root.ensures.fits.sixteen in
    let bitmap = c.write_root-2.ensures.fits.sixteen in
    let longfile = c.write_root-3.ensures.fits.sixteen in
    let fourth = c.write_root-4.ensures.fits.sixteen in
    let pieces = put_pieces s inode bitmap longfile fourth in
    let blanks : List ℕ = replicate 512 0 in
    let zeros : c.fill.new.self ≡ replicate 512 0 = c.fill.ensures.after (λ y e. cc) ∙ ap (λ (n : ℕ). replicate n 0) c.requires in
    let magic : c.put32.new.into ≡ filled 2 pieces blanks = fill_next 0 pieces blanks _ _ (lit< tt) zeros c.put32.ensures in
    let serial : c.put64.new.into ≡ filled 3 pieces blanks = fill_next 2 pieces blanks _ _ (lit< tt) magic c.put64.ensures in
    let ctime : c.put32-2.new.into ≡ filled 4 pieces blanks = fill_next 3 pieces blanks _ _ (lit< tt) serial c.put32-2.ensures in
    let atime : c.put32-3.new.into ≡ filled 6 pieces blanks = fill_next 4 pieces blanks _ _ (lit< tt) ctime c.put32-3.ensures in
    let version1 : c.put16.new.into ≡ filled 9 pieces blanks = fill_next 6 pieces blanks _ _ (lit< tt) atime c.put16.ensures in
    let counts : c.put32s.new.into ≡ filled 11 pieces blanks = fill_next 9 pieces blanks _ _ (lit< tt) version1 c.put32s.ensures.bytes in
    let with_inode = take 72 c.put32s.new.into ++ (c.write_root.new.into ++ drop 80 (drop 72 c.put32s.new.into)) in
    let with_bitmap = take 152 with_inode ++ (c.write_root-2.new.into ++ drop 80 (drop 152 with_inode)) in
    let with_longfile = take 232 with_bitmap ++ (c.write_root-3.new.into ++ drop 80 (drop 232 with_bitmap)) in
    let with_fourth = take 312 with_longfile ++ (c.write_root-4.new.into ++ drop 80 (drop 312 with_longfile)) in
    let one : with_inode ≡ filled 12 pieces blanks = fill_part 11 pieces blanks _ _ (lit< tt) counts c.write_root.ensures.bytes in
    let two : with_bitmap ≡ filled 13 pieces blanks = fill_part 12 pieces blanks _ _ (lit< tt) one c.write_root-2.ensures.bytes in
    let three : with_longfile ≡ filled 14 pieces blanks = fill_part 13 pieces blanks _ _ (lit< tt) two c.write_root-3.ensures.bytes in
    let four : with_fourth ≡ filled 15 pieces blanks = fill_part 14 pieces blanks _ _ (lit< tt) three c.write_root-4.ensures.bytes in
    c.put32-4.ensures ∙ super_bytes-put s with_fourth c.checksum-sum.result (four ∙ filled-all s inode bitmap longfile fourth) c.checksum-sum.ensures

pub returns-clause-fits : goal.returns-clause-fits
returns-clause-fits c = record {
  serial = omega arith;
  ctime = omega arith;
  atime = omega arith;
  version1 = omega arith;
  blocksize = omega arith;
  num_inodes = omega (arith, c.put32s.ensures.fit 1 0 (lit< tt));
  free_inodes = omega (arith, c.put32s.ensures.fit 2 0 (lit< tt));
  num_blocks = omega (arith, c.put32s.ensures.fit 3 0 (lit< tt));
  free_blocks = omega (arith, c.put32s.ensures.fit 4 0 (lit< tt));
  inode = c.write_root.ensures.fits;
  bitmap = c.write_root-2.ensures.fits;
  longfile = c.write_root-3.ensures.fits;
  fourth = c.write_root-4.ensures.fits;
}

pub returns-clause-read_back : goal.returns-clause-read_back
returns-clause-read_back c = λ len. ap (λ (l : List ℕ). superblock_of l len) (returns-clause-bytes c) ∙ superblock_of-super_bytes c.args.s.now (returns-clause-fits c) len
