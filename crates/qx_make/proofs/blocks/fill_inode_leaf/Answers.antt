use Rattle.std.proofs.Common.{◌≡◌, ℕ, ◌-◌, ◌++◌, List, replicate, drop, ap, sym, ◌∙◌, refl, arith}
use Rattle.std.proofs.lemmas.List.{drop-replicate, length-take-le}
use Rattle.qx_geom.proofs.BlockSizes.{block_size-bounds}
use Rattle.qx_geom.proofs.VolumeNumbers.{IsGeometry-keeps}
use Rattle.qx_records.specs.WrittenInode.{inode_bytes}
use Rattle.qx_make.specs.Blocks.{inode_leaf_bytes, top_block, top_inode}
use Rattle.qx_make.proofs.blocks.fill_inode_leaf.Goals as goal

pub overflow_mul-top : goal.overflow_mul-top
overflow_mul-top c = let v = IsGeometry-keeps c.args.geometry.now c.requires.geometry in record { fits = omega (arith, v.room, v.blocks_to) }

pub slice_bounds-write_inode-end : goal.slice_bounds-write_inode-end
slice_bounds-write_inode-end c =
    let v = IsGeometry-keeps c.args.geometry.now c.requires.geometry in
    let bounds = block_size-bounds c.args.geometry.now.blocksize v.block_size in
    omega (arith, c.fill.ensures.len, c.requires.into, bounds.size_from)

pub write_inode-requires : goal.write_inode-requires
write_inode-requires c =
    let v = IsGeometry-keeps c.args.geometry.now c.requires.geometry in
    let bounds = block_size-bounds c.args.geometry.now.blocksize v.block_size in
    length-take-le 128 c.fill.new.self (omega (arith, c.fill.ensures.len, c.requires.into, bounds.size_from))

pub returns-then-leaf-eq0 : goal.returns-then-leaf-eq0
unfolding inode_leaf_bytes
returns-then-leaf-eq0 c =
    let g = c.args.geometry.now in
    let zeros : c.fill.new.self ≡ replicate g.blocksize 0 = c.fill.ensures.after (λ y e. cc) ∙ ap (λ (n : ℕ). replicate n 0) c.requires.into in
    let top = inode_bytes c.args.order (top_inode g.blocksize (top_block g) c.args.moment) in
    let first : inode_leaf_bytes g c.args.order c.args.moment 0 ≡ top ++ replicate (g.blocksize - 128) 0 = refl in
    ap (λ (l : List ℕ). l ++ drop 128 c.fill.new.self) (c.write_inode.ensures.bytes ∙ ap (λ i. inode_bytes c.args.order i) c.directory_inode-inode.ensures)
    ∙ ap (λ (l : List ℕ). top ++ l) (ap (λ (l : List ℕ). drop 128 l) zeros ∙ drop-replicate 128 g.blocksize 0)
    ∙ sym (ap (λ (i : ℕ). inode_leaf_bytes g c.args.order c.args.moment i) c.if-leaf-eq0.true ∙ first)
