use Rattle.std.proofs.Common.{◌≡◌, ◌*◌, ◌∙◌, ℕ, ap, arith}
use Rattle.qx_geom.specs.Layout.{pointer_blocks, bitmap_leaves_of, inode_leaves_of}
use Rattle.qx_geom.specs.Pointer.{ceil_div}
use Rattle.qx_geom.proofs.BlockSizes.{block_size-bounds}
use Rattle.qx_geom.proofs.LevelCounts.{ceil_div-is, tree_blocks-is}
use Rattle.qx_geom.proofs.geometry.Geometry.with_blocks.Goals as goal

pub overflow_sub-result : goal.overflow_sub-result
overflow_sub-result c = omega (arith, tree_blocks-is c.args.blocksize c.div_ceil-2.result c.requires.blocksize)

pub overflow_sub-result-2 : goal.overflow_sub-result-2
overflow_sub-result-2 c = omega (arith, tree_blocks-is c.args.blocksize c.div_ceil-3.result c.requires.blocksize)

pub returns-clause-numbers : goal.returns-clause-numbers
unfolding pointer_blocks
returns-clause-numbers c =
    let b = c.args.blocksize in let blocks = c.args.blocks in let inodes = c.args.inodes in
    let bounds = block_size-bounds b c.requires.blocksize in
    let bytes : c.div_ceil.result ≡ ceil_div blocks 8 = c.div_ceil.ensures ∙ ceil_div-is blocks 8 (omega arith) in
    let bitmap : c.div_ceil-2.result ≡ bitmap_leaves_of b blocks = c.div_ceil-2.ensures ∙ ceil_div-is c.div_ceil.result b (omega arith) ∙ ap (λ (n : ℕ). ceil_div n b) bytes in
    let table : c.div_ceil-3.result ≡ inode_leaves_of b inodes = c.div_ceil-3.ensures ∙ ceil_div-is (inodes * 128) b (omega arith) in
    cc
