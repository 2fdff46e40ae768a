use Rattle.std.proofs.Common.{arith}
use Rattle.qx_geom.proofs.VolumeNumbers.{IsGeometry-keeps, first_block-le}
use Rattle.qx_make.proofs.blocks.fill_half_block.Goals as goal

pub overflow_add-bitmap_blocks : goal.overflow_add-bitmap_blocks
overflow_add-bitmap_blocks c = let v = IsGeometry-keeps c.args.volume.now.geometry c.requires.geometry in record { fits = omega (arith, v.room, v.blocks_to, v.parts) }

pub overflow_add-first : goal.overflow_add-first
overflow_add-first c = let v = IsGeometry-keeps c.args.volume.now.geometry c.requires.geometry in record { fits = omega (arith, v.room, v.blocks_to, v.parts, c.first_block-first.ensures.first, first_block-le c.args.volume.now.geometry c.args.which) }

pub overflow_add-bitmap_blocks-else-index-bitmap_blocks : goal.overflow_add-bitmap_blocks-else-index-bitmap_blocks
overflow_add-bitmap_blocks-else-index-bitmap_blocks c = let v = IsGeometry-keeps c.args.volume.now.geometry c.requires.geometry in record { fits = omega (arith, v.room, v.blocks_to, v.parts) }

pub overflow_add-first-else-index-bitmap_blocks-2 : goal.overflow_add-first-else-index-bitmap_blocks-2
overflow_add-first-else-index-bitmap_blocks-2 c = let v = IsGeometry-keeps c.args.volume.now.geometry c.requires.geometry in record { fits = omega (arith, v.room, v.blocks_to, v.parts, c.first_block-first.ensures.first, first_block-le c.args.volume.now.geometry c.args.which) }

pub fill_pointer_block-requires-else-index-bitmap_blocks-2-clause-block : goal.fill_pointer_block-requires-else-index-bitmap_blocks-2-clause-block
fill_pointer_block-requires-else-index-bitmap_blocks-2-clause-block c = let v = IsGeometry-keeps c.args.volume.now.geometry c.requires.geometry in record { from = omega (arith, v.parts, c.first_block-first.ensures.first); to = omega (arith, v.parts, c.requires.index, c.first_block-first.ensures.first) }

pub overflow_mul-held : goal.overflow_mul-held
overflow_mul-held c = let v = IsGeometry-keeps c.args.volume.now.geometry c.requires.geometry in record { fits = omega (arith, v.room, v.blocks_to) }

pub fill_bitmap_leaf-requires-clause-held : goal.fill_bitmap_leaf-requires-clause-held
fill_bitmap_leaf-requires-clause-held c = let v = IsGeometry-keeps c.args.volume.now.geometry c.requires.geometry in omega (arith, v.blocks_to)
