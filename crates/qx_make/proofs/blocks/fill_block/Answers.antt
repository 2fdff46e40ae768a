use Rattle.std.proofs.Common.{arith}
use Rattle.qx_geom.proofs.VolumeNumbers.{IsGeometry-keeps}
use Rattle.qx_make.proofs.blocks.fill_block.Goals as goal
use Rattle.qx_geom.proofs.BlockSizes.{block_size-bounds}

pub overflow_mul-half : goal.overflow_mul-half
overflow_mul-half c = let v = IsGeometry-keeps c.args.volume.now.geometry c.requires.geometry in record { fits = omega (arith, v.room, v.blocks_to, v.parts) }

pub fill_top_directory-requires : goal.fill_top_directory-requires
fill_top_directory-requires c = let v = IsGeometry-keeps c.args.volume.now.geometry c.requires.geometry in let bounds = block_size-bounds c.args.volume.now.geometry.blocksize v.block_size in omega (arith, c.requires.into, bounds.size_from)
