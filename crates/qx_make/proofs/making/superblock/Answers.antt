use Rattle.std.proofs.Common.{arith}
use Rattle.qx_geom.proofs.VolumeNumbers.{IsGeometry-keeps}
use Rattle.qx_make.proofs.NewBlocks.{inodes_from}
use Rattle.qx_make.proofs.making.superblock.Goals as goal

pub overflow_sub-result : goal.overflow_sub-result
overflow_sub-result c = let some = inodes_from c.args.volume.now.geometry c.requires in omega arith

pub overflow_sub-result-2 : goal.overflow_sub-result-2
overflow_sub-result-2 c = let v = IsGeometry-keeps c.args.volume.now.geometry c.requires in omega (arith, v.room, c.user.ensures)
