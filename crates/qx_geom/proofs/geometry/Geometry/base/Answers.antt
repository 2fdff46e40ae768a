use Rattle.std.proofs.Common.{arith}
use Rattle.qx_geom.proofs.VolumeNumbers.{IsGeometry-keeps}
use Rattle.qx_geom.proofs.geometry.Geometry.base.Goals as goal

pub overflow_add-result : goal.overflow_add-result
overflow_add-result c = let numbers = IsGeometry-keeps c.args.self.now c.requires in omega arith

pub overflow_add-result-in-Inodes : goal.overflow_add-result-in-Inodes
overflow_add-result-in-Inodes c = let numbers = IsGeometry-keeps c.args.self.now c.requires in omega arith
