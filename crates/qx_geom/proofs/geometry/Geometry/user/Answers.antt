use Rattle.std.proofs.Common.{arith}
use Rattle.qx_geom.proofs.VolumeNumbers.{IsGeometry-keeps}
use Rattle.qx_geom.proofs.geometry.Geometry.user.Goals as goal

pub overflow_mul-result : goal.overflow_mul-result
overflow_mul-result c = let numbers = IsGeometry-keeps c.args.self.now c.requires in omega arith

pub overflow_sub-result : goal.overflow_sub-result
overflow_sub-result c = let numbers = IsGeometry-keeps c.args.self.now c.requires in omega arith
