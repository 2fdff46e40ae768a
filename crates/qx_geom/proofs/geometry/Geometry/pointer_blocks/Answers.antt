use Rattle.std.proofs.Common.{arith}
use Rattle.qx_geom.proofs.VolumeNumbers.{IsGeometry-keeps, pointers-counted}
use Rattle.qx_geom.proofs.geometry.Geometry.pointer_blocks.Goals as goal

pub overflow_add-first : goal.overflow_add-first
overflow_add-first c =
    let numbers = IsGeometry-keeps c.args.self.now c.requires in
    omega (arith, pointers-counted c.args.self.now c.args.which c.args.tree c.requires)

pub overflow_add-result : goal.overflow_add-result
overflow_add-result c =
    let numbers = IsGeometry-keeps c.args.self.now c.requires in
    omega (arith, pointers-counted c.args.self.now c.args.which c.args.tree c.requires)

pub returns-clause-room : goal.returns-clause-room
returns-clause-room c = omega (arith, pointers-counted c.args.self.now c.args.which c.args.tree c.requires)
