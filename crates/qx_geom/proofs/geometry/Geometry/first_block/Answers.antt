use Rattle.std.proofs.Common.{arith}
use Rattle.qx_geom.proofs.VolumeNumbers.{IsGeometry-keeps}
use Rattle.qx_geom.proofs.geometry.Geometry.first_block.Goals as goal

pub returns-in-First-clause-room : goal.returns-in-First-clause-room
returns-in-First-clause-room c = let numbers = IsGeometry-keeps c.args.self.now c.requires in omega arith

pub returns-in-Second-clause-room : goal.returns-in-Second-clause-room
returns-in-Second-clause-room c = let numbers = IsGeometry-keeps c.args.self.now c.requires in omega arith
