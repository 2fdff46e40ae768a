use Rattle.std.proofs.Common.{arith}
use Rattle.qx_geom.proofs.VolumeNumbers.{IsGeometry-keeps}
use Rattle.qx_geom.proofs.geometry.Geometry.laid.Goals as goal
use Rattle.qx_geom.proofs.geometry.Geometry.laid.Goals.{in-Bitmap, in-Inodes}

pub invariant_of-result : goal.invariant_of-result
invariant_of-result c =
    let numbers = IsGeometry-keeps c.args.self.now c.requires in
    record {
      block_size = numbers.block_size;
      few = elim c.match-tree.branch [ in-Bitmap w ↦ omega arith | in-Inodes w ↦ omega arith ];
    }
