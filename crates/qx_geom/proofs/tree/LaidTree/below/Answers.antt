use Rattle.std.proofs.Common.{arith}
use Rattle.qx_geom.proofs.LevelCounts.{below_level-le}
use Rattle.qx_geom.proofs.tree.LaidTree.below.Goals as goal

pub overflow_add-blocks : goal.overflow_add-blocks
overflow_add-blocks c = omega (arith, below_level-le c.args.self.blocksize c.args.self.leaves c.args.self.block_size c.loop-k.k 3 (omega arith))
