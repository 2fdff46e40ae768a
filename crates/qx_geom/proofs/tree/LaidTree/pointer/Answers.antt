use Rattle.std.proofs.Common.{arith}
use Rattle.qx_geom.proofs.LeastLevels.{levels_for-two}
use Rattle.qx_geom.proofs.LevelCounts.{level-within}
use Rattle.qx_geom.proofs.tree.LaidTree.pointer.Goals as goal

pub count-requires : goal.count-requires
count-requires c = omega (arith, levels_for-two c.args.self.blocksize c.args.self.leaves c.args.self.block_size c.args.self.few)

pub below-requires : goal.below-requires
below-requires c = omega (arith, levels_for-two c.args.self.blocksize c.args.self.leaves c.args.self.block_size c.args.self.few)

pub overflow_add-result : goal.overflow_add-result
overflow_add-result c = omega (arith, level-within c.args.self.blocksize c.args.self.leaves c.args.self.block_size c.args.level (omega arith))

pub overflow_add-result-then-index-count : goal.overflow_add-result-then-index-count
overflow_add-result-then-index-count c = omega (arith, level-within c.args.self.blocksize c.args.self.leaves c.args.self.block_size c.args.level (omega arith))
