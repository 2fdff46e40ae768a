use Rattle.std.proofs.Common.{arith}
use Rattle.qx_geom.proofs.LeastLevels.{levels_for-two}
use Rattle.qx_geom.proofs.tree.LaidTree.levels.Goals as goal

pub returns-clause-few : goal.returns-clause-few
returns-clause-few c = omega (arith, levels_for-two c.args.self.blocksize c.from.result c.args.self.block_size (omega arith))
