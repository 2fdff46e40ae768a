use Rattle.std.proofs.Common.{arith}
use Rattle.qx_geom.proofs.LeastLevels.{levels_for-reach, levels_for-least}
use Rattle.qx_geom.proofs.laws.the_levels_are_the_least.Goals as goal

pub returns-clause-reached : goal.returns-clause-reached
returns-clause-reached c = λ blocksize n. levels_for-reach blocksize n 5 (omega arith)

pub returns-clause-least : goal.returns-clause-least
returns-clause-least c = levels_for-least
