use Rattle.qx_geom.proofs.AscendingLists.{ascending_distinct, level_ascends}
use Rattle.qx_geom.specs.Positions.{at_level}
use Rattle.qx_geom.proofs.laws.positions_of_a_level_ascend.Goals as goal

pub returns-clause-ascending : goal.returns-clause-ascending
returns-clause-ascending c = level_ascends

pub returns-clause-distinct : goal.returns-clause-distinct
returns-clause-distinct c = λ blocksize k s a. ascending_distinct (at_level blocksize s k) (level_ascends blocksize k s a)
