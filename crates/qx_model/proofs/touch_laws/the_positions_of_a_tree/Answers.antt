use Rattle.qx_model.proofs.TreeNodes.{listed_position, position_listed}
use Rattle.qx_model.proofs.SeparatePositions.{positions_distinct}
use Rattle.qx_model.proofs.touch_laws.the_positions_of_a_tree.Goals as goal

pub returns-clause-listed : goal.returns-clause-listed
returns-clause-listed c = position_listed

pub returns-clause-others : goal.returns-clause-others
returns-clause-others c = listed_position

pub returns-clause-once : goal.returns-clause-once
returns-clause-once c = positions_distinct
