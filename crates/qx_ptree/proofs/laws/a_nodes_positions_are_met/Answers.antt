use Rattle.qx_ptree.proofs.NodePositions.{position_has, position_met, position_of}
use Rattle.qx_ptree.proofs.laws.a_nodes_positions_are_met.Goals as goal

pub returns-clause-met : goal.returns-clause-met
returns-clause-met c = λ order m node k j is has. position_met order m node is k j has

pub returns-clause-at : goal.returns-clause-at
returns-clause-at c = λ order m node v is met. (position_has order m node is v met, position_of order m node is v met)
