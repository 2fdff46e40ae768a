use Rattle.qx_ptree.proofs.NodePositions.{told_hole, told_leaf_long}
use Rattle.qx_ptree.proofs.laws.the_leaves_of_a_node.Goals as goal

pub returns-clause-long : goal.returns-clause-long
returns-clause-long c = λ order m node i is tells. told_leaf_long order m node is tells i

pub returns-clause-hole : goal.returns-clause-hole
returns-clause-hole c = λ order m node i is out. told_hole order m node is i out
