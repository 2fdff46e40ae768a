use Rattle.qx_ptree.proofs.KeptNodes.{kept_others, kept_taken, node_others, node_taken}
use Rattle.qx_ptree.proofs.laws.what_leaves_a_node.Goals as goal

pub returns-clause-taken : goal.returns-clause-taken
returns-clause-taken c = λ order fresh m n node s works told t. kept_taken order fresh m n node s works told t

pub returns-clause-others : goal.returns-clause-others
returns-clause-others c = λ order changed m n node l out. kept_others order changed m n node l out

pub returns-clause-node_taken : goal.returns-clause-node_taken
returns-clause-node_taken c = λ order fresh m n node is s t. node_taken order fresh m n node s t is

pub returns-clause-node_others : goal.returns-clause-node_others
returns-clause-node_others c = λ order changed m n node is s l out. node_others order changed m n node s l out is
