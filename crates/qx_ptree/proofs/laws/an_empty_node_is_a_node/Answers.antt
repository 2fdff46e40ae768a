use Rattle.qx_ptree.proofs.EmptyNodes.{empty-apart, empty-node, empty-visits}
use Rattle.qx_ptree.proofs.laws.an_empty_node_is_a_node.Goals as goal

pub returns-clause-node : goal.returns-clause-node
returns-clause-node c = empty-node

pub returns-clause-visits : goal.returns-clause-visits
returns-clause-visits c = empty-visits

pub returns-clause-apart : goal.returns-clause-apart
returns-clause-apart c = empty-apart
