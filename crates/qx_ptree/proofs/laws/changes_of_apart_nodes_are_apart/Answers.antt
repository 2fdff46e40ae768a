use Rattle.qx_ptree.proofs.SeveralChanges.{clear_node, clear_pair}
use Rattle.qx_ptree.proofs.WaitingChanges.{apart_test}
use Rattle.qx_ptree.proofs.laws.changes_of_apart_nodes_are_apart.Goals as goal

pub returns-clause-node : goal.returns-clause-node
returns-clause-node c = λ order old now p node v w works apart met. clear_node order old now p node w works apart v met

pub returns-clause-pair : goal.returns-clause-pair
returns-clause-pair c = clear_pair

pub returns-clause-passes : goal.returns-clause-passes
returns-clause-passes c = λ order old p q clear. apart_test p q clear.own
