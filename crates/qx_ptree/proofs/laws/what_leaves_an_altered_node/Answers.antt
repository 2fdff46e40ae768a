use Rattle.qx_ptree.proofs.AlteredNodes.{after_clear}
use Rattle.qx_ptree.proofs.SeveralChanges.{altered_stays, apart_altered, apart_kept}
use Rattle.qx_ptree.proofs.laws.what_leaves_an_altered_node.Goals as goal

pub returns-clause-others : goal.returns-clause-others
returns-clause-others c = altered_stays

pub returns-clause-clear : goal.returns-clause-clear
returns-clause-clear c = λ order changed old now m p v w s clear a met. after_clear order old m p w.node w.prepared.change w.prepared.sixteen s a changed clear v met

pub returns-clause-node : goal.returns-clause-node
returns-clause-node c = apart_kept

pub returns-clause-pair : goal.returns-clause-pair
returns-clause-pair c = apart_altered
