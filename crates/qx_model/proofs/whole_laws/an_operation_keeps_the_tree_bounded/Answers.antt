use Rattle.qx_model.proofs.BoundedTrees.{empty_bounded, operation_keeps_bounded}
use Rattle.qx_model.proofs.whole_laws.an_operation_keeps_the_tree_bounded.Goals as goal

pub returns-clause-operation : goal.returns-clause-operation
returns-clause-operation c = operation_keeps_bounded

pub returns-clause-start : goal.returns-clause-start
returns-clause-start c = empty_bounded
