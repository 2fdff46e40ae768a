use Rattle.qx_model.proofs.UsedNames.{empty_used, operation_used}
use Rattle.qx_model.proofs.whole_laws.an_operation_keeps_long_names_in_use.Goals as goal

pub returns-clause-operation : goal.returns-clause-operation
returns-clause-operation c = operation_used

pub returns-clause-start : goal.returns-clause-start
returns-clause-start c = empty_used
