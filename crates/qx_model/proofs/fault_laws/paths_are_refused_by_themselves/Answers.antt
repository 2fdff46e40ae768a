use Rattle.qx_model.proofs.PathRefusals.{operation_refused, walk_refused}
use Rattle.qx_model.proofs.fault_laws.paths_are_refused_by_themselves.Goals as goal

pub returns-clause-walk : goal.returns-clause-walk
returns-clause-walk c = walk_refused

pub returns-clause-operation : goal.returns-clause-operation
returns-clause-operation c = operation_refused
