use Rattle.qx_model.proofs.AlikeMachines.{read_differ}
use Rattle.qx_model.proofs.id_laws.what_is_read_alike_differs_in_names.Goals as goal

pub returns : goal.returns
returns c = read_differ
