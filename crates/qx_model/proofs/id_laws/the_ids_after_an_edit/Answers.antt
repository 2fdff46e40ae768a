use Rattle.qx_model.proofs.RenewingTurns.{turn_renews}
use Rattle.qx_model.proofs.id_laws.the_ids_after_an_edit.Goals as goal

pub returns : goal.returns
returns c = turn_renews
