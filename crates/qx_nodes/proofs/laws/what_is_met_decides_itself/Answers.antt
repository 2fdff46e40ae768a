use Rattle.qx_nodes.proofs.VisitLocality.{visits_local}
use Rattle.qx_nodes.proofs.laws.what_is_met_decides_itself.Goals as goal

pub returns : goal.returns
returns c = visits_local
