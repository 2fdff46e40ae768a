use Rattle.qx_changes.proofs.MadeNodes.{readable_after}
use Rattle.qx_changes.proofs.laws.a_state_stays_readable.Goals as goal

pub returns : goal.returns
returns c old new w after ps held r of made laid most = readable_after old new w after ps r of held made laid most
