use Rattle.qx_model.proofs.QuietTurns.{faults_shown}
use Rattle.qx_model.proofs.ShownFaults.{calm_turn}
use Rattle.qx_model.proofs.fault_laws.a_turn_tells_of_its_faults.Goals as goal

pub returns-clause-some : goal.returns-clause-some
returns-clause-some c = faults_shown

pub returns-clause-none : goal.returns-clause-none
returns-clause-none c = calm_turn
