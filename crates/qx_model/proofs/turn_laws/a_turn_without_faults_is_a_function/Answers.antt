use Rattle.qx_model.proofs.QuietTurns.{quiet_comes, quiet_turn}
use Rattle.qx_model.proofs.turn_laws.a_turn_without_faults_is_a_function.Goals as goal

pub returns-clause-only : goal.returns-clause-only
returns-clause-only c = quiet_turn

pub returns-clause-comes : goal.returns-clause-comes
returns-clause-comes c = quiet_comes
