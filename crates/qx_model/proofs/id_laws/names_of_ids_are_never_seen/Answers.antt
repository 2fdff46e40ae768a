use Rattle.qx_model.proofs.AlikeMachines.{differ_back}
use Rattle.qx_model.proofs.AlikeTurns.{faults_alike, next_alike, turn_alike}
use Rattle.qx_model.proofs.id_laws.names_of_ids_are_never_seen.Goals as goal

pub returns-clause-turn : goal.returns-clause-turn
returns-clause-turn c = turn_alike

pub returns-clause-machine : goal.returns-clause-machine
returns-clause-machine c = next_alike

pub returns-clause-faults : goal.returns-clause-faults
returns-clause-faults c = faults_alike

pub returns-clause-back : goal.returns-clause-back
returns-clause-back c = differ_back
