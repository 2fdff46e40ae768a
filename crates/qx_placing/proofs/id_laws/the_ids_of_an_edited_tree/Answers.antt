use Rattle.qx_placing.proofs.EditedStates.{state_again}
use Rattle.qx_placing.proofs.ReadAgain.{ids_again, placed, read_again}
use Rattle.qx_placing.proofs.id_laws.the_ids_of_an_edited_tree.Goals as goal

pub returns-clause-placed : goal.returns-clause-placed
returns-clause-placed c = λ order m n c d nodes after ps e s block ed ra. placed order m n c d nodes after ps e s block ed ra.size ra

pub returns-clause-ids : goal.returns-clause-ids
returns-clause-ids c = λ order m n c d nodes after ps e s block ed same r. ids_again order m n c d nodes after ps e s block ed same r

pub returns-clause-again : goal.returns-clause-again
returns-clause-again c = λ order m n c d nodes after ps e s block ed ra ids apart all keeps r. read_again order m n c d nodes after ps e s block ed ra.size ra ids apart all keeps r

pub returns-clause-state : goal.returns-clause-state
returns-clause-state c = state_again
