use Rattle.qx_placing.proofs.EditedPositions.{stands_fresh, stands_still}
use Rattle.qx_placing.proofs.StandingBlocks.{at_position}
use Rattle.qx_placing.proofs.place_laws.where_the_blocks_of_an_edit_stand.Goals as goal

pub returns-clause-fresh : goal.returns-clause-fresh
returns-clause-fresh c = λ order m n c d t nodes after ps e private ed are p b s there. stands_fresh order m n c d t nodes after ps e private ed are p b s there

pub returns-clause-stays : goal.returns-clause-stays
returns-clause-stays c = λ order m n c d t nodes after ps e private ed are p b s out. stands_still order m n c d t nodes after ps e private ed are p b s out

pub returns-clause-at : goal.returns-clause-at
returns-clause-at c = at_position
