use Rattle.qx_placing.proofs.EditedCopies.{met_again, works_at}
use Rattle.qx_placing.proofs.id_laws.the_working_tree_holds_the_edited_tree.Goals as goal

pub returns-clause-met : goal.returns-clause-met
returns-clause-met c = λ order m n c d t nodes after ps e ed all. met_again order m n c d t nodes after ps e ed all

pub returns-clause-blocks : goal.returns-clause-blocks
returns-clause-blocks c = λ order m n c d t nodes after ps e ed all b. works_at order m n c d t nodes after ps e ed all b
