use Rattle.std.proofs.Common.{◌<◌, length, subst}
use Rattle.qx_model.proofs.EditOutlines.{directory_at, directory_slots}
use Rattle.qx_edits.proofs.WholeEdits.{added_whole, attr_whole_tree, cleared_whole, come_whole, lost_whole, moved_whole, pointed_whole}
use Rattle.qx_edits.proofs.whole_laws.each_edit_keeps_the_tree_whole.Goals as goal

pub returns-clause-added : goal.returns-clause-added
returns-clause-added c = λ s e d n name holds whole dir. added_whole s e d holds whole (directory_at e.tree d dir) n name

pub returns-clause-cleared : goal.returns-clause-cleared
returns-clause-cleared c = λ s e d k holds whole dir from low. (let h = directory_at e.tree d dir in cleared_whole s e d holds whole h k from (subst (λ xs. k < length xs) (directory_slots e.tree d h) low))

pub returns-clause-pointed : goal.returns-clause-pointed
returns-clause-pointed c = λ s e d k n holds whole dir from low. (let h = directory_at e.tree d dir in pointed_whole s e d holds whole h k n from (subst (λ xs. k < length xs) (directory_slots e.tree d h) low))

pub returns-clause-moved : goal.returns-clause-moved
returns-clause-moved c = λ s e n to holds whole dir. moved_whole s e n holds whole (directory_at e.tree n dir) to

pub returns-clause-lost : goal.returns-clause-lost
returns-clause-lost c = λ s e n whole. lost_whole s e n whole

pub returns-clause-attributes : goal.returns-clause-attributes
returns-clause-attributes c = λ blocksize e n change whole. attr_whole_tree blocksize e n change whole

pub returns-clause-comes : goal.returns-clause-comes
returns-clause-comes c = λ blocksize e n x whole own none. come_whole blocksize e n x whole own none
