use Rattle.qx_model.proofs.EditOutlines.{directory_at}
use Rattle.qx_edits.proofs.LinkedRows.{moved_links}
use Rattle.qx_edits.proofs.ShownRows.{parent_shown}
use Rattle.qx_edits.proofs.row_laws.a_parent_is_moved.Goals as goal

pub returns-clause-shows : goal.returns-clause-shows
returns-clause-shows c = λ order s before after old new e n to holds whole shows dir sets others put. parent_shown order s before after old new e n holds whole shows (directory_at e.tree n dir) to sets others put

pub returns-clause-links : goal.returns-clause-links
returns-clause-links c = λ s links e n to whole dir has. moved_links s links e n (directory_at e.tree n dir) has whole to
