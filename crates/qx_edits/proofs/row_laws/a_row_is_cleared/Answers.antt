use Rattle.std.proofs.Common.{◌<◌, length, subst}
use Rattle.std.specs.Prelude.{◌≡◌, Some}
use Rattle.qx_model.specs.Tree.{named_by}
use Rattle.qx_model.proofs.EditOutlines.{directory_at, directory_slots}
use Rattle.qx_model.proofs.Outlines.{slot_in}
use Rattle.qx_edits.proofs.LinkedRows.{cleared_links}
use Rattle.qx_edits.proofs.ShownNamedRows.{cleared_shown}
use Rattle.qx_edits.proofs.row_laws.a_row_is_cleared.Goals as goal

pub returns-clause-shows : goal.returns-clause-shows
returns-clause-shows c = λ order s before after old new e d k holds whole shows dir low sets others loses put. (let h = directory_at e.tree d dir in
    cleared_shown order s before after old new e d holds whole shows h sets k (subst (λ xs. k < length xs) (directory_slots e.tree d h) low) others loses put)

pub returns-clause-links : goal.returns-clause-links
returns-clause-links c = λ s links e d k n dir low named live has. (let h = directory_at e.tree d dir in
    cleared_links s links e d h has k n (subst (λ xs. k < length xs) (directory_slots e.tree d h) low) (subst (λ xs. named_by (slot_in xs k) ≡ Some n) (directory_slots e.tree d h) named) live)
