use Rattle.std.proofs.Common.{◌<◌, length, subst}
use Rattle.qx_model.proofs.EditOutlines.{directory_at, directory_slots}
use Rattle.std.specs.Prelude.{◌≡◌, Some}
use Rattle.qx_model.specs.Tree.{named_by}
use Rattle.qx_model.proofs.Outlines.{slot_in}
use Rattle.qx_edits.proofs.LinkedRows.{pointed_links}
use Rattle.qx_edits.proofs.ShownRows.{pointed_shown}
use Rattle.qx_edits.proofs.row_laws.a_row_is_pointed.Goals as goal

pub returns-clause-shows : goal.returns-clause-shows
returns-clause-shows c = λ order s before after old new e d k n holds whole shows dir low sets others put. (let h = directory_at e.tree d dir in
    pointed_shown order s before after old new e d holds whole shows h k n (subst (λ xs. k < length xs) (directory_slots e.tree d h) low) sets others put)

pub returns-clause-links : goal.returns-clause-links
returns-clause-links c = λ s links e d k m n dir low named differ live_m live_n has. (let h = directory_at e.tree d dir in
    pointed_links s links e d h has k m n (subst (λ xs. k < length xs) (directory_slots e.tree d h) low) (subst (λ xs. named_by (slot_in xs k) ≡ Some m) (directory_slots e.tree d h) named) live_m live_n)
