use Rattle.qx_model.specs.Edits.{add_row, attr_changed, unchanged}
use Rattle.qx_model.proofs.EditOutlines.{directory_at}
use Rattle.qx_edits.proofs.ComposedNames.{linked_shown}
use Rattle.qx_edits.proofs.LinkedRows.{added_links}
use Rattle.qx_edits.proofs.ShownInodes.{attr_links}
use Rattle.qx_edits.specs.LinkEdits.{one_more}
use Rattle.qx_edits.proofs.name_laws.a_name_is_linked.Goals as goal

pub returns-clause-shows : goal.returns-clause-shows
returns-clause-shows c = λ order s before mid after old new t p n holds whole shows dir times sets others gets put. linked_shown order s before mid after old new t p n holds whole shows dir times sets others gets put

pub returns-clause-links : goal.returns-clause-links
returns-clause-links c = λ s links t p n dir live plain has. attr_links (one_more links n) (add_row s p.directory n p.name (unchanged t)) n (attr_changed s.moment) (added_links s links (unchanged t) p.directory (directory_at t p.directory dir) has n p.name live plain)
