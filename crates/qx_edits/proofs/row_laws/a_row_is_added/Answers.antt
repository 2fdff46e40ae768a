use Rattle.std.proofs.Common.{subst}
use Rattle.std.specs.List.{position_or_len}
use Rattle.qx_dir.specs.Rows.{row_of}
use Rattle.qx_model.specs.Directories.{is_unused}
use Rattle.qx_model.specs.Edits.{absent_number}
use Rattle.qx_model.proofs.EditOutlines.{directory_at, directory_slots}
use Rattle.qx_edits.specs.RecordEdits.{SetsRecord}
use Rattle.qx_edits.proofs.LinkedRows.{added_links}
use Rattle.qx_edits.proofs.ShownNamedRows.{added_shown}
use Rattle.qx_edits.proofs.row_laws.a_row_is_added.Goals as goal

pub returns-clause-shows : goal.returns-clause-shows
returns-clause-shows c = λ order s before after old new e d n name holds whole shows dir sets others gets put. (let h = directory_at e.tree d dir in
    added_shown order s before after old new e d holds whole shows h sets n name others gets (subst (λ xs. SetsRecord order s.blocksize (position_or_len is_unused xs) (row_of n name (absent_number e.tree)) (old d) (new d)) (directory_slots e.tree d h) put))

pub returns-clause-links : goal.returns-clause-links
returns-clause-links c = λ s links e d n name dir live plain has. added_links s links e d (directory_at e.tree d dir) has n name live plain
