use Rattle.qx_edits.proofs.ComposedMoves.{moved_shown, moved_to_links}
use Rattle.qx_edits.proofs.move_laws.a_name_is_moved.Goals as goal

pub returns-clause-shows : goal.returns-clause-shows
returns-clause-shows c = λ order s first cleared added moved last old without with new t from to holds whole shows dir past low target clears adds may times.
    moved_shown s t from to holds whole dir past low target order first cleared added moved last old without with new shows clears adds may times

pub returns-clause-links : goal.returns-clause-links
returns-clause-links c = λ s links t from to holds whole dir past low named live target plain has. moved_to_links s t from to holds whole dir past low target links named live plain has
