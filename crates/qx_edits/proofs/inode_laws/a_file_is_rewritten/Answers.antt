use Rattle.qx_edits.proofs.ShownInodes.{rewritten_links, rewritten_shown}
use Rattle.qx_edits.proofs.inode_laws.a_file_is_rewritten.Goals as goal

pub returns-clause-shows : goal.returns-clause-shows
returns-clause-shows c = λ order s before after old new t f size content leaves pos shows live body sets others long present bytes.
    rewritten_shown s t f size content leaves live body order before after old new pos shows sets others long present bytes

pub returns-clause-links : goal.returns-clause-links
returns-clause-links c = λ s links t f size content leaves live body has. rewritten_links s t f size content leaves live body links has
