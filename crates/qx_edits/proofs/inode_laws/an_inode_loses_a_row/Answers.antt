use Rattle.qx_edits.proofs.ShownInodes.{gone_shown, lost_links, stays_shown}
use Rattle.qx_edits.proofs.inode_laws.an_inode_loses_a_row.Goals as goal

pub returns-clause-goes : goal.returns-clause-goes
returns-clause-goes c = λ order s before after old new e n pos shows live none sets others. gone_shown s e n order before after old new pos shows live none sets others

pub returns-clause-stays : goal.returns-clause-stays
returns-clause-stays c = λ order s before after old new e n pos shows some sets same. stays_shown s e n order before after old new pos shows some sets same

pub returns-clause-links : goal.returns-clause-links
returns-clause-links c = λ s links e n live bare has. lost_links s e n links live bare has
