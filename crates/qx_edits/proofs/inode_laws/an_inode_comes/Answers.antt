use Rattle.std.specs.Prelude.{Some}
use Rattle.qx_copies.proofs.ShownEntries.{shows_set}
use Rattle.qx_edits.proofs.NamedLinks.{links_new}
use Rattle.qx_edits.proofs.inode_laws.an_inode_comes.Goals as goal

pub returns-clause-shows : goal.returns-clause-shows
returns-clause-shows c = λ order blocksize before after old new e n i x pos from within shows sets others is. shows_set order blocksize before after old new e.tree n (Some i) (Some x) pos from within shows sets others is

pub returns-clause-links : goal.returns-clause-links
returns-clause-links c = λ links e n x link from within absent bare rows parent has. links_new links e.tree n has x link from within absent bare rows parent
