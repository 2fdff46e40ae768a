use Rattle.qx_copies.proofs.ShownEntries.{shows_set}
use Rattle.qx_copies.proofs.edit_laws.an_inode_is_set.Goals as goal

pub returns : goal.returns
returns c = shows_set
