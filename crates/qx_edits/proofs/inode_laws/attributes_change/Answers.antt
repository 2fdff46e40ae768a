use Rattle.qx_edits.proofs.ShownInodes.{attr_links, attr_shown}
use Rattle.qx_edits.proofs.inode_laws.attributes_change.Goals as goal

pub returns-clause-shows : goal.returns-clause-shows
returns-clause-shows c = attr_shown

pub returns-clause-links : goal.returns-clause-links
returns-clause-links c = attr_links
