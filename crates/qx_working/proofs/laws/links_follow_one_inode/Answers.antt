use Rattle.qx_working.proofs.SetLinks.{links_set}
use Rattle.qx_working.proofs.laws.links_follow_one_inode.Goals as goal

pub returns : goal.returns
returns c = links_set
