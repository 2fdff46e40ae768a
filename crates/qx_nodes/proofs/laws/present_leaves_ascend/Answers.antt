use Rattle.qx_nodes.proofs.MetLeaves.{present_ascends}
use Rattle.qx_nodes.proofs.laws.present_leaves_ascend.Goals as goal

pub returns : goal.returns
returns c = present_ascends
