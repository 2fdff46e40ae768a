use Rattle.qx_working.proofs.LaidNodes.{node_put}
use Rattle.qx_working.proofs.laws.a_node_is_put.Goals as goal

pub returns : goal.returns
returns c = node_put
