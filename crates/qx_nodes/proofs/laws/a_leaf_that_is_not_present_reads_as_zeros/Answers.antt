use Rattle.qx_nodes.proofs.AbsentLeaves.{absent_bytes}
use Rattle.qx_nodes.proofs.laws.a_leaf_that_is_not_present_reads_as_zeros.Goals as goal

pub returns : goal.returns
returns c = absent_bytes
