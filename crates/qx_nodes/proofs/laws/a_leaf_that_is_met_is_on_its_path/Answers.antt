use Rattle.qx_nodes.proofs.MetLeaves.{node_leaf_found}
use Rattle.qx_nodes.proofs.laws.a_leaf_that_is_met_is_on_its_path.Goals as goal

pub returns : goal.returns
returns c = node_leaf_found
