use Rattle.qx_nodes.proofs.LeafPaths.{node_leaf_met}
use Rattle.qx_nodes.proofs.laws.a_leaf_by_its_path_is_met.Goals as goal

pub returns : goal.returns
returns c = node_leaf_met
