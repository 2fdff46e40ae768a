use Rattle.qx_nodes.proofs.LeafPaths.{leaf_local}
use Rattle.qx_nodes.proofs.ContentLocality.{leaf_bytes_local}
use Rattle.qx_nodes.proofs.laws.what_is_met_decides_leaves.Goals as goal

pub returns-clause-leaf : goal.returns-clause-leaf
returns-clause-leaf c = leaf_local

pub returns-clause-bytes : goal.returns-clause-bytes
returns-clause-bytes c = leaf_bytes_local
