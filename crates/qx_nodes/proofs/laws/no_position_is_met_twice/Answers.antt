use Rattle.qx_nodes.proofs.DistinctPositions.{node_distinct}
use Rattle.qx_nodes.proofs.laws.no_position_is_met_twice.Goals as goal

pub returns : goal.returns
returns c = node_distinct
