use Rattle.qx_batch.proofs.PlacedNodes.{with_other, with_own}
use Rattle.qx_batch.proofs.laws.where_the_new_nodes_stand.Goals as goal

pub returns-clause-own : goal.returns-clause-own
returns-clause-own c = with_own

pub returns-clause-other : goal.returns-clause-other
returns-clause-other c = with_other
