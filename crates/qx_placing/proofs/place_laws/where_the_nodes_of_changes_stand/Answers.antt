use Rattle.qx_placing.proofs.MovedBlocks.{moved_made, moved_none, moved_put, shared_committed, shared_put}
use Rattle.qx_placing.proofs.place_laws.where_the_nodes_of_changes_stand.Goals as goal

pub returns-clause-made : goal.returns-clause-made
returns-clause-made c = moved_made

pub returns-clause-put : goal.returns-clause-put
returns-clause-put c = moved_put

pub returns-clause-shared : goal.returns-clause-shared
returns-clause-shared c = shared_committed

pub returns-clause-shared_put : goal.returns-clause-shared_put
returns-clause-shared_put c = shared_put

pub returns-clause-same : goal.returns-clause-same
returns-clause-same c = moved_none
