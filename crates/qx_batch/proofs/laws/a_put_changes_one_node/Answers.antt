use Rattle.qx_batch.proofs.PutIntoNodes.{are_put}
use Rattle.qx_batch.proofs.laws.a_put_changes_one_node.Goals as goal

pub returns : goal.returns
returns c = λ order nodes m n owner at node bytes s laid here can puts. are_put order nodes m n owner at node bytes s laid here can puts
