use Rattle.qx_batch.proofs.NodeContentsAfter.{content_changed, content_kept, content_put}
use Rattle.qx_batch.proofs.laws.what_a_node_holds.Goals as goal

pub returns-clause-kept : goal.returns-clause-kept
returns-clause-kept c = content_kept

pub returns-clause-changed : goal.returns-clause-changed
returns-clause-changed c = content_changed

pub returns-clause-put : goal.returns-clause-put
returns-clause-put c = λ order m n node at bytes is can puts. content_put order m n node at bytes is can puts
