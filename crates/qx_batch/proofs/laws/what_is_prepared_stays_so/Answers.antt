use Rattle.qx_batch.proofs.KeptNodes.{prepared_still}
use Rattle.qx_batch.proofs.laws.what_is_prepared_stays_so.Goals as goal

pub returns : goal.returns
returns c = λ order old now after ps ws k a. prepared_still order old now after ps ws k a
