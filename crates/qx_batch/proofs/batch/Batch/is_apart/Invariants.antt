use Rattle.std.specs.Prelude.{take}
use Rattle.qx_batch.specs.Batches.{IsApartFrom}
use Rattle.qx_batch.proofs.batch.Batch.is_apart.Given as goal

abbrev pub invariant-loop-waiting : goal.invariant-loop-waiting
invariant-loop-waiting l = IsApartFrom (take l.waiting-index l.waiting-items) l.prep
