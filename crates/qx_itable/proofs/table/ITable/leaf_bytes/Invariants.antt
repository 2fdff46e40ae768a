use Rattle.std.proofs.Common.{ℕ, ◌<◌}
use Rattle.qx_itable.proofs.WrittenLeaves.{IsWritten}
use Rattle.qx_itable.proofs.table.ITable.leaf_bytes.Given as goal

abbrev pub invariant-loop-place : goal.invariant-loop-place
invariant-loop-place l = (k : ℕ) → k < l.place → IsWritten l.self l.first l.into k
