use Rattle.std.proofs.Common.{◌≡◌, length}
use Rattle.qx_resolve.proofs.tests.rows_of.Given as goal

abbrev pub invariant-loop-place : goal.invariant-loop-place
invariant-loop-place l = length l.bytes ≡ 512
