use Rattle.std.proofs.Common.{◌≡◌}
use Rattle.qx_patch.proofs.tests.filled.Given as goal

abbrev pub invariant-loop-b : goal.invariant-loop-b
invariant-loop-b l = l.patch.size ≡ 4
