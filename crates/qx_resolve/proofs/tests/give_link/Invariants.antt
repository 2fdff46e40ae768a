use Rattle.std.proofs.Common.{◌≡◌, length}
use Rattle.qx_resolve.proofs.tests.give_link.Given as goal

abbrev pub invariant-loop-k : goal.invariant-loop-k
invariant-loop-k g l = length l.bytes ≡ 512
