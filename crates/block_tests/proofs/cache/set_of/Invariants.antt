use Rattle.std.proofs.Common.{◌≡◌}
use Rattle.qx_blockset.specs.Members.{limit_of}
use Rattle.block_tests.proofs.cache.set_of.Given as goal

abbrev pub invariant-loop-b : goal.invariant-loop-b
invariant-loop-b l = limit_of l.set ≡ 16
