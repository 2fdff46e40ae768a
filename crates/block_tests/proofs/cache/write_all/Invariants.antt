use Rattle.std.proofs.Common.{◌≡◌}
use Rattle.block_tests.proofs.cache.write_all.Given as goal

abbrev pub invariant-loop-count : goal.invariant-loop-count
invariant-loop-count g l = l.cache.space.is_frozen ≡ l.fn.cache.space.is_frozen
