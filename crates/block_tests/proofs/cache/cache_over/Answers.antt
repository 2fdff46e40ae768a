use Rattle.std.proofs.Common.{ap, ◌∙◌}
use Rattle.qx_alloc.specs.SpaceState.{is_private_in}
use Rattle.qx_cache.proofs.Spaces.{space-clean}
use Rattle.block_tests.proofs.cache.cache_over.Goals as goal

pub new-requires-2-clause-clean : goal.new-requires-2-clause-clean
new-requires-2-clause-clean g c b = ap (λ s. is_private_in s b) c.in_ok-space.ensures.space ∙ space-clean 4 c.in_ok-held.held b
