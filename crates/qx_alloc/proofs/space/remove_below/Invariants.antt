use Rattle.std.proofs.Common.{◌≡◌}
use Rattle.qx_alloc.specs.SpaceState.{users_in}
use Rattle.qx_alloc.proofs.space.remove_below.Given as goal

abbrev pub invariant-loop-b : goal.invariant-loop-b
invariant-loop-b l = l.set ≡ users_in l.b l.fn.set
