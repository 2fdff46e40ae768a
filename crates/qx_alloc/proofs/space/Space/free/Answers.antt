use Rattle.std.proofs.Common.{ap, arith}
use Rattle.qx_alloc.specs.SpaceState.{free_in}
use Rattle.qx_alloc.proofs.FreeBlocks.{count-free}
use Rattle.qx_alloc.proofs.space.Space.free.Goals as goal

pub overflow_sub-users : goal.overflow_sub-users
overflow_sub-users c = omega (arith, count-free c.self.inside c.self.invariant, c.self.invariant.taken_long, c.limit.ensures, c.saturating_sub-users.ensures, c.count.ensures)

pub returns-clause-free : goal.returns-clause-free
returns-clause-free c = omega (arith, count-free c.self.inside c.self.invariant, c.self.invariant.taken_long, c.limit.ensures, c.saturating_sub-users.ensures, c.count.ensures, ap free_in c.self.view_is)
