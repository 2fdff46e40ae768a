use Rattle.std.proofs.Common.{sym, ◌∙◌, ap, arith}
use Rattle.qx_itable.specs.FirstPlace.{first_absent_in}
use Rattle.qx_itable.proofs.FirstPlaces.{first-known, none-known}
use Rattle.qx_itable.proofs.live.LiveSet.first_absent.Goals as goal

pub returns-then-self-limit-clause-first : goal.returns-then-self-limit-clause-first
returns-then-self-limit-clause-first c =
    sym (first-known c.self.inside.places c.self.inside.first_absent c.self.invariant.first (omega (arith, c.if-self-limit.true, c.limit.ensures))) ∙ ap first_absent_in c.self.view_is

pub returns-else-self-limit-clause-first : goal.returns-else-self-limit-clause-first
returns-else-self-limit-clause-first c =
    sym (none-known c.self.inside.places c.self.inside.first_absent c.self.invariant.first (omega (arith, c.if-self-limit.false, c.limit.ensures))) ∙ ap first_absent_in c.self.view_is
