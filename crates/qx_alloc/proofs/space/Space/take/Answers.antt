use Rattle.std.proofs.Common.{◌≡◌, ◌+◌, ◌∙◌, ap, sym, subst, arith, set, ℕ, true}
use Rattle.qx_alloc.specs.SpaceState.{free_in, IsConsistent}
use Rattle.qx_alloc.specs.SpaceView.{space_in}
use Rattle.qx_alloc.proofs.FreeBlocks.{none-free}
use Rattle.qx_alloc.proofs.SpaceSteps.{in_order-taken, free-taken, consistent-in}
use Rattle.qx_alloc.proofs.space.Space.take.Goals as goal

pub unreachable-requires : goal.unreachable-requires
unreachable-requires c =
    let none : free_in (space_in c.self.inside) ≡ 0 = none-free c.self.inside c.self.invariant c.in_default.ensures.none.each in
    omega (arith, c.requires, none, ap free_in c.self.view_is)

pub returns-clause-free : goal.returns-clause-free
returns-clause-free c =
    let b : ℕ = c.in-Some.b in
    (λ i. free_in (space_in (record c.self.inside { working = c.insert-2.ensures i; taken = c.insert.ensures i; hint = b + 1 })) + 1)
    ∙ free-taken c.self.inside b c.self.invariant c.in-Some.ensures.absent.0 c.in-Some.ensures.absent.1 c.in-Some.ensures.absent.2
    ∙ ap free_in c.self.view_is

pub returns-clause-consistent : goal.returns-clause-consistent
returns-clause-consistent c =
    let b : ℕ = c.in-Some.b in
    let a = record c.self.inside { working = set c.self.inside.working b true; taken = set c.self.inside.taken b true; hint = b + 1 } in
    let same : a ≡ record c.self.inside { working = c.insert-2.new.self; taken = c.insert.new.self; hint = b + 1 }
    = λ i. record c.self.inside { working = sym c.insert-2.ensures i; taken = sym c.insert.ensures i; hint = b + 1 } in
    subst (λ x. IsConsistent (space_in x)) same
    (consistent-in a (in_order-taken c.self.inside b c.self.invariant c.in-Some.ensures.absent.0 c.in-Some.ensures.absent.1))
