use Rattle.std.proofs.Common.{rules, true, refl, sym, ap, subst, ◌∙◌, ◌+◌}
use Rattle.qx_blocks.specs.MemState.{holds}
use Rattle.qx_blocks.specs.MemView.{IsFreeSlot}
use Rattle.qx_blocks.proofs.HeldSlots.{free-none, free-found, fresh_keeps, fresh_view}
use Rattle.qx_blocks.proofs.memory.MemBlocksBlocks.fresh.Goals as goal

pub unreachable-requires : goal.unreachable-requires
unreachable-requires c = free-none c.self.inside c.args.self.now c.self.view_is c.requires (cc (c.in_default.ensures.none, c.as_slice.ensures.value))

pub invariant_of-self : goal.invariant_of-self
invariant_of-self c =
    fresh_keeps c.self.inside c.args.self.now c.in-Some.b (c.in-Some.b + 1) (record { held = true; bytes = c.in_ok-bytes.bytes }) c.self.invariant c.self.view_is c.requires
    (subst (λ xs. IsFreeSlot xs c.in-Some.b) c.as_slice.ensures.value c.in-Some.ensures.free) refl (search rules)

pub returns-clause-taken : goal.returns-clause-taken
returns-clause-taken c =
    fresh_view c.self.inside c.args.self.now c.in-Some.b (record { held = true; bytes = c.in_ok-bytes.bytes }) c.self.view_is c.requires
    (subst (λ xs. IsFreeSlot xs c.in-Some.b) c.as_slice.ensures.value c.in-Some.ensures.free) refl (search rules)

pub returns-clause-unheld : goal.returns-clause-unheld
returns-clause-unheld c =
    sym (ap (λ v. holds v c.in-Some.b) c.self.view_is)
    ∙ free-found c.self.inside c.in-Some.b (record { held = true; bytes = c.in_ok-bytes.bytes }) (subst (λ xs. IsFreeSlot xs c.in-Some.b) c.as_slice.ensures.value c.in-Some.ensures.free)
