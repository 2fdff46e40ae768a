use Rattle.std.proofs.Common.{◌≡◌, ◌+◌, ◌<◌, sym, subst, ap, ◌∙◌}
use Rattle.std.specs.Prelude.{replicate}
use Rattle.std.specs.FinMap.{insert}
use Rattle.qx_alloc.specs.SpaceState.{free_in, IsConsistent}
use Rattle.qx_blocks.specs.BlockState.{with_fresh}
use Rattle.qx_cache.specs.CacheState.{state_of, with_taken}
use Rattle.qx_cache.specs.CacheView.{cache_in, IsInOrder}
use Rattle.qx_cache.proofs.BlockMeanings.{state-taken}
use Rattle.qx_cache.proofs.OrderSteps.{order-taken}
use Rattle.qx_cache.proofs.blocks.CacheBlocks.fresh.Goals as goal

pub take-b-requires : goal.take-b-requires
take-b-requires g c = subst (λ s. 0 < free_in s.space) (sym c.self.view_is) c.requires

pub invariant_of-self-2 : goal.invariant_of-self-2
invariant_of-self-2 g c =
    let a = c.self.inside in
    let v = cache_in a.host a.size a.space a.changes a.frozen_changes a.clean in
    let b = c.take-b.result in
    let blocks : c.put.new.self.blocks ≡ insert a.changes.blocks b (replicate a.size 0) = ap (λ p. p.blocks) c.put.ensures ∙ (λ i. insert (c.reserve.ensures.blocks i) b (c.zeros.ensures i)) in
    let whole : cache_in a.host a.size c.take-b.new.self c.put.new.self a.frozen_changes c.kept_but-self-inside.result ≡ with_taken v b = λ i. record v { space = c.take-b.ensures.taken i; changes = blocks i; kept = c.kept_but-self-inside.ensures i } in
    subst (λ w. IsInOrder g.H.Dev.outside w c.put.new.self a.frozen_changes a.buffer.items a.spare.items) (sym whole)
    (order-taken v a.changes a.frozen_changes a.buffer.items a.spare.items b c.self.invariant c.take-b.ensures.unheld (subst IsConsistent c.take-b.ensures.taken c.take-b.ensures.consistent)
    c.put.new.self (ap (λ p. p.size) c.put.ensures ∙ c.reserve.ensures.size))

pub returns-clause-taken : goal.returns-clause-taken
returns-clause-taken g c =
    let a = c.self.inside in
    let v = cache_in a.host a.size a.space a.changes a.frozen_changes a.clean in
    let b = c.take-b.result in
    let blocks : c.put.new.self.blocks ≡ insert a.changes.blocks b (replicate a.size 0) = ap (λ p. p.blocks) c.put.ensures ∙ (λ i. insert (c.reserve.ensures.blocks i) b (c.zeros.ensures i)) in
    let whole : cache_in a.host a.size c.take-b.new.self c.put.new.self a.frozen_changes c.kept_but-self-inside.result ≡ with_taken v b = λ i. record v { space = c.take-b.ensures.taken i; changes = blocks i; kept = c.kept_but-self-inside.ensures i } in
    ap (state_of g.H.Dev.outside) whole
    ∙ state-taken g.H.Dev.outside v b c.take-b.ensures.unheld (sym (ap (λ s. free_in s + 1) c.take-b.ensures.taken) ∙ c.take-b.ensures.free)
    ∙ ap (λ w. with_fresh (state_of g.H.Dev.outside w) b) c.self.view_is

pub returns-clause-cache : goal.returns-clause-cache
returns-clause-cache g c =
    let a = c.self.inside in
    let v = cache_in a.host a.size a.space a.changes a.frozen_changes a.clean in
    let b = c.take-b.result in
    let blocks : c.put.new.self.blocks ≡ insert a.changes.blocks b (replicate a.size 0) = ap (λ p. p.blocks) c.put.ensures ∙ (λ i. insert (c.reserve.ensures.blocks i) b (c.zeros.ensures i)) in
    let whole : cache_in a.host a.size c.take-b.new.self c.put.new.self a.frozen_changes c.kept_but-self-inside.result ≡ with_taken v b = λ i. record v { space = c.take-b.ensures.taken i; changes = blocks i; kept = c.kept_but-self-inside.ensures i } in
    whole ∙ ap (λ w. with_taken w b) c.self.view_is
