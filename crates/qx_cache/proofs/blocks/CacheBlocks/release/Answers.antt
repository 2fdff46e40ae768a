use Rattle.std.proofs.Common.{◌≡◌, ◌+◌, true, sym, subst, ap, ◌∙◌}
use Rattle.std.specs.Prelude.{if◌then◌else◌}
use Rattle.qx_blockset.specs.Members.{has}
use Rattle.qx_alloc.specs.SpaceState.{free_in, is_private_in, IsConsistent}
use Rattle.qx_alloc.specs.SpaceState as space
use Rattle.qx_patch.specs.PatchState as patch
use Rattle.qx_blocks.specs.BlockState.{without}
use Rattle.qx_cache.specs.CacheState.{state_of}
use Rattle.qx_cache.specs.CacheView.{cache_in, IsInOrder}
use Rattle.qx_cache.proofs.BlockMeanings.{state-released}
use Rattle.qx_cache.proofs.OrderSteps.{order-released}
use Rattle.qx_cache.proofs.blocks.CacheBlocks.release.Goals as goal

pub invariant_of-self : goal.invariant_of-self
invariant_of-self g c =
    let a = c.self.inside in
    let v = cache_in a.host a.size a.space a.changes a.frozen_changes a.clean in
    let works : has a.space.working c.args.b ≡ true = ap (λ s. has s.space.working c.args.b) c.self.view_is ∙ c.requires in
    subst (λ p. IsInOrder g.H.Dev.outside (cache_in a.host a.size c.give_back.new.self p a.frozen_changes a.clean) p a.frozen_changes a.buffer.items a.spare.items) (sym c.take_out.ensures)
    (subst (λ s. IsInOrder g.H.Dev.outside (cache_in a.host a.size s (patch.without_block a.changes c.args.b) a.frozen_changes a.clean) (patch.without_block a.changes c.args.b) a.frozen_changes a.buffer.items a.spare.items) (sym c.give_back.ensures.given)
    (order-released v a.changes a.frozen_changes a.buffer.items a.spare.items c.args.b c.self.invariant works (subst IsConsistent c.give_back.ensures.given c.give_back.ensures.consistent)))

pub returns-clause-released : goal.returns-clause-released
returns-clause-released g c =
    let a = c.self.inside in
    let v = cache_in a.host a.size a.space a.changes a.frozen_changes a.clean in
    let works : has a.space.working c.args.b ≡ true = ap (λ s. has s.space.working c.args.b) c.self.view_is ∙ c.requires in
    let more : free_in (space.without a.space c.args.b) ≡ (if is_private_in a.space c.args.b then free_in a.space + 1 else free_in a.space) = sym (ap free_in c.give_back.ensures.given) ∙ c.give_back.ensures.free in
    (λ i. state_of g.H.Dev.outside (cache_in a.host a.size (c.give_back.ensures.given i) (c.take_out.ensures i) a.frozen_changes a.clean))
    ∙ state-released g.H.Dev.outside v c.args.b c.self.invariant.coherent works more
    ∙ ap (λ w. without (state_of g.H.Dev.outside w) c.args.b) c.self.view_is
