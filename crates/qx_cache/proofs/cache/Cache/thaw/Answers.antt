use Rattle.std.proofs.Common.{◌≡◌, true, [], sym, subst, ap, ◌∙◌}
use Rattle.std.specs.Prelude.{unwrap_or, if◌then◌else◌}
use Rattle.std.specs.Option.{option_or}
use Rattle.std.specs.FinMap.{get}
use Rattle.qx_blockset.specs.Members.{has}
use Rattle.qx_alloc.specs.SpaceState.{SpaceState, is_held, is_private_in, IsConsistent}
use Rattle.qx_cache.specs.CacheState.{bytes_over, device_block}
use Rattle.qx_cache.specs.CacheView.{cache_in, IsInOrder}
use Rattle.qx_cache.proofs.OrderSteps.{order-thawed}
use Rattle.qx_cache.proofs.Spaces.{works-held}
use Rattle.qx_cache.proofs.cache.Cache.thaw.Goals as goal

pub invariant_of-self : goal.invariant_of-self
invariant_of-self g c =
    let a = c.self.inside in
    let v = cache_in a.host a.size a.space a.changes a.frozen_changes a.clean in
    subst (λ s. IsInOrder g.H.Dev.outside (cache_in a.host a.size s a.changes a.frozen_changes a.clean) a.changes a.frozen_changes a.buffer.items a.spare.items) (sym c.thaw_into_durable.ensures.thawed)
    (order-thawed v a.changes a.frozen_changes a.buffer.items a.spare.items c.self.invariant (ap (λ w. w.space.is_frozen) c.self.view_is ∙ c.requires.frozen) (ap (λ w. w.frozen_changes) c.self.view_is ∙ c.requires.written)
    (subst IsConsistent c.thaw_into_durable.ensures.thawed c.thaw_into_durable.ensures.consistent))

pub returns-clause-coherent : goal.returns-clause-coherent
returns-clause-coherent g c = (invariant_of-self g c).coherent

pub returns-clause-private : goal.returns-clause-private
returns-clause-private g c b = sym ((invariant_of-self g c).coherent.private_changed b) ∙ c.self.invariant.coherent.private_changed b ∙ ap (λ w. is_private_in w.space b) c.self.view_is

pub returns-clause-bytes : goal.returns-clause-bytes
returns-clause-bytes g c device b works =
    let a = c.self.inside in
    let thawed : SpaceState = c.thaw_into_durable.new.self in
    let before : has a.space.working b ≡ true = ap (λ w. has w.space.working b) c.self.view_is ∙ works in
    let after : has thawed.working b ≡ true = ap (λ (s : SpaceState). has s.working b) c.thaw_into_durable.ensures.thawed ∙ before in
    let held : is_held thawed b ≡ is_held a.space b = works-held (has thawed.working b) (has thawed.frozen b) (has thawed.durable b) after ∙ sym (works-held (has a.space.working b) (has a.space.frozen b) (has a.space.durable b) before) in
    ap (λ t. unwrap_or (option_or (get a.changes.blocks b) (get a.frozen_changes.blocks b)) (if t then device_block device a.size b else [])) held ∙ ap (λ w. bytes_over device w b) c.self.view_is
