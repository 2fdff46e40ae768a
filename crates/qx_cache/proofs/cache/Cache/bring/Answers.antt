use Rattle.std.proofs.Common.{◌≡◌, ◌+◌, Some, length, length-append, length-drop, drop, take, ◌++◌, sym, subst, ap, ◌∙◌, arith}
use Rattle.std.specs.Prelude.{is_some, slice_range}
use Rattle.std.proofs.lemmas.List.{length-take}
use Rattle.qx_outside.specs.Trail.{bytes_of}
use Rattle.qx_alloc.specs.SpaceState.{is_held}
use Rattle.qx_cache.specs.CacheState.{change_of}
use Rattle.qx_cache.specs.CacheView.{cache_in, IsInOrder}
use Rattle.qx_blocks.specs.SlotWrites.{refit-same}
use Rattle.qx_cache.proofs.BlockReads.{ok_holds, reads-changed, reads-kept, unchanged}
use Rattle.qx_cache.proofs.OrderSteps.{order-read, order-unread}
use Rattle.qx_cache.proofs.cache.Cache.bring.Goals as goal
use Rattle.qx_cache.proofs.cache.Cache.bring.Goals.{then-is_changed-via-then-is_changed, then-is_changed-via-else-is_changed+then-is_kept}

pub returns-then-is_changed-clause-reads : goal.returns-then-is_changed-clause-reads
returns-then-is_changed-clause-reads g c = elim c.then-is_changed.branch [
  | then-is_changed-via-then-is_changed w ↦
      reads-changed g.H.Dev.outside c.args.self.now c.args.b (sym c.is_changed.ensures ∙ w.if-is_changed.true)
  | then-is_changed-via-else-is_changed+then-is_kept w ↦
      reads-kept g.H.Dev.outside c.args.self.now c.args.b w.is_kept.ensures.few (sym w.is_kept.ensures.kept ∙ w.if-is_kept.true)
]

pub invariant_of-self : goal.invariant_of-self
invariant_of-self g c =
    let a = c.self.inside in
    let v = cache_in a.host a.size a.space a.changes a.frozen_changes a.clean in
    order-unread v a.changes a.frozen_changes a.buffer.items a.spare.items _ c.read_at.new.self c.self.invariant c.read_at.ensures.extent c.read_at.ensures.step
    (omega (
      arith,
      length-take a.spare.len (c.read_at.new.into ++ drop (length c.read_at.new.into) a.spare.items),
      length-append c.read_at.new.into (drop (length c.read_at.new.into) a.spare.items),
      length-drop (length c.read_at.new.into) a.spare.items,
      a.spare.ok.0,
    ))

pub invariant_of-self-2 : goal.invariant_of-self-2
invariant_of-self-2 g c =
    let a = c.self.inside in
    let v = cache_in a.host a.size a.space a.changes a.frozen_changes a.clean in
    let clean = unchanged v c.args.b (ap (λ s. is_some (change_of s c.args.b)) c.self.view_is ∙ sym c.is_changed.ensures ∙ c.if-is_changed.false) in
    let into = take a.spare.len (c.read_at.new.into ++ drop (length c.read_at.new.into) a.spare.items) in
    let long : length c.read_at.new.into ≡ length a.spare.items = omega (arith, c.deref_mut.ensures.len, a.spare.ok.0) in
    let whole : into ≡ c.read_at.new.into = rw (a.spare.ok.0) (refit-same a.spare.items c.read_at.new.into long) in
    let ok = ok_holds c.read_at.result _ (sym c.is_err.ensures.value ∙ c.if-is_err.false) c.read_at.ensures.bytes in
    let size : length c.deref_mut.result.now ≡ a.size = ap length c.deref_mut.ensures.value ∙ c.self.invariant.spare_long in
    subst (λ xs. IsInOrder g.H.Dev.outside (cache_in c.read_at.new.self a.size a.space a.changes a.frozen_changes (Some c.args.b)) a.changes a.frozen_changes xs c.swap.new.y.items) (sym (ap (λ w. w.items) c.swap.ensures.x_after))
    (subst (λ ys. IsInOrder g.H.Dev.outside (cache_in c.read_at.new.self a.size a.space a.changes a.frozen_changes (Some c.args.b)) a.changes a.frozen_changes into ys) (sym (ap (λ w. w.items) c.swap.ensures.y_after))
    (order-read v a.changes a.frozen_changes a.buffer.items a.spare.items into c.read_at.new.self c.args.b c.self.invariant c.read_at.ensures.extent c.read_at.ensures.step
    (ap (λ s. is_held s.space c.args.b) c.self.view_is ∙ c.requires) clean.0 clean.1 (ap length whole ∙ long)
    (λ told. whole ∙ ok told ∙ (λ i. slice_range (bytes_of (g.H.Dev.outside a.host).history) (c.block_place-place.ensures.place i) (c.block_place-place.ensures.place i + size i)))))
