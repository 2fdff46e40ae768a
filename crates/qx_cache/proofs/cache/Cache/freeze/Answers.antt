use Rattle.std.proofs.Common.{◌≡◌, ap, ◌∙◌}
use Rattle.std.specs.FinMap.{empty}
use Rattle.qx_alloc.specs.SpaceState.{free_in}
use Rattle.qx_cache.specs.CacheState.{bytes_over, with_frozen}
use Rattle.qx_cache.specs.CacheView.{cache_in}
use Rattle.qx_cache.proofs.BlockMeanings.{bytes-frozen}
use Rattle.qx_cache.proofs.cache.Cache.freeze.Goals as goal

pub returns-clause-free : goal.returns-clause-free
returns-clause-free g c = c.freeze.ensures.free ∙ ap (λ v. free_in v.space) c.self.view_is

pub returns-clause-bytes : goal.returns-clause-bytes
returns-clause-bytes g c device b =
    let a = c.self.inside in
    let v = cache_in a.host a.size a.space a.changes a.frozen_changes a.clean in
    let unfrozen = ap (λ w. w.space.is_frozen) c.self.view_is ∙ c.requires in
    let changes : c.swap.new.x.blocks ≡ empty = ap (λ p. p.blocks) c.swap.ensures.x_after ∙ c.self.invariant.coherent.unfrozen unfrozen in
    let whole : cache_in a.host a.size c.freeze.new.self c.swap.new.x c.swap.new.y a.clean ≡ with_frozen v = λ i. record v { space = c.freeze.ensures.frozen i; changes = changes i; frozen_changes = (c.swap.ensures.y_after i).blocks } in
    ap (λ w. bytes_over device w b) whole ∙ bytes-frozen v c.self.invariant.coherent unfrozen device b ∙ ap (λ w. bytes_over device w b) c.self.view_is
