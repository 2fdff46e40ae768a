use Rattle.std.proofs.Common.{ap, ◌∙◌}
use Rattle.std.specs.FinMap.{contains_key}
use Rattle.qx_cache.specs.CacheView.{cache_in}
use Rattle.qx_cache.proofs.OrderSteps.{order-edited}
use Rattle.qx_cache.proofs.blocks.CacheBlocks.edit.Goals as goal

pub invariant_of-self-lent : goal.invariant_of-self-lent
invariant_of-self-lent g c w =
    let a = c.self.inside in
    let v = cache_in a.host a.size a.space a.changes a.frozen_changes a.clean in
    order-edited v a.changes a.frozen_changes a.buffer.items a.spare.items c.args.b w c.self.invariant (ap (λ s. contains_key s.changes c.args.b) c.self.view_is ∙ c.requires)
