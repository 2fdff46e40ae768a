use Rattle.std.proofs.Common.{◌≡◌, true, sym, ap, ◌∙◌}
use Rattle.std.specs.FinMap.{contains_key}
use Rattle.qx_alloc.specs.SpaceState.{is_private_in}
use Rattle.qx_cache.specs.CacheState.{kept_but}
use Rattle.qx_cache.proofs.BlockMeanings.{made-ready, unkept}
use Rattle.qx_cache.proofs.blocks.CacheBlocks.ready.Goals as goal

pub returns-clause-ok : goal.returns-clause-ok
returns-clause-ok g c =
    let private : is_private_in c.self.inside.space c.args.b ≡ true = ap (λ s. is_private_in s.space c.args.b) c.self.view_is ∙ c.requires in
    made-ready g.H.Dev.outside c.args.self.now c.args.b (sym (ap (λ s. contains_key s.changes c.args.b) c.self.view_is) ∙ c.self.invariant.coherent.private_changed c.args.b ∙ private)

pub returns-clause-kept : goal.returns-clause-kept
returns-clause-kept g c =
    let private : is_private_in c.self.inside.space c.args.b ≡ true = ap (λ s. is_private_in s.space c.args.b) c.self.view_is ∙ c.requires in
    sym (ap (λ s. s.kept) c.self.view_is)
    ∙ unkept _ c.args.b c.self.invariant.coherent (c.self.invariant.coherent.private_changed c.args.b ∙ private)
    ∙ ap (λ s. kept_but s.kept c.args.b) c.self.view_is
