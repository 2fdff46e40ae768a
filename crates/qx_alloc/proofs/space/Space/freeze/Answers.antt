use Rattle.std.proofs.Common.{◌∙◌, ap, true}
use Rattle.qx_alloc.specs.SpaceState.{free_in}
use Rattle.qx_alloc.specs.SpaceView.{space_in}
use Rattle.qx_alloc.proofs.SpaceSteps.{free-frozen}
use Rattle.qx_alloc.proofs.space.Space.freeze.Goals as goal

pub returns-clause-free : goal.returns-clause-free
returns-clause-free c =
    ap (λ frozen. free_in (space_in (record c.self.inside { is_frozen = true; frozen = frozen }))) c.copy_from.ensures
    ∙ free-frozen c.self.inside c.self.invariant (ap (λ s. s.is_frozen) c.self.view_is ∙ c.requires)
    ∙ ap free_in c.self.view_is
