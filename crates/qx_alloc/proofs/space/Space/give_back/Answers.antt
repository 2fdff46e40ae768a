use Rattle.std.proofs.Common.{◌≡◌, ◌+◌, Bool, true, false, ◌&&◌, ◌||◌, not, refl, ◌∙◌, ap, sym, if◌then◌else◌}
use Rattle.qx_blockset.specs.Members.{has}
use Rattle.qx_alloc.specs.SpaceState.{free_in, is_private_in}
use Rattle.qx_alloc.specs.SpaceView.{space_in}
use Rattle.qx_alloc.proofs.SpaceSteps.{free-freed}
use Rattle.qx_alloc.proofs.space.Space.give_back.Goals as goal

-- a block that the working tree alone holds is held
held-alone : (w f d : Bool) → (w && not (f || d)) ≡ true → (w || f || d) ≡ true
held-alone true f d h = refl
held-alone false f d h = cc

pub returns-then-is_private-clause-free : goal.returns-then-is_private-clause-free
returns-then-is_private-clause-free c =
    let a = c.self.inside in
    let alone : is_private_in c.args.self.now c.args.b ≡ true = sym c.is_private.ensures.private ∙ c.if-is_private.true in
    let private : is_private_in (space_in a) c.args.b ≡ true = ap (λ s. is_private_in s c.args.b) c.self.view_is ∙ alone in
    let held : has a.taken c.args.b ≡ true
    = c.self.invariant.taken_held c.args.b ∙ held-alone (has a.working c.args.b) (has (space_in a).frozen c.args.b) (has a.durable c.args.b) private in
    (λ i. free_in (space_in (record a { working = c.remove-then-is_private.ensures i; taken = c.remove.ensures i })))
    ∙ free-freed a c.args.b c.self.invariant held private
    ∙ ap (λ s. free_in s + 1) c.self.view_is
    ∙ sym (ap (λ t. if t then free_in c.args.self.now + 1 else free_in c.args.self.now) alone)
