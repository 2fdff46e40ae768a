use Rattle.std.proofs.Common.{◌≡◌, ◌∙◌, ap, sym, subst}
use Rattle.qx_blockset.specs.Members.{union_of}
use Rattle.qx_alloc.specs.SpaceView.{IsInOrder}
use Rattle.qx_alloc.proofs.SpaceSteps.{in_order-thawed}
use Rattle.qx_alloc.proofs.space.Space.thaw_into_durable.Goals as goal

pub invariant_of-self : goal.invariant_of-self
invariant_of-self c =
    let durable : c.self.inside.frozen ≡ c.copy_from.new.self = sym c.copy_from.ensures in
    let taken : union_of c.self.inside.frozen c.self.inside.working ≡ c.add_all.new.self = (λ i. union_of (durable i) c.self.inside.working) ∙ ap (λ s. union_of s c.self.inside.working) (sym c.copy_from-2.ensures) ∙ sym c.add_all.ensures in
    subst (λ t. IsInOrder (record c.self.inside { is_frozen = _; durable = c.copy_from.new.self; taken = t })) taken
    (subst (λ d. IsInOrder (record c.self.inside { is_frozen = _; durable = d; taken = union_of c.self.inside.frozen c.self.inside.working })) durable
    (in_order-thawed c.self.inside c.self.invariant (ap (λ s. s.is_frozen) c.self.view_is ∙ c.requires)))
