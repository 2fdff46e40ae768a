use Rattle.std.proofs.Common.{◌∙◌, ap, sym, arith, length, refl, false, replicate}
use Rattle.std.proofs.lemmas.List.{length-replicate}
use Rattle.qx_alloc.specs.SpaceState.{users_in}
use Rattle.qx_alloc.proofs.UserBlocks.{length-users}
use Rattle.qx_alloc.proofs.SpaceSteps.{in_order-new, consistent-in}
use Rattle.qx_alloc.proofs.space.Space.new.Goals as goal

pub copy_from-requires-2 : goal.copy_from-requires-2
copy_from-requires-2 c =
    ap (λ s. length s) (c.remove_below.ensures ∙ ap (users_in c.args.first_user) c.copy_from.ensures) ∙ length-users c.args.first_user c.args.held.now
    ∙ sym (ap (λ s. length s) c.in_ok-durable.ensures ∙ length-replicate c.limit-2.result false ∙ c.limit-2.ensures)

pub copy_from-requires-3 : goal.copy_from-requires-3
copy_from-requires-3 c =
    ap (λ s. length s) (c.remove_below.ensures ∙ ap (users_in c.args.first_user) c.copy_from.ensures) ∙ length-users c.args.first_user c.args.held.now
    ∙ sym (ap (λ s. length s) c.in_ok-taken.ensures ∙ length-replicate c.limit-3.result false ∙ c.limit-3.ensures)

pub invariant_of-result : goal.invariant_of-result
invariant_of-result c =
    in_order-new _ c.args.held.now (omega (arith, c.limit.ensures, c.limit.type_inv))
    (c.remove_below.ensures ∙ ap (users_in c.args.first_user) c.copy_from.ensures)
    c.copy_from-2.ensures c.copy_from-3.ensures
    (c.in_ok-frozen.ensures ∙ ap (λ n. replicate n false) c.limit-4.ensures)
    refl refl

pub returns-clause-consistent : goal.returns-clause-consistent
returns-clause-consistent c = consistent-in _ (invariant_of-result c)
