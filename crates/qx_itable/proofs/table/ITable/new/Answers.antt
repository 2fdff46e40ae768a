use Rattle.std.proofs.Common.{rules, ◌≡◌, length, map, replicate, sym, ◌∙◌, ap, arith, refl}
use Rattle.std.specs.Prelude.{is_some}
use Rattle.std.proofs.lemmas.List.{length-replicate}
use Rattle.qx_itable.specs.TableState.{if_live}
use Rattle.qx_itable.proofs.KeptInodes.{blank, none-live, no-places}
use Rattle.qx_itable.proofs.table.ITable.new.Goals as goal

pub invariant_of-result : goal.invariant_of-result
invariant_of-result c =
    let dead : c.in_ok-inodes.inodes.items ≡ replicate c.args.num_inodes blank = search rules in
    record {
      few = omega (arith, ap length dead, length-replicate c.args.num_inodes blank);
      live = c.in_ok-live.ensures ∙ sym (ap (λ items. map is_some (map if_live items)) dead ∙ no-places c.args.num_inodes blank refl);
    }

pub returns : goal.returns
returns c =
    let dead : c.in_ok-inodes.inodes.items ≡ replicate c.args.num_inodes blank = search rules in
    (λ i. record { order = c.args.order; inodes = (ap (map if_live) dead ∙ none-live c.args.num_inodes blank refl) i })
