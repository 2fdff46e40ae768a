use Rattle.std.proofs.Common.{◌≤◌, ◌+◌, ◌*◌, ◌/◌, ◌^◌, ◌∙◌, ℕ, arith, sym, ap, subst}
use Rattle.std.specs.Prelude.{true, not, ◌==◌}
use Rattle.qx_geom.specs.Pointer.{absent, per_block}
use Rattle.qx_blocks.specs.BlockState.{BlockState}
use Rattle.qx_ptree.specs.declared.change.Fate.TheVariants.{Written}
use Rattle.qx_ptree.specs.Parts.{full_below}
use Rattle.qx_ptree.proofs.AlikeParts.{AllFare}
use Rattle.qx_ptree.proofs.FullParts.{full-few_all}
use Rattle.qx_ptree.proofs.PartBounds.{unwritten-none, power-some}
use Rattle.qx_ptree.proofs.PlannedParts.{alike-unwritten, alike-written}
use Rattle.qx_ptree.proofs.PointerCounts.{words_bounds}
use Rattle.qx_ptree.proofs.fresh_blocks.alike_part.Goals as goal

pub returns-in-Written-2-clause-part : goal.returns-in-Written-2-clause-part
returns-in-Written-2-clause-part g c = λ told le.
    let m : BlockState = g.B.Blocks.state c.args.blocks.now in
    let all : AllFare m.holdings.size c.args.plan.now.change Written c.args.level c.args.index = λ i from to. c.in_ok-fate.ensures.fate i from to ∙ c.in-Written-2.is in
    (λ i. record { need = (c.full.ensures ∙ ap (λ n. full_below (n / 4) c.args.level) c.size.ensures.size) i; changed = true; present = true })
    ∙ alike-written m c.args.plan.now c.args.level c.args.index c.args.pointer (record { consistent = c.requires.consistent; met = c.requires.plan; told = told }) c.in_ok-fate.ensures.level (c.requires.pointer told) le (ap (λ q. not (q == absent)) c.if-had.false) all

pub returns-in-Written-2-clause-few : goal.returns-in-Written-2-clause-few
returns-in-Written-2-clause-few g c =
    let b : ℕ = (g.B.Blocks.state c.args.blocks.now).holdings.size in
    subst (λ x. x + 1 ≤ 2 * per_block b ^ c.args.level) (sym (c.full.ensures ∙ ap (λ n. full_below (n / 4) c.args.level) c.size.ensures.size)) (full-few_all (per_block b) c.args.level (words_bounds b c.requires.consistent.size).0)

pub returns-in_default : goal.returns-in_default
returns-in_default g c =
    let m : BlockState = g.B.Blocks.state c.args.blocks.now in
    record {
      part = λ told le.
          c.leaf_part.ensures
          ∙ alike-unwritten m c.args.plan.now c.args.level c.args.index c.args.pointer c.in_ok-fate.fate (record { consistent = c.requires.consistent; met = c.requires.plan; told = told }) c.in_ok-fate.ensures.level (c.requires.pointer told) le
          c.in_default.not-Written c.in_ok-fate.ensures.fate;
      few = omega (arith, ap (λ p. p.need) c.leaf_part.ensures, power-some m.holdings.size c.args.level c.requires.consistent.size, unwritten-none c.in_ok-fate.fate (not (c.args.pointer == absent)) true c.in_default.not-Written);
    }
