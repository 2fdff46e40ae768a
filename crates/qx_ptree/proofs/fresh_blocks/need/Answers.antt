use Rattle.std.proofs.Common.{rules, ◌≡◌, ℕ, ◌≤◌, ◌<◌, ◌+◌, ◌*◌, ◌^◌, ◌∙◌, refl, IsTrue, ap, arith, sym, subst}
use Rattle.qx_geom.specs.Layout.{levels_for}
use Rattle.qx_geom.specs.Pointer.{per_block}
use Rattle.qx_blocks.specs.BlockState.{BlockState}
use Rattle.qx_ptree.specs.declared.plan.Plan.{Plan}
use Rattle.qx_ptree.specs.Alterations.{fresh_count}
use Rattle.qx_ptree.specs.Fates.{leaves_after}
use Rattle.qx_ptree.specs.Parts.{part_of}
use Rattle.qx_ptree.specs.Plans.{IsPlan, alteration_in, planned_pointer}
use Rattle.qx_ptree.proofs.KeptPlans.{kept_again, kept_part, kept_plan, kept_reach}
use Rattle.qx_ptree.proofs.MadePlans.{made_plan}
use Rattle.qx_ptree.proofs.PartBounds.{few-more, top-few, top-fits, top-reach}
use Rattle.qx_ptree.proofs.PlannedParts.{level-is, need-is}
use Rattle.qx_ptree.proofs.PointerCounts.{size_positive}
use Rattle.qx_ptree.proofs.SumsBelow.{sum_up_to-begins}
use Rattle.qx_ptree.proofs.WholeNeed.{need-more, new-levels}
use Rattle.qx_ptree.proofs.fresh_blocks.need.Goals as goal

pub top_pointers-requires-clause-plan : goal.top_pointers-requires-clause-plan
top_pointers-requires-clause-plan g c = made_plan (g.B.Blocks.state c.args.blocks.now) c.args.node.now c.args.order c.args.change.now c.new-plan.result c.new-plan.ensures c.requires.node c.requires.change

pub loop-j-init : goal.loop-j-init
loop-j-init g c = record {
  need = λ told. sym (sum_up_to-begins (λ j. (part_of (alteration_in c.new-plan.result (g.B.Blocks.state c.args.blocks.now)) c.levels-level.result j).need));
  few = omega arith;
  told = λ told. told;
  keeps = c.top_pointers.ensures.reads.keeps;
  aside = c.top_pointers.ensures.reads.others.aside;
  faults = search (rules, c.top_pointers.ensures.reads.others.cause.kept);
}

pub part_at-requires-clause-reach : goal.part_at-requires-clause-reach
part_at-requires-clause-reach g c =
    let m : BlockState = g.B.Blocks.state c.args.blocks.now in
    let b : ℕ = m.holdings.size in
    let some : 0 < b = size_positive b c.size-size.ensures.consistent.size in
    let level : c.levels-level.result ≡ levels_for b (leaves_after b c.args.change.now) = level-is b c.size-size.result c.div_ceil.result c.levels-level.result c.args.change.now some c.size-size.ensures.size c.div_ceil.ensures c.levels-level.ensures in
    kept_reach m (g.B.Blocks.state c.loop-j.blocks) c.levels-level.result c.loop-j.j c.loop-j.invariant.keeps
    (top-reach b c.levels-level.result c.loop-j.j c.size-size.ensures.consistent.size (omega (arith, level, new-levels b c.args.change.now some c.requires.change)) (omega (arith, c.loop-j-test.true)))

pub part_at-requires-clause-plan : goal.part_at-requires-clause-plan
part_at-requires-clause-plan g c =
    kept_plan (g.B.Blocks.state c.args.blocks.now) (g.B.Blocks.state c.loop-j.blocks) c.new-plan.result c.loop-j.invariant.keeps (made_plan (g.B.Blocks.state c.args.blocks.now) c.args.node.now c.args.order c.args.change.now c.new-plan.result c.new-plan.ensures c.requires.node c.requires.change)

pub part_at-requires-clause-pointer : goal.part_at-requires-clause-pointer
part_at-requires-clause-pointer g c told =
    c.in_ok-pointers.ensures.pointers (c.loop-j.invariant.told told) c.loop-j.j (omega (arith, c.loop-j-test.true))
    ∙ (λ i. planned_pointer c.new-plan.result (sym (c.loop-j.invariant.keeps.told told) i) c.levels-level.result c.loop-j.j)

pub overflow_add-need : goal.overflow_add-need
overflow_add-need g c =
    let b : ℕ = (g.B.Blocks.state c.args.blocks.now).holdings.size in
    let some : 0 < b = size_positive b c.size-size.ensures.consistent.size in
    let level : c.levels-level.result ≡ levels_for b (leaves_after b c.args.change.now) = level-is b c.size-size.result c.div_ceil.result c.levels-level.result c.args.change.now some c.size-size.ensures.size c.div_ceil.ensures c.levels-level.ensures in
    let few : c.in_ok-part.part.need + 1 ≤ 2 * per_block b ^ c.levels-level.result = subst (λ h. c.in_ok-part.part.need + 1 ≤ 2 * per_block h.size ^ c.levels-level.result) c.loop-j.invariant.keeps.holdings c.in_ok-part.ensures.few in
    let fits : c.loop-j.need + c.in_ok-part.part.need < 2 ^ 64 = top-fits b c.levels-level.result c.loop-j.need c.loop-j.j c.in_ok-part.part.need c.size-size.ensures.consistent.size (omega (arith, level, new-levels b c.args.change.now some c.requires.change)) c.loop-j.invariant.few (omega (arith, c.loop-j-test.true)) few in
    omega (arith, fits)

pub loop-j-preserved : goal.loop-j-preserved
loop-j-preserved g c =
    let m : BlockState = g.B.Blocks.state c.args.blocks.now in
    let b : ℕ = m.holdings.size in
    let mid : BlockState = g.B.Blocks.state c.loop-j.blocks in
    let new : BlockState = g.B.Blocks.state c.part_at.new.blocks in
    let plan : Plan = c.new-plan.result in
    let some : 0 < b = size_positive b c.size-size.ensures.consistent.size in
    let level : c.levels-level.result ≡ levels_for b (leaves_after b plan.change) =
    level-is b c.size-size.result c.div_ceil.result c.levels-level.result c.args.change.now some c.size-size.ensures.size c.div_ceil.ensures c.levels-level.ensures
    ∙ sym (ap (λ p. levels_for b (leaves_after b p.change)) c.new-plan.ensures.1) in
    let within : c.levels-level.result ≤ levels_for mid.holdings.size (leaves_after mid.holdings.size plan.change) = subst (λ h. c.levels-level.result ≤ levels_for h.size (leaves_after h.size plan.change)) (sym c.loop-j.invariant.keeps.holdings) (omega (arith, level)) in
    let mid_told : IsTrue new.tells → IsTrue mid.tells = λ told. subst (λ x. IsTrue x.tells) (c.in_ok-part.ensures.reads.keeps.told told) told in
    record {
      need = λ told. need-more (alteration_in plan m) c.levels-level.result c.loop-j.need c.loop-j.j (c.loop-j.need + c.in_ok-part.part.need) c.in_ok-part.part (c.loop-j.invariant.need (mid_told told))
          (c.in_ok-part.ensures.part told within ∙ kept_part m mid plan c.levels-level.result c.loop-j.j c.loop-j.invariant.keeps (mid_told told)) refl;
      few = few-more c.loop-j.j c.loop-j.need c.in_ok-part.part.need (per_block b ^ c.levels-level.result) c.loop-j.invariant.few (subst (λ h. c.in_ok-part.part.need + 1 ≤ 2 * per_block h.size ^ c.levels-level.result) c.loop-j.invariant.keeps.holdings c.in_ok-part.ensures.few);
      told = λ told. c.loop-j.invariant.told (mid_told told);
      keeps = kept_again m mid new c.loop-j.invariant.keeps c.in_ok-part.ensures.reads.keeps;
      aside = search rules;
      faults = search rules;
    }

pub returns-clause-need : goal.returns-clause-need
returns-clause-need g c told =
    let m : BlockState = g.B.Blocks.state c.args.blocks.now in
    let b : ℕ = m.holdings.size in
    let plan : Plan = c.new-plan.result in
    let some : 0 < b = size_positive b c.size-size.ensures.consistent.size in
    let level : c.levels-level.result ≡ levels_for b (leaves_after b plan.change) =
    level-is b c.size-size.result c.div_ceil.result c.levels-level.result c.args.change.now some c.size-size.ensures.size c.div_ceil.ensures c.levels-level.ensures
    ∙ sym (ap (λ p. levels_for b (leaves_after b p.change)) c.new-plan.ensures.1) in
    let met : IsPlan m plan = made_plan (g.B.Blocks.state c.args.blocks.now) c.args.node.now c.args.order c.args.change.now c.new-plan.result c.new-plan.ensures c.requires.node c.requires.change in
    need-is m plan c.levels-level.result c.loop-j.j c.loop-j.need c.size-size.ensures.consistent met level (omega (arith, c.loop-j-test.false, c.loop-j.auto)) (c.loop-j.invariant.need told) ∙ ap (λ p. fresh_count (alteration_in p m)) c.new-plan.ensures.1

pub returns-clause-few : goal.returns-clause-few
returns-clause-few g c =
    let b : ℕ = (g.B.Blocks.state c.args.blocks.now).holdings.size in
    let some : 0 < b = size_positive b c.size-size.ensures.consistent.size in
    let level : c.levels-level.result ≡ levels_for b (leaves_after b c.args.change.now) = level-is b c.size-size.result c.div_ceil.result c.levels-level.result c.args.change.now some c.size-size.ensures.size c.div_ceil.ensures c.levels-level.ensures in
    top-few b c.levels-level.result c.loop-j.need c.loop-j.j c.size-size.ensures.consistent.size (omega (arith, level, new-levels b c.args.change.now some c.requires.change)) c.loop-j.invariant.few (omega (arith, c.loop-j.auto))
