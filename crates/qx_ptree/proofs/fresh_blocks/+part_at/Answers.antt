use Rattle.std.proofs.Common.{◌≡◌, ◌≤◌, ◌<◌, ◌+◌, ◌-◌, ◌*◌, ◌/◌, ◌^◌, ◌∙◌, ℕ, arith, rules, sym, ap, subst}
use Rattle.std.specs.Prelude.{IsTrue, not, ◌==◌, length, slice_index}
use Rattle.qx_geom.specs.Layout.{levels_for}
use Rattle.qx_geom.specs.Pointer.{absent, per_block}
use Rattle.qx_geom.specs.Positions.{Shape, has_position}
use Rattle.qx_blocks.specs.BlockState.{BlockState}
use Rattle.qx_nodes.proofs.MetLeaves.{present_ascends}
use Rattle.qx_ptree.specs.declared.plan.Plan.{Plan}
use Rattle.qx_ptree.specs.Fates.{leaves_after}
use Rattle.qx_ptree.specs.Trees.{block_map}
use Rattle.qx_ptree.specs.Parts.{part_of}
use Rattle.qx_ptree.specs.Plans.{alteration_in, planned_pointer}
use Rattle.qx_ptree.proofs.KeptPlans.{kept_again, kept_part, kept_plan, kept_reach}
use Rattle.qx_ptree.proofs.LeafParts.{new-ascends}
use Rattle.qx_ptree.proofs.PartsOfBlocks.{part-done, part-more}
use Rattle.qx_ptree.proofs.PartBounds.{child-fits, child-reach, few-all, few-fits, few-more, level-fits}
use Rattle.qx_ptree.proofs.PlannedPointers.{IsToldPlan, planned_position, planned_lead}
use Rattle.qx_ptree.proofs.PointerCounts.{words_positive}
use Rattle.qx_ptree.proofs.RowSlices.{of_part}
use Rattle.qx_ptree.proofs.fresh_blocks.+part_at.Goals as goal

pub alike_part-requires-clause-pointer : goal.alike_part-requires-clause-pointer
alike_part-requires-clause-pointer g t c told =
    planned_lead (g.B.Blocks.state c.args.blocks.now) c.args.plan.now c.args.level c.args.index c.args.pointer c.leading-pointer.result
    (record { consistent = c.leading-pointer.ensures.consistent; met = c.requires.plan; told = told }) (c.requires.pointer told) c.leading-pointer.ensures.same

pub part_of_leaf-requires-clause-pointer : goal.part_of_leaf-requires-clause-pointer
part_of_leaf-requires-clause-pointer g t c told =
    planned_lead (g.B.Blocks.state c.args.blocks.now) c.args.plan.now c.args.level c.args.index c.args.pointer c.leading-pointer.result
    (record { consistent = c.leading-pointer.ensures.consistent; met = c.requires.plan; told = told }) (c.requires.pointer told) c.leading-pointer.ensures.same
    ∙ ap (λ k. planned_pointer c.args.plan.now (g.B.Blocks.state c.args.blocks.now) k c.args.index) c.if-level-eq0.true

pub returns-then-level-eq0-clause-part : goal.returns-then-level-eq0-clause-part
returns-then-level-eq0-clause-part g t c told le =
    c.part_of_leaf.ensures.part told ∙ sym (ap (λ k. part_of (alteration_in c.args.plan.now (g.B.Blocks.state c.args.blocks.now)) k c.args.index) c.if-level-eq0.true)

pub pointers_below-requires-clause-pointer : goal.pointers_below-requires-clause-pointer
pointers_below-requires-clause-pointer g t c told =
    planned_lead (g.B.Blocks.state c.args.blocks.now) c.args.plan.now c.args.level c.args.index c.args.pointer c.leading-pointer.result
    (record { consistent = c.leading-pointer.ensures.consistent; met = c.requires.plan; told = told }) (c.requires.pointer told) c.leading-pointer.ensures.same

pub overflow_mul-child : goal.overflow_mul-child
overflow_mul-child g t c = omega (arith, child-fits (g.B.Blocks.state c.args.blocks.now).holdings.size c.args.level c.args.index (c.size-words.result / 4) c.size-words.ensures.consistent.size (omega (arith, c.if-level-eq0.false)) c.requires.reach (ap (λ n. n / 4) c.size-words.ensures.size))

pub overflow_add-child : goal.overflow_add-child
overflow_add-child g t c = omega (arith, child-fits (g.B.Blocks.state c.args.blocks.now).holdings.size c.args.level c.args.index (c.size-words.result / 4) c.size-words.ensures.consistent.size (omega (arith, c.if-level-eq0.false)) c.requires.reach (ap (λ n. n / 4) c.size-words.ensures.size))

pub part_at-requires : goal.part_at-requires
part_at-requires g t c κs within =
    let m : BlockState = g.B.Blocks.state c.args.blocks.now in
    let mid : BlockState = g.B.Blocks.state c.loop-w.blocks in
    let low : c.loop-w.w < c.size-words.result / 4 = omega (arith, c.loop-w-test.true) in
    let long : length c.pointers_below.new.into ≡ c.size-words.result / 4 = search rules in
    let reach = child-reach m.holdings.size c.args.level c.args.index (c.size-words.result / 4) c.loop-w.w (omega (arith, c.if-level-eq0.false)) c.requires.reach (ap (λ n. n / 4) c.size-words.ensures.size) low in (
      omega (arith, c.decreases, c.if-level-eq0.false),
      (
        within,
        (
          kept_reach m mid (c.args.level - 1) (c.args.index * (c.size-words.result / 4) + c.loop-w.w) c.loop-w.invariant.keeps reach,
          (
            kept_plan m mid c.args.plan.now c.loop-w.invariant.keeps c.requires.plan,
            λ told.
                of_part (λ xs. slice_index xs c.loop-w.w ≡ planned_pointer c.args.plan.now m (c.args.level - 1) (c.args.index * per_block m.holdings.size + c.loop-w.w)) (c.size-words.result / 4) c.pointers_below.new.into _ long
                (c.in_ok-pointers_below.ensures.pointers (c.loop-w.invariant.told told) c.loop-w.w (omega (arith, low, long)))
                ∙ (λ i. planned_pointer c.args.plan.now (sym (c.loop-w.invariant.keeps.told told) i) (c.args.level - 1) (c.args.index * (sym (ap (λ n. n / 4) c.size-words.ensures.size) i) + c.loop-w.w)),
          ),
        ),
      ),
    )

pub beside-part-requires : goal.beside-part-requires
beside-part-requires g t c =
    let b : ℕ = (g.B.Blocks.state c.args.blocks.now).holdings.size in
    let few : c.in_ok-part_at.field-0.need + 1 ≤ 2 * per_block b ^ (c.args.level - 1) = subst (λ h. c.in_ok-part_at.field-0.need + 1 ≤ 2 * per_block h.size ^ (c.args.level - 1)) c.loop-w.invariant.keeps.holdings c.in_ok-part_at.ensures.few in
    let low : c.loop-w.w < per_block b = omega (arith, c.loop-w-test.true, c.loop-w.auto, c.pointers_below.ensures.long, c.size-words.ensures.size) in
    few-fits b c.args.level c.loop-w.part.need c.loop-w.w c.in_ok-part_at.field-0.need c.size-words.ensures.consistent.size (omega (arith, c.if-level-eq0.false)) c.requires.reach.most c.loop-w.invariant.few low few

pub loop-w-preserved : goal.loop-w-preserved
loop-w-preserved g t c =
    let m : BlockState = g.B.Blocks.state c.args.blocks.now in
    let b : ℕ = m.holdings.size in
    let mid : BlockState = g.B.Blocks.state c.loop-w.blocks in
    let new : BlockState = g.B.Blocks.state c.part_at.new.blocks in
    let child_level : c.args.level ≤ levels_for b (leaves_after b c.args.plan.now.change) → c.args.level - 1 ≤ levels_for mid.holdings.size (leaves_after mid.holdings.size c.args.plan.now.change) = λ le.
    subst (λ h. c.args.level - 1 ≤ levels_for h.size (leaves_after h.size c.args.plan.now.change)) (sym c.loop-w.invariant.keeps.holdings) (omega (arith, le)) in
    let mid_told : IsTrue new.tells → IsTrue mid.tells = λ told. subst (λ x. IsTrue x.tells) (c.in_ok-part_at.ensures.reads.keeps.told told) told in
    record {
      part = λ told le. part-more (alteration_in c.args.plan.now m) (c.args.level - 1) c.args.index (c.size-words.result / 4) c.loop-w.w c.loop-w.part c.in_ok-part_at.field-0 c.beside-part.result (ap (λ n. n / 4) c.size-words.ensures.size) (c.loop-w.invariant.part (mid_told told) le)
          (c.in_ok-part_at.ensures.part told (child_level le) ∙ kept_part m mid c.args.plan.now (c.args.level - 1) (c.args.index * (c.size-words.result / 4) + c.loop-w.w) c.loop-w.invariant.keeps (mid_told told)) c.beside-part.ensures;
      few = subst (λ x. x + (c.loop-w.w + 1) ≤ (c.loop-w.w + 1) * (2 * per_block b ^ (c.args.level - 1))) (sym (ap (λ p. p.need) c.beside-part.ensures))
          (few-more c.loop-w.w c.loop-w.part.need c.in_ok-part_at.field-0.need (per_block b ^ (c.args.level - 1)) c.loop-w.invariant.few (subst (λ h. c.in_ok-part_at.field-0.need + 1 ≤ 2 * per_block h.size ^ (c.args.level - 1)) c.loop-w.invariant.keeps.holdings c.in_ok-part_at.ensures.few));
      told = λ told. c.loop-w.invariant.told (mid_told told);
      keeps = kept_again m mid new c.loop-w.invariant.keeps c.in_ok-part_at.ensures.reads.keeps;
      aside = search rules;
      faults = search rules;
    }

pub overflow_add-part : goal.overflow_add-part
overflow_add-part g t c =
    let b : ℕ = (g.B.Blocks.state c.args.blocks.now).holdings.size in
    let all : c.loop-w.w ≡ per_block b = omega (arith, c.loop-w-test.false, c.loop-w.auto, c.pointers_below.ensures.long, c.size-words.ensures.size) in
    omega (
      arith,
      level-fits b c.args.level c.size-words.ensures.consistent.size c.requires.reach.most,
      few-all b c.args.level c.loop-w.part.need c.loop-w.w c.own_need.result c.size-words.ensures.consistent.size (omega (arith, c.if-level-eq0.false)) c.loop-w.invariant.few all c.own_need.ensures.few,
    )

pub returns-clause-part : goal.returns-clause-part
returns-clause-part g t c = λ told le.
    let m : BlockState = g.B.Blocks.state c.args.blocks.now in
    let b : ℕ = m.holdings.size in
    let mid : BlockState = g.B.Blocks.state c.loop-w.blocks in
    let plan : Plan = c.args.plan.now in
    let words : 0 < per_block b = words_positive b c.size-words.ensures.consistent.size in
    let old : Shape = (alteration_in plan m).old in
    let all : c.loop-w.w ≡ per_block b = omega (arith, c.loop-w-test.false, c.loop-w.auto, c.pointers_below.ensures.long, c.size-words.ensures.size) in
    let known : IsToldPlan m plan = record { consistent = c.leading-pointer.ensures.consistent; met = c.requires.plan; told = subst (λ x. IsTrue x.tells) (c.loop-w.invariant.keeps.told told) told } in
    let pointer : c.leading-pointer.result ≡ planned_pointer plan m c.args.level c.args.index = planned_lead m plan c.args.level c.args.index c.args.pointer c.leading-pointer.result known (c.requires.pointer known.told) c.leading-pointer.ensures.same in
    let had : not (c.leading-pointer.result == absent) ≡ has_position b old c.args.level c.args.index = ap (λ q. not (q == absent)) pointer ∙ sym (planned_position m plan c.args.level c.args.index known) in
    let private : c.is_private-private.result ≡ m.holdings.private (planned_pointer plan m c.args.level c.args.index) = c.is_private-private.ensures.private ∙ ap (λ h. h.private c.leading-pointer.result) c.loop-w.invariant.keeps.holdings ∙ ap m.holdings.private pointer in
    part-done (alteration_in plan m) c.args.level c.args.index c.loop-w.w c.own_need.result (not (c.leading-pointer.result == absent)) c.is_private-private.result c.loop-w.part
    (new-ascends b old plan.change (present_ascends (block_map plan.order m) plan.node words)) words (omega (arith, c.if-level-eq0.false)) le all
    (c.loop-w.invariant.part told le) had private c.own_need.ensures.need

pub returns-clause-few : goal.returns-clause-few
returns-clause-few g t c =
    let b : ℕ = (g.B.Blocks.state c.args.blocks.now).holdings.size in
    let all : c.loop-w.w ≡ per_block b = omega (arith, c.loop-w-test.false, c.loop-w.auto, c.pointers_below.ensures.long, c.size-words.ensures.size) in
    few-all b c.args.level c.loop-w.part.need c.loop-w.w c.own_need.result c.size-words.ensures.consistent.size (omega (arith, c.if-level-eq0.false)) c.loop-w.invariant.few all c.own_need.ensures.few
