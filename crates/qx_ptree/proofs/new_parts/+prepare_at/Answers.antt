use Rattle.std.proofs.Common.{length-set, rules, ◌≡◌, ◌≤◌, ◌<◌, ◌+◌, ◌-◌, ◌*◌, ◌/◌, ◌^◌, ℕ, List, set, take, length, IsTrue, slice_index, arith, refl, sym, ◌∙◌, ap, subst}
use Rattle.std.specs.Prelude.{Bool, false, ◌||◌}
use Rattle.qx_geom.specs.Layout.{levels_for}
use Rattle.qx_geom.specs.Pointer.{per_block}
use Rattle.qx_blocks.specs.BlockState.{BlockState}
use Rattle.qx_ptree.specs.declared.change.Fate.TheVariants.{Stays, Goes}
use Rattle.qx_ptree.specs.declared.part.Part.{Part}
use Rattle.qx_ptree.specs.Building.{BuildsOnto, LiesUnder, one_block}
use Rattle.qx_ptree.specs.Fates.{leaves_after}
use Rattle.qx_ptree.specs.Parts.{part_of}
use Rattle.qx_ptree.specs.Plans.{InReach, alteration_in, planned_pointer}
use Rattle.qx_ptree.specs.Reaching.{IsMarked, ReachesOnto}
use Rattle.qx_ptree.specs.Takings.{Takes}
use Rattle.qx_ptree.proofs.AddedWork.{adds_none, adds_then}
use Rattle.qx_ptree.proofs.AlikeParts.{AllFare}
use Rattle.qx_ptree.proofs.CarriedPlans.{pointers_after}
use Rattle.qx_ptree.proofs.KeptNodes.{plan_after}
use Rattle.qx_ptree.proofs.KeptPlans.{told_before}
use Rattle.qx_ptree.proofs.PartBounds.{child-fits, child-reach}
use Rattle.qx_ptree.proofs.PlannedPointers.{planned_lead}
use Rattle.qx_ptree.proofs.PointerCounts.{words_bounds, words_positive}
use Rattle.qx_ptree.proofs.PreparedBlocks.{at_err}
use Rattle.qx_ptree.proofs.PreparedParts.{adds_given, any_more, any_none, block_onto, changed_all, fare_part, gone_onto, lent_length, or_else, or_then, part_later, present_all, quiet_onto, row_onto_more, row_onto_none, tops_before, tops_last, tops_lent}
use Rattle.qx_ptree.proofs.ReachedSteps.{marked_block, marked_empty, marked_more, marked_none, marked_sized, onto_block, onto_empty, onto_given_up, onto_more, onto_none, unwritten_block}
use Rattle.qx_ptree.proofs.RowSlices.{of_part}
use Rattle.qx_ptree.proofs.SumsBelow.{any_up_to}
use Rattle.qx_ptree.proofs.TakenBlocks.{Takes-none, Takes-same}
use Rattle.qx_ptree.proofs.new_parts.+prepare_at.Goals as goal
use Rattle.qx_ptree.proofs.new_parts.+prepare_at.Goals.{then-changed, else-changed, then-present, else-present}

-- ---- parts that fare alike

pub returns-in-Some-Stays-clause-built : goal.returns-in-Some-Stays-clause-built
returns-in-Some-Stays-clause-built g t c =
    let m : BlockState = g.B.Blocks.state c.args.blocks.now in
    let all : AllFare m.holdings.size c.args.plan.now.change Stays c.args.level c.args.index = λ i from to. c.in-Some-Stays.ensures.fate i from to ∙ c.in-Some-Stays.field-0-is in
    rw c.unchanged.ensures (quiet_onto m c.args.plan.now c.args.level c.args.index c.leading-pointer.result c.args.work.now c.leading-pointer.ensures.consistent c.requires.plan c.requires.level c.in-Some-Stays.ensures.level
    (λ told. planned_lead m c.args.plan.now c.args.level c.args.index c.args.pointer c.leading-pointer.result (record { consistent = c.leading-pointer.ensures.consistent; met = c.requires.plan; told = told }) (c.requires.pointer told) c.leading-pointer.ensures.same) all)

pub returns-in-Some-Stays-clause-changed : goal.returns-in-Some-Stays-clause-changed
returns-in-Some-Stays-clause-changed g t c told =
    let m : BlockState = g.B.Blocks.state c.args.blocks.now in
    let all : AllFare m.holdings.size c.args.plan.now.change Stays c.args.level c.args.index = λ i from to. c.in-Some-Stays.ensures.fate i from to ∙ c.in-Some-Stays.field-0-is in
    rw c.unchanged.ensures (sym (ap (λ (x : Part). x.changed) (fare_part m c.args.plan.now Stays c.args.level c.args.index c.leading-pointer.result c.leading-pointer.ensures.consistent c.requires.plan (λ e. absurd (cc)) c.requires.level c.in-Some-Stays.ensures.level
    (λ told. planned_lead m c.args.plan.now c.args.level c.args.index c.args.pointer c.leading-pointer.result (record { consistent = c.leading-pointer.ensures.consistent; met = c.requires.plan; told = told }) (c.requires.pointer told) c.leading-pointer.ensures.same) all told)))

pub returns-in-Some-Stays-clause-present : goal.returns-in-Some-Stays-clause-present
returns-in-Some-Stays-clause-present g t c told =
    let m : BlockState = g.B.Blocks.state c.args.blocks.now in
    let all : AllFare m.holdings.size c.args.plan.now.change Stays c.args.level c.args.index = λ i from to. c.in-Some-Stays.ensures.fate i from to ∙ c.in-Some-Stays.field-0-is in
    rw c.unchanged.ensures (sym (ap (λ (x : Part). x.present) (fare_part m c.args.plan.now Stays c.args.level c.args.index c.leading-pointer.result c.leading-pointer.ensures.consistent c.requires.plan (λ e. absurd (cc)) c.requires.level c.in-Some-Stays.ensures.level
    (λ told. planned_lead m c.args.plan.now c.args.level c.args.index c.args.pointer c.leading-pointer.result (record { consistent = c.leading-pointer.ensures.consistent; met = c.requires.plan; told = told }) (c.requires.pointer told) c.leading-pointer.ensures.same) all told)))

pub give_up_below-requires-clause-pointer : goal.give_up_below-requires-clause-pointer
give_up_below-requires-clause-pointer g t c told =
    planned_lead (g.B.Blocks.state c.args.blocks.now) c.args.plan.now c.args.level c.args.index c.args.pointer c.leading-pointer.result (record { consistent = c.leading-pointer.ensures.consistent; met = c.requires.plan; told = told }) (c.requires.pointer told) c.leading-pointer.ensures.same

pub returns-in_err-give_up_below-in-Some-Goes-clause-err : goal.returns-in_err-give_up_below-in-Some-Goes-clause-err
returns-in_err-give_up_below-in-Some-Goes-clause-err g t c =
    at_err c.from_residual.result (adds_given (g.B.Blocks.state c.args.blocks.now) (g.B.Blocks.state c.give_up_below.new.blocks) c.args.work.now c.give_up_below.new.work c.give_up_below.ensures.gone.blocks c.give_up_below.ensures.reads.keeps c.give_up_below.ensures.gone.is)

pub returns-in-Some-Goes-clause-built : goal.returns-in-Some-Goes-clause-built
returns-in-Some-Goes-clause-built g t c =
    let m : BlockState = g.B.Blocks.state c.args.blocks.now in
    let all : AllFare m.holdings.size c.args.plan.now.change Goes c.args.level c.args.index = λ i from to. c.in-Some-Goes.ensures.fate i from to ∙ c.in-Some-Goes.field-0-is in
    rw c.gone.ensures (gone_onto m (g.B.Blocks.state c.give_up_below.new.blocks) c.args.plan.now c.args.level c.args.index c.args.work.now c.give_up_below.new.work c.leading-pointer.ensures.consistent c.requires.plan c.requires.level c.in-Some-Goes.ensures.level all
    c.give_up_below.ensures.reads.keeps c.in_ok-give_up_below-in-Some-Goes.ensures.gone)

pub returns-in-Some-Goes-clause-changed : goal.returns-in-Some-Goes-clause-changed
returns-in-Some-Goes-clause-changed g t c told =
    let m : BlockState = g.B.Blocks.state c.args.blocks.now in
    let all : AllFare m.holdings.size c.args.plan.now.change Goes c.args.level c.args.index = λ i from to. c.in-Some-Goes.ensures.fate i from to ∙ c.in-Some-Goes.field-0-is in
    rw c.gone.ensures (sym (ap (λ (x : Part). x.changed) (fare_part m c.args.plan.now Goes c.args.level c.args.index c.leading-pointer.result c.leading-pointer.ensures.consistent c.requires.plan (λ e. absurd (cc)) c.requires.level c.in-Some-Goes.ensures.level
    (λ told. planned_lead m c.args.plan.now c.args.level c.args.index c.args.pointer c.leading-pointer.result (record { consistent = c.leading-pointer.ensures.consistent; met = c.requires.plan; told = told }) (c.requires.pointer told) c.leading-pointer.ensures.same) all
    (told_before m (g.B.Blocks.state c.give_up_below.new.blocks) c.give_up_below.ensures.reads.keeps told))))

pub returns-in-Some-Goes-clause-present : goal.returns-in-Some-Goes-clause-present
returns-in-Some-Goes-clause-present g t c told =
    let m : BlockState = g.B.Blocks.state c.args.blocks.now in
    let all : AllFare m.holdings.size c.args.plan.now.change Goes c.args.level c.args.index = λ i from to. c.in-Some-Goes.ensures.fate i from to ∙ c.in-Some-Goes.field-0-is in
    rw c.gone.ensures (sym (ap (λ (x : Part). x.present) (fare_part m c.args.plan.now Goes c.args.level c.args.index c.leading-pointer.result c.leading-pointer.ensures.consistent c.requires.plan (λ e. absurd (cc)) c.requires.level c.in-Some-Goes.ensures.level
    (λ told. planned_lead m c.args.plan.now c.args.level c.args.index c.args.pointer c.leading-pointer.result (record { consistent = c.leading-pointer.ensures.consistent; met = c.requires.plan; told = told }) (c.requires.pointer told) c.leading-pointer.ensures.same) all
    (told_before m (g.B.Blocks.state c.give_up_below.new.blocks) c.give_up_below.ensures.reads.keeps told))))

-- no written leaf stands there that would have to be reached

pub returns-in-Some-Stays-clause-reaches : goal.returns-in-Some-Stays-clause-reaches
returns-in-Some-Stays-clause-reaches g t c =
    let m : BlockState = g.B.Blocks.state c.args.blocks.now in
    rw c.unchanged.ensures (onto_none m m c.args.work.now c.args.work.now c.args.plan.now (one_block c.args.level c.args.index) _ (Takes-same m) refl
    (unwritten_block m c.args.plan.now c.args.level c.args.index (leaves_after m.holdings.size c.args.plan.now.change) Stays (words_positive m.holdings.size c.leading-pointer.ensures.consistent.size)
    (λ i low high. c.in-Some-Stays.ensures.fate i low high ∙ c.in-Some-Stays.field-0-is) (λ e. cc)))

pub returns-in-Some-Stays-clause-marked : goal.returns-in-Some-Stays-clause-marked
returns-in-Some-Stays-clause-marked g t c =
    let m : BlockState = g.B.Blocks.state c.args.blocks.now in
    rw c.unchanged.ensures (marked_none m c.args.plan.now (one_block c.args.level c.args.index) _ _
    (unwritten_block m c.args.plan.now c.args.level c.args.index (leaves_after m.holdings.size c.args.plan.now.change) Stays (words_positive m.holdings.size c.leading-pointer.ensures.consistent.size)
    (λ i low high. c.in-Some-Stays.ensures.fate i low high ∙ c.in-Some-Stays.field-0-is) (λ e. cc)))

pub returns-in-Some-Goes-clause-reaches : goal.returns-in-Some-Goes-clause-reaches
returns-in-Some-Goes-clause-reaches g t c =
    let m : BlockState = g.B.Blocks.state c.args.blocks.now in
    rw c.gone.ensures (onto_given_up m (g.B.Blocks.state c.give_up_below.new.blocks) (g.B.Blocks.state c.give_up_below.new.blocks) c.args.work.now c.give_up_below.new.work c.args.plan.now (LiesUnder (per_block m.holdings.size) (one_block c.args.level c.args.index)) _ (one_block c.args.level c.args.index) _
    (Takes-none m (g.B.Blocks.state c.give_up_below.new.blocks) c.in_ok-give_up_below-in-Some-Goes.ensures.reads.keeps) c.in_ok-give_up_below-in-Some-Goes.ensures.gone
    (unwritten_block m c.args.plan.now c.args.level c.args.index (leaves_after m.holdings.size c.args.plan.now.change) Goes (words_positive m.holdings.size c.leading-pointer.ensures.consistent.size)
    (λ i low high. c.in-Some-Goes.ensures.fate i low high ∙ c.in-Some-Goes.field-0-is) (λ e. cc)))

pub returns-in-Some-Goes-clause-marked : goal.returns-in-Some-Goes-clause-marked
returns-in-Some-Goes-clause-marked g t c =
    let m : BlockState = g.B.Blocks.state c.args.blocks.now in
    rw c.gone.ensures (marked_none m c.args.plan.now (one_block c.args.level c.args.index) _ _
    (unwritten_block m c.args.plan.now c.args.level c.args.index (leaves_after m.holdings.size c.args.plan.now.change) Goes (words_positive m.holdings.size c.leading-pointer.ensures.consistent.size)
    (λ i low high. c.in-Some-Goes.ensures.fate i low high ∙ c.in-Some-Goes.field-0-is) (λ e. cc)))

-- ---- a leaf, and the pointers below a block

pub prepare_leaf-requires-clause-pointer : goal.prepare_leaf-requires-clause-pointer
prepare_leaf-requires-clause-pointer g t c told =
    let m : BlockState = g.B.Blocks.state c.args.blocks.now in
    planned_lead m c.args.plan.now c.args.level c.args.index c.args.pointer c.leading-pointer.result (record { consistent = c.leading-pointer.ensures.consistent; met = c.requires.plan; told = told }) (c.requires.pointer told) c.leading-pointer.ensures.same
    ∙ ap (λ k. planned_pointer c.args.plan.now m k c.args.index) c.if-level-eq0.true

pub pointers_below-requires-clause-pointer : goal.pointers_below-requires-clause-pointer
pointers_below-requires-clause-pointer g t c told =
    planned_lead (g.B.Blocks.state c.args.blocks.now) c.args.plan.now c.args.level c.args.index c.args.pointer c.leading-pointer.result (record { consistent = c.leading-pointer.ensures.consistent; met = c.requires.plan; told = told }) (c.requires.pointer told) c.leading-pointer.ensures.same

pub returns-in_err-pointers_below-clause-err : goal.returns-in_err-pointers_below-clause-err
returns-in_err-pointers_below-clause-err g t c =
    at_err c.from_residual-in_err-pointers_below.result (adds_none (g.B.Blocks.state c.args.blocks.now) (g.B.Blocks.state c.pointers_below.new.blocks) c.args.work.now c.args.work.now (Takes-none (g.B.Blocks.state c.args.blocks.now) (g.B.Blocks.state c.pointers_below.new.blocks) c.pointers_below.ensures.reads.keeps) refl)

-- ---- the words

pub loop-w-init : goal.loop-w-init
loop-w-init g t c = record {
  told = λ told. told;
  long = search rules;
  reaches = onto_empty (g.B.Blocks.state c.args.blocks.now) (g.B.Blocks.state c.pointers_below.new.blocks) c.args.work.now c.args.work.now c.args.plan.now (c.args.level - 1) (c.args.index * per_block (g.B.Blocks.state c.args.blocks.now).holdings.size) _
      (Takes-none (g.B.Blocks.state c.args.blocks.now) (g.B.Blocks.state c.pointers_below.new.blocks) c.pointers_below.ensures.reads.keeps) refl;
  marked = marked_empty (g.B.Blocks.state c.args.blocks.now) c.args.plan.now (c.args.level - 1) (c.args.index * per_block (g.B.Blocks.state c.args.blocks.now).holdings.size) false false;
  built = row_onto_none (g.B.Blocks.state c.args.blocks.now) (g.B.Blocks.state c.pointers_below.new.blocks) c.args.plan.now _ _ c.args.work.now refl c.pointers_below.ensures.reads.keeps;
  changed = λ told. any_none _;
  present = λ told. any_none _;
  aside = search rules;
  faults = search rules;
}

pub overflow_mul-at : goal.overflow_mul-at
overflow_mul-at g t c =
    let m : BlockState = g.B.Blocks.state c.args.blocks.now in
    let most : c.args.index * (c.size-words.result / 4) + c.size-words.result / 4 ≤ 2 ^ 54 = child-fits m.holdings.size c.args.level c.args.index (c.size-words.result / 4) c.size-words.ensures.consistent.size (omega (arith, c.if-level-eq0.false)) c.requires.reach (ap (λ n. n / 4) c.size-words.ensures.size) in
    omega (arith, most)

pub overflow_add-at : goal.overflow_add-at
overflow_add-at g t c =
    let m : BlockState = g.B.Blocks.state c.args.blocks.now in
    let low : c.loop-w.w < c.size-words.result / 4 = search rules in
    let most : c.args.index * (c.size-words.result / 4) + c.size-words.result / 4 ≤ 2 ^ 54 = child-fits m.holdings.size c.args.level c.args.index (c.size-words.result / 4) c.size-words.ensures.consistent.size (omega (arith, c.if-level-eq0.false)) c.requires.reach (ap (λ n. n / 4) c.size-words.ensures.size) in
    omega (arith, most, low)

pub prepare_at-requires : goal.prepare_at-requires
prepare_at-requires g t c κs within =
    let m : BlockState = g.B.Blocks.state c.args.blocks.now in
    let n : BlockState = g.B.Blocks.state c.loop-w.blocks in
    let f : List ℕ = c.loop-w.invariant.built.adds.added.fresh in
    let takes : Takes f m n = c.loop-w.invariant.built.adds.takes in
    let low : c.loop-w.w < c.size-words.result / 4 = search rules in
    let words : c.size-words.result / 4 ≡ per_block m.holdings.size = ap (λ n. n / 4) c.size-words.ensures.size in
    let long : length c.pointers_below.new.into ≡ c.size-words.result / 4 = search rules in (
      omega (arith, c.decreases, c.if-level-eq0.false),
      (
        within,
        (
          subst (λ s. InReach s (c.args.level - 1) (c.args.index * (c.size-words.result / 4) + c.loop-w.w)) (sym takes.size)
              (child-reach m.holdings.size c.args.level c.args.index (c.size-words.result / 4) c.loop-w.w (omega (arith, c.if-level-eq0.false)) c.requires.reach words low),
          (
            subst (λ s. c.args.level - 1 ≤ levels_for s (leaves_after s c.args.plan.now.change)) (sym takes.size) (omega (arith, c.requires.level)),
            (
              plan_after f m n c.args.plan.now c.leading-pointer.ensures.consistent c.requires.plan takes,
              λ told. of_part (λ xs. slice_index xs c.loop-w.w ≡ planned_pointer c.args.plan.now n (c.args.level - 1) (c.args.index * (c.size-words.result / 4) + c.loop-w.w)) (c.size-words.result / 4) c.pointers_below.new.into _ long
                  (c.in_ok-pointers_below.ensures.pointers (c.loop-w.invariant.told told) c.loop-w.w (search rules)
                  ∙ ap (λ k. planned_pointer c.args.plan.now m (c.args.level - 1) (c.args.index * k + c.loop-w.w)) (sym words)
                  ∙ sym (pointers_after f m n c.args.plan.now (record { consistent = c.leading-pointer.ensures.consistent; met = c.requires.plan; told = takes.told_before told }) takes told (c.args.level - 1) (c.args.index * (c.size-words.result / 4) + c.loop-w.w))),
            ),
          ),
        ),
      ),
    )

pub returns-in_err-below-clause-err : goal.returns-in_err-below-clause-err
returns-in_err-below-clause-err g t c =
    at_err c.from_residual-in_err-below.result (adds_then (g.B.Blocks.state c.args.blocks.now) (g.B.Blocks.state c.loop-w.blocks) (g.B.Blocks.state c.prepare_at.new.blocks) c.args.work.now c.loop-w.work c.prepare_at.new.work c.loop-w.invariant.built.adds c.in_err-below.ensures.err)

pub loop-w-preserved : goal.loop-w-preserved
loop-w-preserved g t c =
    let m : BlockState = g.B.Blocks.state c.args.blocks.now in
    let n : BlockState = g.B.Blocks.state c.loop-w.blocks in
    let o : BlockState = g.B.Blocks.state c.prepare_at.new.blocks in
    let P : ℕ = per_block m.holdings.size in
    let W : ℕ = c.size-words.result / 4 in
    let words : c.size-words.result / 4 ≡ per_block m.holdings.size = ap (λ n. n / 4) c.size-words.ensures.size in
    let wide : c.size-words.result / 4 ≤ 1024 = omega (arith, words, (words_bounds m.holdings.size c.size-words.ensures.consistent.size).1) in
    let low : c.loop-w.w < c.size-words.result / 4 = search rules in
    let all : length c.loop-w.new ≡ 1024 = c.loop-w.invariant.long in
    let child : BuildsOnto n o c.loop-w.work c.prepare_at.new.work c.args.plan.now (one_block (c.args.level - 1) (c.args.index * P + c.loop-w.w)) (λ _. c.in_ok-below.below.pointer) =
    subst (λ k. BuildsOnto n o c.loop-w.work c.prepare_at.new.work c.args.plan.now (one_block (c.args.level - 1) (c.args.index * k + c.loop-w.w)) (λ _. c.in_ok-below.below.pointer)) words c.in_ok-below.ensures.built in
    let later : IsTrue o.tells → part_of (alteration_in c.args.plan.now n) (c.args.level - 1) (c.args.index * (c.size-words.result / 4) + c.loop-w.w) ≡ part_of (alteration_in c.args.plan.now m) (c.args.level - 1) (c.args.index * P + c.loop-w.w) = λ told.
    part_later c.loop-w.invariant.built.adds.added.fresh m n c.args.plan.now (c.args.level - 1) (c.args.index * (c.size-words.result / 4) + c.loop-w.w) c.leading-pointer.ensures.consistent c.prepare_at.ensures.consistent c.requires.plan c.loop-w.invariant.built.adds.takes (child.adds.takes.told_before told)
    ∙ ap (λ k. part_of (alteration_in c.args.plan.now m) (c.args.level - 1) (c.args.index * k + c.loop-w.w)) words in
    let changed : c.if-changed.changed ≡ (c.loop-w.changed || c.in_ok-below.below.changed) = elim c.if-changed.branch [ then-changed w ↦ or_then c.loop-w.changed c.in_ok-below.below.changed c.if-changed.changed w.if-changed.true w.changed-is | else-changed w ↦ or_else c.loop-w.changed c.in_ok-below.below.changed c.if-changed.changed w.if-changed.false w.changed-is ] in
    let present : c.if-present.present ≡ (c.loop-w.present || c.in_ok-below.below.present) = elim c.if-present.branch [ then-present w ↦ or_then c.loop-w.present c.in_ok-below.below.present c.if-present.present w.if-present.true w.present-is | else-present w ↦ or_else c.loop-w.present c.in_ok-below.below.present c.if-present.present w.if-present.false w.present-is ] in
    record {
      told = λ told. c.loop-w.invariant.told (child.adds.takes.told_before told);
      long = length-set c.loop-w.new c.loop-w.w c.in_ok-below.below.pointer ∙ all;
      reaches = onto_more m n o c.args.work.now c.loop-w.work c.prepare_at.new.work c.args.plan.now (c.args.level - 1) (c.args.index * P) c.loop-w.w c.in_ok-below.below.pointer c.loop-w.new (omega (arith, all, low, wide)) c.loop-w.invariant.reaches
          (subst (λ k. ReachesOnto n o c.loop-w.work c.prepare_at.new.work c.args.plan.now (one_block (c.args.level - 1) (c.args.index * k + c.loop-w.w)) (λ _. c.in_ok-below.below.pointer)) words c.in_ok-below.ensures.reaches);
      marked = subst (λ (x : Bool). IsMarked m c.args.plan.now (record { level = c.args.level - 1; first = c.args.index * P; count = c.loop-w.w + 1 }) x c.if-present.present) (sym changed)
          (subst (λ (x : Bool). IsMarked m c.args.plan.now (record { level = c.args.level - 1; first = c.args.index * P; count = c.loop-w.w + 1 }) (c.loop-w.changed || c.in_ok-below.below.changed) x) (sym present)
          (marked_more m c.args.plan.now (c.args.level - 1) (c.args.index * P) c.loop-w.w c.loop-w.changed c.loop-w.present c.in_ok-below.below.changed c.in_ok-below.below.present c.loop-w.invariant.marked
          (marked_sized m n c.args.plan.now (one_block (c.args.level - 1) (c.args.index * P + c.loop-w.w)) c.in_ok-below.below.changed c.in_ok-below.below.present c.loop-w.invariant.reaches.adds.takes.size
          (subst (λ k. IsMarked n c.args.plan.now (one_block (c.args.level - 1) (c.args.index * k + c.loop-w.w)) c.in_ok-below.below.changed c.in_ok-below.below.present) words c.in_ok-below.ensures.marked))));
      built = row_onto_more m n o c.args.work.now c.loop-w.work c.prepare_at.new.work c.args.plan.now (c.args.level - 1) (c.args.index * P) c.loop-w.w c.in_ok-below.below.pointer
          (λ j. slice_index c.loop-w.new (j - c.args.index * P)) (λ j. slice_index (set c.loop-w.new c.loop-w.w c.in_ok-below.below.pointer) (j - c.args.index * P)) c.leading-pointer.ensures.consistent c.prepare_at.ensures.consistent c.requires.plan
          (tops_before c.loop-w.new c.loop-w.w c.in_ok-below.below.pointer (c.args.index * P)) (tops_last c.loop-w.new c.loop-w.w c.in_ok-below.below.pointer (c.args.index * P) (omega (arith, all, low, wide))) c.loop-w.invariant.built child;
      changed = λ told. any_more (λ v. (part_of (alteration_in c.args.plan.now m) (c.args.level - 1) (c.args.index * P + v)).changed) c.loop-w.w c.loop-w.changed c.in_ok-below.below.changed c.if-changed.changed
          (c.loop-w.invariant.changed (child.adds.takes.told_before told)) (c.in_ok-below.ensures.changed told ∙ ap (λ (x : Part). x.changed) (later told)) changed;
      present = λ told. any_more (λ v. (part_of (alteration_in c.args.plan.now m) (c.args.level - 1) (c.args.index * P + v)).present) c.loop-w.w c.loop-w.present c.in_ok-below.below.present c.if-present.present
          (c.loop-w.invariant.present (child.adds.takes.told_before told)) (c.in_ok-below.ensures.present told ∙ ap (λ (x : Part). x.present) (later told)) present;
      aside = search rules;
      faults = search rules;
    }

-- ---- the block itself

pub returns-in_err-pointer-clause-err : goal.returns-in_err-pointer-clause-err
returns-in_err-pointer-clause-err g t c =
    at_err c.from_residual-in_err-pointer.result (adds_then (g.B.Blocks.state c.args.blocks.now) (g.B.Blocks.state c.loop-w.blocks) (g.B.Blocks.state c.prepare_block.new.blocks) c.args.work.now c.loop-w.work c.prepare_block.new.work c.loop-w.invariant.built.adds c.in_err-pointer.ensures.err)

pub returns-clause-built : goal.returns-clause-built
returns-clause-built g t c =
    let m : BlockState = g.B.Blocks.state c.args.blocks.now in
    let n : BlockState = g.B.Blocks.state c.loop-w.blocks in
    let P : ℕ = per_block m.holdings.size in
    let words : c.size-words.result / 4 ≡ per_block m.holdings.size = ap (λ n. n / 4) c.size-words.ensures.size in
    let wide : c.size-words.result / 4 ≤ 1024 = omega (arith, words, (words_bounds m.holdings.size c.size-words.ensures.consistent.size).1) in
    let all : length c.loop-w.new ≡ 1024 = c.loop-w.invariant.long in
    let end : c.loop-w.w ≡ c.size-words.result / 4 = search rules in
    let tops : ℕ → ℕ = λ j. slice_index c.loop-w.new (j - c.args.index * P) in
    let row : BuildsOnto m n c.args.work.now c.loop-w.work c.args.plan.now (record { level = c.args.level - 1; first = c.args.index * P; count = P }) tops =
    subst (λ k. BuildsOnto m n c.args.work.now c.loop-w.work c.args.plan.now (record { level = c.args.level - 1; first = c.args.index * P; count = k }) tops) (end ∙ words) c.loop-w.invariant.built in
    block_onto m n (g.B.Blocks.state c.prepare_block.new.blocks) c.args.work.now c.loop-w.work c.prepare_block.new.work c.args.plan.now c.args.level c.args.index c.leading-pointer.result c.in_ok-pointer.pointer tops (take (c.size-words.result / 4 - 0) c.loop-w.new) c.loop-w.changed c.loop-w.present
    c.leading-pointer.ensures.consistent c.requires.plan c.if-level-eq0.false c.requires.level
    (λ told. planned_lead m c.args.plan.now c.args.level c.args.index c.args.pointer c.leading-pointer.result (record { consistent = c.leading-pointer.ensures.consistent; met = c.requires.plan; told = told }) (c.requires.pointer told) c.leading-pointer.ensures.same)
    (lent_length c.loop-w.new (c.size-words.result / 4) (omega (arith, all, wide)) ∙ words) (λ v low. c.prepare_block.ensures.fit v)
    (λ v low. tops_lent c.loop-w.new (c.size-words.result / 4) (c.args.index * P) v (omega (arith, low, words)))
    (λ told. sym (c.loop-w.invariant.changed told ∙ ap (λ k. any_up_to k (λ v. (part_of (alteration_in c.args.plan.now m) (c.args.level - 1) (c.args.index * P + v)).changed)) (end ∙ words) ∙ changed_all m c.args.plan.now c.args.level c.args.index c.leading-pointer.ensures.consistent c.if-level-eq0.false))
    (λ told. sym (c.loop-w.invariant.present told ∙ ap (λ k. any_up_to k (λ v. (part_of (alteration_in c.args.plan.now m) (c.args.level - 1) (c.args.index * P + v)).present)) (end ∙ words) ∙ present_all m c.args.plan.now c.args.level c.args.index c.leading-pointer.ensures.consistent c.if-level-eq0.false))
    row c.in_ok-pointer.ensures.written

pub returns-clause-changed : goal.returns-clause-changed
returns-clause-changed g t c told =
    let m : BlockState = g.B.Blocks.state c.args.blocks.now in
    let P : ℕ = per_block m.holdings.size in
    let words : c.size-words.result / 4 ≡ per_block m.holdings.size = ap (λ n. n / 4) c.size-words.ensures.size in
    let end : c.loop-w.w ≡ c.size-words.result / 4 = search rules in
    c.loop-w.invariant.changed (c.in_ok-pointer.ensures.written.adds.takes.told_before told) ∙ ap (λ k. any_up_to k (λ v. (part_of (alteration_in c.args.plan.now m) (c.args.level - 1) (c.args.index * P + v)).changed)) (end ∙ words)
    ∙ changed_all m c.args.plan.now c.args.level c.args.index c.leading-pointer.ensures.consistent c.if-level-eq0.false

pub returns-clause-present : goal.returns-clause-present
returns-clause-present g t c told =
    let m : BlockState = g.B.Blocks.state c.args.blocks.now in
    let P : ℕ = per_block m.holdings.size in
    let words : c.size-words.result / 4 ≡ per_block m.holdings.size = ap (λ n. n / 4) c.size-words.ensures.size in
    let end : c.loop-w.w ≡ c.size-words.result / 4 = search rules in
    c.loop-w.invariant.present (c.in_ok-pointer.ensures.written.adds.takes.told_before told) ∙ ap (λ k. any_up_to k (λ v. (part_of (alteration_in c.args.plan.now m) (c.args.level - 1) (c.args.index * P + v)).present)) (end ∙ words)
    ∙ present_all m c.args.plan.now c.args.level c.args.index c.leading-pointer.ensures.consistent c.if-level-eq0.false

pub returns-clause-reaches : goal.returns-clause-reaches
returns-clause-reaches g t c =
    let m : BlockState = g.B.Blocks.state c.args.blocks.now in
    let n : BlockState = g.B.Blocks.state c.loop-w.blocks in
    let P : ℕ = per_block m.holdings.size in
    let words : c.size-words.result / 4 ≡ per_block m.holdings.size = ap (λ n. n / 4) c.size-words.ensures.size in
    let wide : c.size-words.result / 4 ≤ 1024 = omega (arith, words, (words_bounds m.holdings.size c.size-words.ensures.consistent.size).1) in
    let all : length c.loop-w.new ≡ 1024 = c.loop-w.invariant.long in
    let end : c.loop-w.w ≡ c.size-words.result / 4 = search rules in
    let tops : ℕ → ℕ = λ j. slice_index c.loop-w.new (j - c.args.index * P) in
    onto_block m n (g.B.Blocks.state c.prepare_block.new.blocks) c.args.work.now c.loop-w.work c.prepare_block.new.work c.args.plan.now c.args.level c.args.index c.leading-pointer.result c.in_ok-pointer.pointer (take (c.size-words.result / 4 - 0) c.loop-w.new) c.loop-w.changed c.loop-w.present
    tops (omega (arith, c.if-level-eq0.false)) (words_positive m.holdings.size c.leading-pointer.ensures.consistent.size) c.size-size.ensures.consistent
    (marked_block m c.args.plan.now c.args.level c.args.index c.loop-w.changed c.loop-w.present (omega (arith, c.if-level-eq0.false)) (words_positive m.holdings.size c.leading-pointer.ensures.consistent.size)
    (subst (λ k. IsMarked m c.args.plan.now (record { level = c.args.level - 1; first = c.args.index * P; count = k }) c.loop-w.changed c.loop-w.present) (end ∙ words) c.loop-w.invariant.marked))
    (lent_length c.loop-w.new (c.size-words.result / 4) (omega (arith, all, wide)) ∙ words) (λ v low. c.prepare_block.ensures.fit v)
    (λ v low. tops_lent c.loop-w.new (c.size-words.result / 4) (c.args.index * P) v (omega (arith, low, words)))
    (subst (λ k. ReachesOnto m n c.args.work.now c.loop-w.work c.args.plan.now (record { level = c.args.level - 1; first = c.args.index * P; count = k }) tops) (end ∙ words) c.loop-w.invariant.reaches) c.in_ok-pointer.ensures.written

pub returns-clause-marked : goal.returns-clause-marked
returns-clause-marked g t c =
    let m : BlockState = g.B.Blocks.state c.args.blocks.now in
    let words : c.size-words.result / 4 ≡ per_block m.holdings.size = ap (λ n. n / 4) c.size-words.ensures.size in
    let end : c.loop-w.w ≡ c.size-words.result / 4 = search rules in
    marked_block m c.args.plan.now c.args.level c.args.index c.loop-w.changed c.loop-w.present (omega (arith, c.if-level-eq0.false)) (words_positive m.holdings.size c.leading-pointer.ensures.consistent.size)
    (subst (λ k. IsMarked m c.args.plan.now (record { level = c.args.level - 1; first = c.args.index * per_block m.holdings.size; count = k }) c.loop-w.changed c.loop-w.present) (end ∙ words) c.loop-w.invariant.marked)

pub returns-in_err-below-clause-others : goal.returns-in_err-below-clause-others
returns-in_err-below-clause-others g t c = record {
  aside = c.prepare_at.ensures.others.aside ∙ c.loop-w.invariant.aside;
  cause = record {
    later = search (rules, c.prepare_at.ensures.others.cause.later, c.loop-w.invariant.faults);
    failed = λ e. search (rules, c.prepare_at.ensures.others.cause.failed, c.loop-w.invariant.faults);
    kept = λ e. search (rules, c.prepare_at.ensures.others.cause.kept, c.loop-w.invariant.faults);
  };
}
