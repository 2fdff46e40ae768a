use Rattle.std.proofs.Common.{rules, ◌≡◌, ◌≢◌, ◌≤◌, ◌<◌, ◌+◌, ◌-◌, ◌*◌, ◌/◌, ◌^◌, ◌⊎◌, inl, inr, ℕ, length, slice_index, Ok, arith, mul-le-mul_left, mul-le-mul_right, sym, ◌∙◌, ap, subst}
use Rattle.qx_geom.specs.Pointer.{per_block}
use Rattle.qx_blocks.specs.BlockState.{BlockState, IsBlockSize}
use Rattle.qx_blocks.specs.Calls.{Keeps}
use Rattle.qx_ptree.specs.Building.{GivesUp, LiesUnder, one_block}
use Rattle.qx_ptree.specs.Plans.{InReach, planned_pointer}
use Rattle.qx_ptree.proofs.GivenUpParts.{blocks_more, gives_block, gives_leaf, gives_none, gives_then, reach_before}
use Rattle.qx_ptree.proofs.KeptPlans.{kept_consistent, kept_plan, kept_pointer, kept_reach, told_before}
use Rattle.qx_ptree.proofs.PartBounds.{child-fits, child-reach, power-some}
use Rattle.qx_ptree.proofs.PlannedPointers.{planned_lead}
use Rattle.qx_ptree.proofs.PointerCounts.{words_bounds}
use Rattle.qx_ptree.proofs.RowSlices.{of_part, part_of_read}
use Rattle.qx_ptree.proofs.giving_up.+subtree.Goals as goal

pub give_up_below-returns-then-pointer-clause-gone : goal.give_up_below-returns-then-pointer-clause-gone
give_up_below-returns-then-pointer-clause-gone g t c =
    gives_none (g.B.Blocks.state c.args.blocks.now) c.args.plan.now c.args.level c.args.index c.args.pointer c.leading-pointer.result c.args.work.now
    c.leading-pointer.ensures.consistent c.requires.plan c.requires.within c.requires.pointer c.leading-pointer.ensures.same c.if-pointer.true

pub give_up_below-returns-then-level-eq0-clause-gone : goal.give_up_below-returns-then-level-eq0-clause-gone
give_up_below-returns-then-level-eq0-clause-gone g t c =
    gives_leaf (g.B.Blocks.state c.args.blocks.now) c.args.plan.now c.args.level c.args.index c.args.pointer c.leading-pointer.result c.args.work.now c.give_up.new.self
    c.leading-pointer.ensures.consistent c.requires.plan c.requires.pointer c.leading-pointer.ensures.same c.if-pointer.false c.if-level-eq0.true c.in_ok-give_up.ensures.noted

pub give_up_below-pointers_below-requires-clause-pointer : goal.give_up_below-pointers_below-requires-clause-pointer
give_up_below-pointers_below-requires-clause-pointer g t c told =
    planned_lead (g.B.Blocks.state c.args.blocks.now) c.args.plan.now c.args.level c.args.index c.args.pointer c.leading-pointer.result
    (record { consistent = c.leading-pointer.ensures.consistent; met = c.requires.plan; told = told }) (c.requires.pointer told) c.leading-pointer.ensures.same

-- what one more index makes of a bound
index_fits : (b level index words : ℕ) → IsBlockSize b → level ≢ 0 → InReach b level index → words ≡ per_block b → index * words < 2 ^ 64
index_fits b level index words sized above reach same = let most : index * words + words ≤ 2 ^ 54 = child-fits b level index words sized (omega arith) reach same in omega arith

pub give_up_below-overflow_mul-index : goal.give_up_below-overflow_mul-index
give_up_below-overflow_mul-index g t c =
    omega (arith, index_fits (g.B.Blocks.state c.args.blocks.now).holdings.size c.args.level c.args.index (c.size-words.result / 4) c.size-words.ensures.consistent.size c.if-level-eq0.false c.requires.reach (ap (λ n. n / 4) c.size-words.ensures.size))

-- the blocks below are within the node's levels as well, or aren't the first
child_within : (level index words levels : ℕ) → 0 < words → (level ≤ levels) ⊎ (index ≢ 0) → (level - 1 ≤ levels) ⊎ (index * words ≢ 0)
child_within level index words levels some within = elim within [
  | inl low ↦ inl (omega arith)
  | inr other ↦ inr (λ e. let more : 1 * words ≤ index * words = mul-le-mul_right words (omega arith) in omega arith)
]

pub give_up_below-give_up_each-requires : goal.give_up_below-give_up_each-requires
give_up_below-give_up_each-requires g t c κs within =
    let m : BlockState = g.B.Blocks.state c.args.blocks.now in
    let n : BlockState = g.B.Blocks.state c.pointers_below.new.blocks in
    let keeps : Keeps m n = c.pointers_below.ensures.reads.keeps in
    let words : c.size-words.result / 4 ≡ per_block m.holdings.size = ap (λ n. n / 4) c.size-words.ensures.size in
    let bounds : (128 ≤ per_block m.holdings.size) × (per_block m.holdings.size ≤ 1024) = words_bounds m.holdings.size c.size-words.ensures.consistent.size in
    let long : length c.pointers_below.new.into ≡ c.size-words.result / 4 = search rules in
    let last : InReach m.holdings.size (c.args.level - 1) (c.args.index * (c.size-words.result / 4) + (c.size-words.result / 4 - 1)) =
    child-reach m.holdings.size c.args.level c.args.index (c.size-words.result / 4) (c.size-words.result / 4 - 1) (omega (arith, c.if-level-eq0.false)) c.requires.reach words (omega arith) in (
      omega (arith, c.decreases),
      (
        within,
        (
          of_part (λ xs. 0 < length xs → InReach n.holdings.size (c.args.level - 1) (c.args.index * (c.size-words.result / 4) + length xs - 1)) (c.size-words.result / 4) c.pointers_below.new.into _ long
              (λ some. kept_reach m n (c.args.level - 1) _ keeps (subst (λ k. InReach m.holdings.size (c.args.level - 1) k) (omega (arith, long)) last)),
          (
            child_within c.args.level c.args.index (c.size-words.result / 4) c.args.plan.now.node.levels (omega arith) c.requires.within,
            (
              kept_consistent m n keeps c.size-words.ensures.consistent,
              (
                kept_plan m n c.args.plan.now keeps c.requires.plan,
                λ told. of_part (λ xs. (w : ℕ) → w < length xs → slice_index xs w ≡ planned_pointer c.args.plan.now n (c.args.level - 1) (c.args.index * (c.size-words.result / 4) + w)) (c.size-words.result / 4) c.pointers_below.new.into _ long
                    (λ w low.
                    c.in_ok-pointers_below.ensures.pointers told w (search rules)
                    ∙ ap (λ k. planned_pointer c.args.plan.now m (c.args.level - 1) (c.args.index * k + w)) (sym words)
                    ∙ sym (kept_pointer m n c.args.plan.now (c.args.level - 1) (c.args.index * (c.size-words.result / 4) + w) keeps told)),
              ),
            ),
          ),
        ),
      ),
    )

pub give_up_below-returns-clause-gone : goal.give_up_below-returns-clause-gone
give_up_below-returns-clause-gone g t c =
    let long : length c.pointers_below.new.into ≡ c.size-words.result / 4 = search rules in
    gives_block (g.B.Blocks.state c.args.blocks.now) (g.B.Blocks.state c.pointers_below.new.blocks) (g.B.Blocks.state c.give_up_each.new.blocks) c.args.plan.now c.args.level c.args.index c.args.pointer c.leading-pointer.result (c.size-words.result / 4)
    c.args.work.now c.give_up.new.self c.give_up_each.new.work c.give_up_each.result c.leading-pointer.ensures.consistent c.requires.plan c.requires.pointer c.leading-pointer.ensures.same c.if-pointer.false
    c.if-level-eq0.false (ap (λ n. n / 4) c.size-words.ensures.size) c.pointers_below.ensures.reads.keeps c.give_up_each.ensures.reads.keeps c.in_ok-give_up.ensures.noted
    (subst (λ k. GivesUp (g.B.Blocks.state c.pointers_below.new.blocks) (g.B.Blocks.state c.give_up_each.new.blocks) c.give_up.new.self c.give_up_each.new.work c.args.plan.now
    (LiesUnder (per_block (g.B.Blocks.state c.pointers_below.new.blocks).holdings.size) (record { level = c.args.level - 1; first = c.args.index * (c.size-words.result / 4); count = k })) c.give_up_each.result) long
    (part_of_read (λ xs. GivesUp (g.B.Blocks.state c.pointers_below.new.blocks) (g.B.Blocks.state c.give_up_each.new.blocks) c.give_up.new.self c.give_up_each.new.work c.args.plan.now
    (LiesUnder (per_block (g.B.Blocks.state c.pointers_below.new.blocks).holdings.size) (record { level = c.args.level - 1; first = c.args.index * (c.size-words.result / 4); count = length xs })) c.give_up_each.result)
    (c.size-words.result / 4) c.pointers_below.new.into _ long c.give_up_each.ensures.gone))

-- an index of a row in reach
row_reach : (b level first count w : ℕ) → (0 < count → InReach b level (first + count - 1)) → w < count → InReach b level (first + w)
row_reach b level first count w reach low = reach_before b level (first + w) (first + count - 1) (omega arith) (reach (omega arith))

-- and it fits
row_fits : (b level first count w : ℕ) → IsBlockSize b → (0 < count → InReach b level (first + count - 1)) → w < count → first + w < 2 ^ 64
row_fits b level first count w sized reach low =
    let r : InReach b level (first + w) = row_reach b level first count w reach low in
    let some : 1 ≤ per_block b ^ level = power-some b level sized in
    let more : (first + w + 1) * 1 ≤ (first + w + 1) * per_block b ^ level = mul-le-mul_left (first + w + 1) some in
    omega (arith, r.leaves)

pub give_up_each-overflow_add-first : goal.give_up_each-overflow_add-first
give_up_each-overflow_add-first g t c = omega (arith, row_fits (g.B.Blocks.state c.args.blocks.now).holdings.size c.args.level c.args.first (length c.args.pointers.now) c.loop-w.w c.requires.consistent.size c.requires.reach c.loop-w-test.true)

pub give_up_each-give_up_below-requires : goal.give_up_each-give_up_below-requires
give_up_each-give_up_below-requires g t c κs within =
    let m : BlockState = g.B.Blocks.state c.args.blocks.now in
    let n : BlockState = g.B.Blocks.state c.loop-w.blocks in
    let keeps : Keeps m n = c.loop-w.invariant.keeps in (
      omega (arith, c.decreases),
      (
        within,
        (
          kept_reach m n c.args.level (c.args.first + c.loop-w.w) keeps (row_reach m.holdings.size c.args.level c.args.first (length c.args.pointers.now) c.loop-w.w c.requires.reach c.loop-w-test.true),
          (
            elim c.requires.within [ inl low ↦ inl low | inr other ↦ inr (λ e. other (omega arith)) ],
            (
              kept_plan m n c.args.plan.now keeps c.requires.plan,
              λ told. c.requires.pointers (told_before m n keeps told) c.loop-w.w c.loop-w-test.true ∙ sym (kept_pointer m n c.args.plan.now c.args.level (c.args.first + c.loop-w.w) keeps told),
            ),
          ),
        ),
      ),
    )

pub give_up_each-loop-w-preserved : goal.give_up_each-loop-w-preserved
give_up_each-loop-w-preserved g t c =
    let m : BlockState = g.B.Blocks.state c.args.blocks.now in
    let n : BlockState = g.B.Blocks.state c.loop-w.blocks in
    record {
      gone = gives_then m n (g.B.Blocks.state c.give_up_below.new.blocks) c.args.work.now c.loop-w.work c.give_up_below.new.work c.args.plan.now
          (λ P. LiesUnder P (record { level = c.args.level; first = c.args.first; count = c.loop-w.w })) (λ P. LiesUnder P (one_block c.args.level (c.args.first + c.loop-w.w)))
          (λ P. LiesUnder P (record { level = c.args.level; first = c.args.first; count = c.loop-w.w + 1 })) (Ok tt) c.loop-w.invariant.keeps c.give_up_below.ensures.reads.keeps c.loop-w.invariant.gone c.in_ok-give_up_below.ensures.gone
          (λ told xs ys a b. blocks_more m c.args.plan.now (per_block m.holdings.size) c.args.level c.args.first c.loop-w.w xs ys a b);
      keeps = search rules;
      aside = search rules;
      faults = search rules;
    }
