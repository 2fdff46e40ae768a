use Rattle.std.proofs.Common.{rules, Ok, ◌≡◌, ◌≤◌, ◌<◌, ◌+◌, ◌-◌, ◌*◌, ◌/◌, ℕ, List, drop, length, length-drop, IsTrue, slice_index, arith, sym, ◌∙◌, ap, subst}
use Rattle.std.proofs.lemmas.List.{get_or_append_left}
use Rattle.qx_geom.specs.Pointer.{per_block}
use Rattle.qx_blocks.specs.BlockState.{BlockState, IsBlockSize}
use Rattle.qx_blocks.specs.Calls.{Keeps}
use Rattle.qx_ptree.specs.Building.{GivesUp, LiesUnder}
use Rattle.qx_ptree.specs.Plans.{InReach, planned_pointer}
use Rattle.qx_ptree.proofs.KeptPlans.{kept_plan, kept_pointer, kept_reach, told_before}
use Rattle.qx_ptree.proofs.PartBounds.{child-reach, top-reach}
use Rattle.qx_ptree.proofs.PlannedPointers.{planned_lead}
use Rattle.qx_ptree.proofs.PointerCounts.{words_bounds}
use Rattle.qx_ptree.proofs.RowSlices.{later_at, later_of, of_later}
use Rattle.qx_ptree.proofs.SpineParts.{spine_gives_last, spine_gives_more, spine_gives_none}
use Rattle.qx_ptree.proofs.giving_up.+give_up_spine.Goals as goal

pub returns-then-pointer-clause-gone : goal.returns-then-pointer-clause-gone
returns-then-pointer-clause-gone g t c =
    spine_gives_none (g.B.Blocks.state c.args.blocks.now) c.args.plan.now c.args.level c.args.above c.args.pointer c.leading-pointer.result c.args.work.now
    c.leading-pointer.ensures.consistent c.requires.plan c.requires.above.1 c.requires.pointer c.leading-pointer.ensures.same c.if-pointer.true

pub pointers_below-requires-clause-pointer : goal.pointers_below-requires-clause-pointer
pointers_below-requires-clause-pointer g t c told =
    planned_lead (g.B.Blocks.state c.args.blocks.now) c.args.plan.now c.args.above 0 c.args.pointer c.leading-pointer.result
    (record { consistent = c.leading-pointer.ensures.consistent; met = c.requires.plan; told = told }) (c.requires.pointer told) c.leading-pointer.ensures.same

-- the words of the first block of a level are in reach
word_reach : (b level words last : ℕ) → IsBlockSize b → 0 < level → level ≤ 5 → words ≡ per_block b → last < words → InReach b (level - 1) last
word_reach b level words last sized up low same below =
    let at : 0 * words + last ≡ last = omega arith in
    subst (λ k. InReach b (level - 1) k) at (child-reach b level 0 words last up (top-reach b level 0 sized low (omega arith)) same below)

-- the pointers that were read, from one of them on
words_from : (m n : BlockState) (level words from : ℕ) (plan : _) (into : List ℕ) → Keeps m n → words ≡ per_block m.holdings.size → length into ≡ words
    → ((w : ℕ) → w < words → slice_index into w ≡ planned_pointer plan m level (0 * per_block m.holdings.size + w)) → IsTrue n.tells
    → (w : ℕ) → w < length (drop from into) → slice_index (drop from into) w ≡ planned_pointer plan n level (from + w)
words_from m n level words from plan into keeps same long read told w low =
    let at : 0 * per_block m.holdings.size + (from + w) ≡ from + w = omega arith in
    later_at from into w ∙ read (from + w) (omega (arith, length-drop from into)) ∙ ap (planned_pointer plan m level) at ∙ sym (kept_pointer m n plan level (from + w) keeps told)

pub give_up_each-requires-clause-reach : goal.give_up_each-requires-clause-reach
give_up_each-requires-clause-reach g t c =
    let m : BlockState = g.B.Blocks.state c.args.blocks.now in
    let n : BlockState = g.B.Blocks.state c.pointers_below.new.blocks in
    let words : c.size-words.result / 4 ≡ per_block m.holdings.size = ap (λ n. n / 4) c.size-words.ensures.size in
    let bounds : (128 ≤ per_block m.holdings.size) × (per_block m.holdings.size ≤ 1024) = words_bounds m.holdings.size c.size-words.ensures.consistent.size in
    let long : length c.pointers_below.new.into ≡ c.size-words.result / 4 = search rules in
    of_later (λ xs. 0 < length xs → InReach n.holdings.size c.args.level (16 + length xs - 1)) 16 (c.size-words.result / 4) c.pointers_below.new.into _ long (omega arith)
    (λ some. kept_reach m n c.args.level _ c.pointers_below.ensures.reads.keeps
    (subst (λ l. InReach m.holdings.size l (16 + length (drop 16 c.pointers_below.new.into) - 1)) c.if-above-level.true
    (word_reach m.holdings.size c.args.above (c.size-words.result / 4) _ c.size-words.ensures.consistent.size (omega (arith, c.requires.above.0)) (omega (arith, c.requires.above.1, c.requires.plan.node.levels.most)) words (omega (arith, some, long, length-drop 16 c.pointers_below.new.into)))))

pub give_up_each-requires-clause-pointers : goal.give_up_each-requires-clause-pointers
give_up_each-requires-clause-pointers g t c told =
    let m : BlockState = g.B.Blocks.state c.args.blocks.now in
    let n : BlockState = g.B.Blocks.state c.pointers_below.new.blocks in
    let words : c.size-words.result / 4 ≡ per_block m.holdings.size = ap (λ n. n / 4) c.size-words.ensures.size in
    let bounds : (128 ≤ per_block m.holdings.size) × (per_block m.holdings.size ≤ 1024) = words_bounds m.holdings.size c.size-words.ensures.consistent.size in
    let long : length c.pointers_below.new.into ≡ c.size-words.result / 4 = search rules in
    of_later (λ xs. (w : ℕ) → w < length xs → slice_index xs w ≡ planned_pointer c.args.plan.now n c.args.level (16 + w)) 16 (c.size-words.result / 4) c.pointers_below.new.into _ long (omega arith)
    (words_from m n c.args.level (c.size-words.result / 4) 16 c.args.plan.now c.pointers_below.new.into c.pointers_below.ensures.reads.keeps words long
    (λ w low. subst (λ l. slice_index c.pointers_below.new.into w ≡ planned_pointer c.args.plan.now m l (0 * per_block m.holdings.size + w)) c.if-above-level.true (c.in_ok-pointers_below.ensures.pointers told w (search rules))) told)

pub returns-then-above-level-clause-gone : goal.returns-then-above-level-clause-gone
returns-then-above-level-clause-gone g t c =
    let m : BlockState = g.B.Blocks.state c.args.blocks.now in
    let n : BlockState = g.B.Blocks.state c.pointers_below.new.blocks in
    let words : c.size-words.result / 4 ≡ per_block m.holdings.size = ap (λ n. n / 4) c.size-words.ensures.size in
    let bounds : (128 ≤ per_block m.holdings.size) × (per_block m.holdings.size ≤ 1024) = words_bounds m.holdings.size c.size-words.ensures.consistent.size in
    let long : length c.pointers_below.new.into ≡ c.size-words.result / 4 = search rules in
    let count : length (drop 16 c.pointers_below.new.into) ≡ c.size-words.result / 4 - 16 = omega (arith, long, length-drop 16 c.pointers_below.new.into) in
    let Q : ℕ → Type 0 = λ k. GivesUp n (g.B.Blocks.state c.give_up_each.new.blocks) c.give_up.new.self c.give_up_each.new.work c.args.plan.now (LiesUnder (per_block n.holdings.size) (record { level = c.args.level; first = 16; count = k })) c.give_up_each.result in
    spine_gives_last m n (g.B.Blocks.state c.give_up_each.new.blocks) c.args.plan.now c.args.level c.args.above c.args.pointer c.leading-pointer.result (c.size-words.result / 4) c.args.work.now c.give_up.new.self c.give_up_each.new.work c.give_up_each.result
    c.leading-pointer.ensures.consistent c.requires.plan c.requires.pointer c.leading-pointer.ensures.same c.if-pointer.false c.requires.above.0 c.if-above-level.true words c.pointers_below.ensures.reads.keeps c.give_up_each.ensures.reads.keeps c.in_ok-give_up.ensures.noted
    (subst Q count (later_of (λ xs. Q (length xs)) 16 (c.size-words.result / 4) c.pointers_below.new.into _ long (omega arith) c.give_up_each.ensures.gone))

pub give_up_each-requires-2-clause-reach : goal.give_up_each-requires-2-clause-reach
give_up_each-requires-2-clause-reach g t c =
    let m : BlockState = g.B.Blocks.state c.args.blocks.now in
    let n : BlockState = g.B.Blocks.state c.pointers_below.new.blocks in
    let words : c.size-words.result / 4 ≡ per_block m.holdings.size = ap (λ n. n / 4) c.size-words.ensures.size in
    let bounds : (128 ≤ per_block m.holdings.size) × (per_block m.holdings.size ≤ 1024) = words_bounds m.holdings.size c.size-words.ensures.consistent.size in
    let long : length c.pointers_below.new.into ≡ c.size-words.result / 4 = search rules in
    of_later (λ xs. 0 < length xs → InReach n.holdings.size (c.args.above - 1) (1 + length xs - 1)) 1 (c.size-words.result / 4) c.pointers_below.new.into _ long (omega arith)
    (λ some. kept_reach m n (c.args.above - 1) _ c.pointers_below.ensures.reads.keeps
    (word_reach m.holdings.size c.args.above (c.size-words.result / 4) _ c.size-words.ensures.consistent.size (omega (arith, c.requires.above.0)) (omega (arith, c.requires.above.1, c.requires.plan.node.levels.most)) words (omega (arith, some, long, length-drop 1 c.pointers_below.new.into))))

pub give_up_each-requires-2-clause-pointers : goal.give_up_each-requires-2-clause-pointers
give_up_each-requires-2-clause-pointers g t c told =
    let m : BlockState = g.B.Blocks.state c.args.blocks.now in
    let n : BlockState = g.B.Blocks.state c.pointers_below.new.blocks in
    let words : c.size-words.result / 4 ≡ per_block m.holdings.size = ap (λ n. n / 4) c.size-words.ensures.size in
    let bounds : (128 ≤ per_block m.holdings.size) × (per_block m.holdings.size ≤ 1024) = words_bounds m.holdings.size c.size-words.ensures.consistent.size in
    let long : length c.pointers_below.new.into ≡ c.size-words.result / 4 = search rules in
    of_later (λ xs. (w : ℕ) → w < length xs → slice_index xs w ≡ planned_pointer c.args.plan.now n (c.args.above - 1) (1 + w)) 1 (c.size-words.result / 4) c.pointers_below.new.into _ long (omega arith)
    (words_from m n (c.args.above - 1) (c.size-words.result / 4) 1 c.args.plan.now c.pointers_below.new.into c.pointers_below.ensures.reads.keeps words long (λ w low. c.in_ok-pointers_below.ensures.pointers told w (search rules)) told)

pub give_up_spine-requires : goal.give_up_spine-requires
give_up_spine-requires g t c κs within =
    let m : BlockState = g.B.Blocks.state c.args.blocks.now in
    let n : BlockState = g.B.Blocks.state c.pointers_below.new.blocks in
    let o : BlockState = g.B.Blocks.state c.give_up_each-2.new.blocks in
    let long : length c.pointers_below.new.into ≡ c.size-words.result / 4 = search rules in
    let words : c.size-words.result / 4 ≡ per_block m.holdings.size = ap (λ n. n / 4) c.size-words.ensures.size in
    let bounds : (128 ≤ per_block m.holdings.size) × (per_block m.holdings.size ≤ 1024) = words_bounds m.holdings.size c.size-words.ensures.consistent.size in
    let at : 0 * per_block m.holdings.size + 0 ≡ 0 = omega arith in (
      omega (arith, c.decreases),
      (
        within,
        (
          (omega (arith, c.requires.above.0, c.if-above-level.false), omega (arith, c.requires.above.1)),
          (
            kept_plan n o c.args.plan.now c.give_up_each-2.ensures.reads.keeps (kept_plan m n c.args.plan.now c.pointers_below.ensures.reads.keeps c.requires.plan),
            λ told.
                let told_n : IsTrue n.tells = told_before n o c.give_up_each-2.ensures.reads.keeps told in
                get_or_append_left c.pointers_below.new.into _ 0 0 (omega (arith, long)) ∙ c.in_ok-pointers_below.ensures.pointers told_n 0 (search rules) ∙ ap (planned_pointer c.args.plan.now m (c.args.above - 1)) at
                ∙ sym (kept_pointer m n c.args.plan.now (c.args.above - 1) 0 c.pointers_below.ensures.reads.keeps told_n) ∙ sym (kept_pointer n o c.args.plan.now (c.args.above - 1) 0 c.give_up_each-2.ensures.reads.keeps told),
          ),
        ),
      ),
    )

pub returns-clause-gone : goal.returns-clause-gone
returns-clause-gone g t c =
    let m : BlockState = g.B.Blocks.state c.args.blocks.now in
    let n : BlockState = g.B.Blocks.state c.pointers_below.new.blocks in
    let words : c.size-words.result / 4 ≡ per_block m.holdings.size = ap (λ n. n / 4) c.size-words.ensures.size in
    let bounds : (128 ≤ per_block m.holdings.size) × (per_block m.holdings.size ≤ 1024) = words_bounds m.holdings.size c.size-words.ensures.consistent.size in
    let long : length c.pointers_below.new.into ≡ c.size-words.result / 4 = search rules in
    let count : length (drop 1 c.pointers_below.new.into) ≡ c.size-words.result / 4 - 1 = omega (arith, long, length-drop 1 c.pointers_below.new.into) in
    let Q : ℕ → Type 0 = λ k. GivesUp n (g.B.Blocks.state c.give_up_each-2.new.blocks) c.give_up.new.self c.give_up_each-2.new.work c.args.plan.now (LiesUnder (per_block n.holdings.size) (record { level = c.args.above - 1; first = 1; count = k })) (Ok tt) in
    spine_gives_more m n (g.B.Blocks.state c.give_up_each-2.new.blocks) (g.B.Blocks.state c.give_up_spine.new.blocks) c.args.plan.now c.args.level c.args.above c.args.pointer c.leading-pointer.result (c.size-words.result / 4) c.args.work.now c.give_up.new.self c.give_up_each-2.new.work c.give_up_spine.new.work c.give_up_spine.result
    c.leading-pointer.ensures.consistent c.requires.plan c.requires.pointer c.leading-pointer.ensures.same c.if-pointer.false c.requires.above.0 c.if-above-level.false words c.pointers_below.ensures.reads.keeps c.give_up_each-2.ensures.reads.keeps c.give_up_spine.ensures.reads.keeps c.in_ok-give_up.ensures.noted
    (subst Q count (later_of (λ xs. Q (length xs)) 1 (c.size-words.result / 4) c.pointers_below.new.into _ long (omega arith) c.in_ok-give_up_each.ensures.gone)) c.give_up_spine.ensures.gone
