use Rattle.std.proofs.Common.{rules, ◌≡◌, ℕ, ◌+◌, ◌-◌, ◌*◌, ◌/◌, ◌^◌, ◌<◌, ◌≤◌, true, false, arith, refl, sym, ap, subst}
use Rattle.std.specs.Prelude.{IsTrue, is_some, length, slice_index}
use Rattle.qx_geom.specs.Pointer.{per_block}
use Rattle.qx_nodes.specs.BlockMap.{word}
use Rattle.qx_nodes.specs.Leaves.{leaves_below}
use Rattle.qx_nodes.specs.Visits.{present_of}
use Rattle.qx_blocks.specs.BlockState.{BlockState}
use Rattle.qx_ptree.specs.Present.{HasNone}
use Rattle.qx_ptree.specs.Trees.{IsWorking, block_map}
use Rattle.qx_ptree.proofs.FirstHoles.{IsKnown, first_below, first_past, lead_same, leaves_is, power_is, stand_kept, words_stand}
use Rattle.qx_ptree.proofs.KeptPlans.{kept_again, kept_reach, told_before}
use Rattle.qx_ptree.proofs.NextLeaves.{all_none, bounds_kept, held_kept, lead_none, leaf_next, next_ends, next_goes_on, next_kept, none_before, past_none, skip_few, skip_none, span_down}
use Rattle.qx_ptree.proofs.PartBounds.{child-fits, child-reach}
use Rattle.qx_ptree.proofs.PointerCounts.{power_positive, words_positive}
use Rattle.qx_ptree.proofs.RowSlices.{of_part}
use Rattle.qx_ptree.proofs.present.+present_below.Goals.{then-first-span-via-then-first-span, then-first-span-via-else-first-span+then-div_ceil-first}
use Rattle.qx_ptree.proofs.present.+present_below.Goals as goal

pub returns-then-first-span-clause-found : goal.returns-then-first-span-clause-found
returns-then-first-span-clause-found g t c told =
    let m : BlockState = g.B.Blocks.state c.args.blocks.now in
    let P : ℕ = per_block m.holdings.size in
    let power : c.pow-span.result ≡ P ^ c.args.level = power_is m c.args.level c.size-size.result c.from.result c.pow-span.result c.size-size.ensures.size c.from.ensures c.pow-span.ensures in
    elim c.then-first-span.branch [
      | then-first-span-via-then-first-span w ↦
          none_before (present_of (block_map c.args.order m) c.args.node.now) c.args.from (c.args.index * P ^ c.args.level) ((c.args.index + 1) * P ^ c.args.level) (omega (arith, w.if-first-span.true, power, ap (λ k. c.args.index * k) power))
      | then-first-span-via-else-first-span+then-div_ceil-first w ↦
          past_none (block_map c.args.order m) c.args.node.now c.args.from (c.args.index * P ^ c.args.level) ((c.args.index + 1) * P ^ c.args.level)
          (first_past P c.args.level c.args.index c.pow-span.result w.div_ceil.result (leaves_below (block_map c.args.order m) c.args.node.now) power
          (leaves_is c.args.order m c.args.node.now c.size-size.result w.div_ceil.result c.size-size.ensures.consistent c.size-size.ensures.size w.div_ceil.ensures) w.if-div_ceil-first.true)
    ]

pub returns-then-pointer-clause-found : goal.returns-then-pointer-clause-found
returns-then-pointer-clause-found g t c told =
    let m : BlockState = g.B.Blocks.state c.args.blocks.now in
    let known : IsKnown c.args.order m c.args.node.now = record { consistent = c.size-size.ensures.consistent; works = c.requires.works told } in
    lead_none c.args.order m c.args.node.now c.args.level c.args.index c.args.pointer c.leading-pointer.result c.args.from known (c.requires.stands told) c.leading-pointer.ensures.same c.if-pointer.true

pub returns-then-level-eq0-clause-found : goal.returns-then-level-eq0-clause-found
returns-then-level-eq0-clause-found g t c told =
    let m : BlockState = g.B.Blocks.state c.args.blocks.now in
    let known : IsKnown c.args.order m c.args.node.now = record { consistent = c.size-size.ensures.consistent; works = c.requires.works told } in
    let below = first_below (per_block m.holdings.size) c.args.level c.args.index c.pow-span.result c.div_ceil.result (leaves_below (block_map c.args.order m) c.args.node.now)
    (power_is m c.args.level c.size-size.result c.from.result c.pow-span.result c.size-size.ensures.size c.from.ensures c.pow-span.ensures)
    (leaves_is c.args.order m c.args.node.now c.size-size.result c.div_ceil.result known.consistent c.size-size.ensures.size c.div_ceil.ensures) c.if-div_ceil-first.false in
    leaf_next (block_map c.args.order m) c.args.node.now c.args.level c.args.index c.leading-pointer.result c.args.from c.if-level-eq0.true
    (lead_same c.args.order m c.args.node.now c.args.level c.args.index c.args.pointer c.leading-pointer.result known (c.requires.stands told) c.leading-pointer.ensures.same c.if-pointer.false below) c.if-pointer.false below

pub nonzero_div-skip-2 : goal.nonzero_div-skip-2
nonzero_div-skip-2 g t c =
    let m : BlockState = g.B.Blocks.state c.args.blocks.now in
    let power : c.pow-span.result ≡ per_block m.holdings.size ^ c.args.level = power_is m c.args.level c.size-size.result c.from.result c.pow-span.result c.size-size.ensures.size c.from.ensures c.pow-span.ensures in
    let down = span_down (per_block m.holdings.size) c.args.level c.pow-span.result (c.size-size.result / 4) (words_positive m.holdings.size c.size-size.ensures.consistent.size) c.if-level-eq0.false power (ap (λ n. n / 4) c.size-size.ensures.size) in
    subst (λ k. 0 < k) (sym down) (power_positive m.holdings.size (c.args.level - 1) c.size-size.ensures.consistent.size)

pub loop-w-init : goal.loop-w-init
loop-w-init g t c =
    let m : BlockState = g.B.Blocks.state c.args.blocks.now in
    let P : ℕ = per_block m.holdings.size in
    let power : c.pow-span.result ≡ P ^ c.args.level = power_is m c.args.level c.size-size.result c.from.result c.pow-span.result c.size-size.ensures.size c.from.ensures c.pow-span.ensures in
    let skip : ℕ = c.saturating_sub.result / (c.pow-span.result / (c.size-size.result / 4)) in
    record {
      none = λ told. skip_none (present_of (block_map c.args.order m) c.args.node.now) P c.args.level c.args.index c.args.from skip c.if-level-eq0.false
          (skip_few P c.args.level c.args.index c.args.from c.pow-span.result (c.size-size.result / 4) c.saturating_sub.result skip (words_positive m.holdings.size c.size-size.ensures.consistent.size) c.if-level-eq0.false power (ap (λ n. n / 4) c.size-size.ensures.size) c.saturating_sub.ensures refl);
      told = λ told. told;
      keeps = search rules;
      aside = search rules;
      faults = search rules;
    }

pub overflow_mul-child : goal.overflow_mul-child
overflow_mul-child g t c = omega (arith, child-fits (g.B.Blocks.state c.args.blocks.now).holdings.size c.args.level c.args.index (c.size-size.result / 4) c.size-size.ensures.consistent.size (omega (arith, c.if-level-eq0.false)) c.requires.reach (ap (λ n. n / 4) c.size-size.ensures.size))

pub overflow_add-child : goal.overflow_add-child
overflow_add-child g t c = omega (arith, child-fits (g.B.Blocks.state c.args.blocks.now).holdings.size c.args.level c.args.index (c.size-size.result / 4) c.size-size.ensures.consistent.size (omega (arith, c.if-level-eq0.false)) c.requires.reach (ap (λ n. n / 4) c.size-size.ensures.size))

pub present_below-requires : goal.present_below-requires
present_below-requires g t c κs within =
    let m : BlockState = g.B.Blocks.state c.args.blocks.now in
    let mid : BlockState = g.B.Blocks.state c.loop-w.blocks in
    let low : c.loop-w.w < c.size-size.result / 4 = omega (arith, c.loop-w-test.true) in
    let long : length c.read_words.new.into ≡ c.size-size.result / 4 = search rules in
    let same : c.size-size.result / 4 ≡ per_block m.holdings.size = ap (λ n. n / 4) c.size-size.ensures.size in (
      omega (arith, c.decreases, c.if-level-eq0.false),
      (
        within,
        (
          kept_reach m mid (c.args.level - 1) (c.args.index * (c.size-size.result / 4) + c.loop-w.w) c.loop-w.invariant.keeps
              (child-reach m.holdings.size c.args.level c.args.index (c.size-size.result / 4) c.loop-w.w (omega (arith, c.if-level-eq0.false)) c.requires.reach same low),
          (
            λ told. subst (λ x. IsWorking c.args.order x c.args.node.now) (sym (c.loop-w.invariant.keeps.told told)) (c.requires.works (told_before m mid c.loop-w.invariant.keeps told)),
            λ told.
                let known : IsKnown c.args.order m c.args.node.now = record { consistent = c.size-size.ensures.consistent; works = c.requires.works (told_before m mid c.loop-w.invariant.keeps told) } in
                let below = first_below (per_block m.holdings.size) c.args.level c.args.index c.pow-span.result c.div_ceil.result (leaves_below (block_map c.args.order m) c.args.node.now)
                (power_is m c.args.level c.size-size.result c.from.result c.pow-span.result c.size-size.ensures.size c.from.ensures c.pow-span.ensures)
                (leaves_is c.args.order m c.args.node.now c.size-size.result c.div_ceil.result known.consistent c.size-size.ensures.size c.div_ceil.ensures) c.if-div_ceil-first.false in
                let word_low : c.loop-w.w < per_block m.holdings.size = omega (arith, low, same) in
                stand_kept c.args.order m mid c.args.node.now (c.args.level - 1) c.args.index (c.size-size.result / 4) c.loop-w.w _ (c.loop-w.invariant.keeps.told told) same
                (words_stand c.args.order m c.args.node.now c.args.level c.args.index c.leading-pointer.result c.loop-w.w _ known c.if-level-eq0.false
                (lead_same c.args.order m c.args.node.now c.args.level c.args.index c.args.pointer c.leading-pointer.result known (c.requires.stands (told_before m mid c.loop-w.invariant.keeps told)) c.leading-pointer.ensures.same c.if-pointer.false below) c.if-pointer.false below word_low
                (of_part (λ xs. slice_index xs c.loop-w.w ≡ word (block_map c.args.order m) c.leading-pointer.result c.loop-w.w) (c.size-size.result / 4) c.read_words.new.into _ long (c.in_ok-read_words.ensures.words (c.loop-w.invariant.told told) c.loop-w.w (omega (arith, low, long))))),
          ),
        ),
      ),
    )

pub returns-then-is_some-clause-found : goal.returns-then-is_some-clause-found
returns-then-is_some-clause-found g t c told =
    let m : BlockState = g.B.Blocks.state c.args.blocks.now in
    let mid : BlockState = g.B.Blocks.state c.loop-w.blocks in
    let new : BlockState = g.B.Blocks.state c.present_below.new.blocks in
    let P : ℕ = per_block m.holdings.size in
    let mid_told : IsTrue mid.tells = told_before mid new c.in_ok-found.ensures.reads.keeps told in
    let some : is_some c.in_ok-found.found ≡ true = search rules in
    next_ends (block_map c.args.order m) c.args.node.now c.args.from (c.args.index * P ^ c.args.level) ((c.args.index * P + c.loop-w.w) * P ^ (c.args.level - 1)) ((c.args.index * P + c.loop-w.w + 1) * P ^ (c.args.level - 1)) ((c.args.index + 1) * P ^ c.args.level) c.in_ok-found.found some
    (c.loop-w.invariant.none mid_told)
    (next_kept c.args.order m mid c.args.node.now c.args.from (c.args.level - 1) c.args.index (c.size-size.result / 4) c.loop-w.w c.in_ok-found.found (c.loop-w.invariant.keeps.told mid_told) (ap (λ n. n / 4) c.size-size.ensures.size) (c.in_ok-found.ensures.found told))

pub returns-then-is_some-clause-bounds : goal.returns-then-is_some-clause-bounds
returns-then-is_some-clause-bounds g t c =
    bounds_kept c.args.order (g.B.Blocks.state c.args.blocks.now) (g.B.Blocks.state c.loop-w.blocks) c.args.node.now c.args.from c.in_ok-found.found c.loop-w.invariant.keeps c.in_ok-found.ensures.bounds

pub returns-then-is_some-clause-held : goal.returns-then-is_some-clause-held
returns-then-is_some-clause-held g t c = held_kept (g.B.Blocks.state c.args.blocks.now) (g.B.Blocks.state c.loop-w.blocks) c.in_ok-found.found c.loop-w.invariant.keeps c.in_ok-found.ensures.held

pub loop-w-preserved : goal.loop-w-preserved
loop-w-preserved g t c =
    let m : BlockState = g.B.Blocks.state c.args.blocks.now in
    let mid : BlockState = g.B.Blocks.state c.loop-w.blocks in
    let new : BlockState = g.B.Blocks.state c.present_below.new.blocks in
    let P : ℕ = per_block m.holdings.size in
    let empty : is_some c.in_ok-found.found ≡ false = search rules in
    let up : c.args.index * P + c.loop-w.w + 1 ≡ c.args.index * P + (c.loop-w.w + 1) = omega arith in
    record {
      none = λ told.
          let mid_told : IsTrue mid.tells = told_before mid new c.in_ok-found.ensures.reads.keeps told in
          subst (λ k. HasNone (present_of (block_map c.args.order m) c.args.node.now) c.args.from (c.args.index * P ^ c.args.level) (k * P ^ (c.args.level - 1))) up
          (next_goes_on (block_map c.args.order m) c.args.node.now c.args.from (c.args.index * P ^ c.args.level) ((c.args.index * P + c.loop-w.w) * P ^ (c.args.level - 1)) ((c.args.index * P + c.loop-w.w + 1) * P ^ (c.args.level - 1)) c.in_ok-found.found empty
          (c.loop-w.invariant.none mid_told)
          (next_kept c.args.order m mid c.args.node.now c.args.from (c.args.level - 1) c.args.index (c.size-size.result / 4) c.loop-w.w c.in_ok-found.found (c.loop-w.invariant.keeps.told mid_told) (ap (λ n. n / 4) c.size-size.ensures.size) (c.in_ok-found.ensures.found told)));
      told = λ told. c.loop-w.invariant.told (told_before mid new c.in_ok-found.ensures.reads.keeps told);
      keeps = kept_again m mid new c.loop-w.invariant.keeps c.in_ok-found.ensures.reads.keeps;
      aside = search rules;
      faults = search rules;
    }

pub returns-clause-found : goal.returns-clause-found
returns-clause-found g t c told =
    let m : BlockState = g.B.Blocks.state c.args.blocks.now in
    let P : ℕ = per_block m.holdings.size in
    let past : P ≤ c.loop-w.w = omega (arith, c.loop-w-test.false, ap (λ n. n / 4) c.size-size.ensures.size) in
    all_none (present_of (block_map c.args.order m) c.args.node.now) P c.args.level c.args.index c.args.from c.loop-w.w c.if-level-eq0.false past (c.loop-w.invariant.none told)
