use Rattle.std.proofs.Common.{rules, ◌≡◌, ℕ, ◌+◌, ◌-◌, ◌*◌, ◌/◌, ◌^◌, ◌<◌, ◌∙◌, true, false, arith, sym, ap, subst}
use Rattle.std.specs.Prelude.{IsTrue, is_some, length, slice_index}
use Rattle.qx_geom.specs.Lists.{is_in}
use Rattle.qx_geom.specs.Pointer.{per_block}
use Rattle.qx_nodes.specs.BlockMap.{word}
use Rattle.qx_nodes.specs.Leaves.{leaves_below}
use Rattle.qx_nodes.specs.Visits.{present_of}
use Rattle.qx_blocks.specs.BlockState.{BlockState}
use Rattle.qx_ptree.specs.Holes.{HasEach}
use Rattle.qx_ptree.specs.Trees.{IsWorking, block_map}
use Rattle.qx_ptree.proofs.FirstHoles.{IsKnown, below_ends, each_none, first_below, first_past, first_span, lack_ends, lack_goes_on, lack_kept, last_span, lead_lacks, lead_same, leaves_is, past_lacks, power_is, stand_kept, stands_present, words_stand}
use Rattle.qx_ptree.proofs.KeptPlans.{kept_again, kept_reach, told_before}
use Rattle.qx_ptree.proofs.PartBounds.{child-fits, child-reach}
use Rattle.qx_ptree.proofs.PointerCounts.{power_positive}
use Rattle.qx_ptree.proofs.RowSlices.{of_part}
use Rattle.qx_ptree.proofs.holes.+hole_below.Goals.{then-pointer-via-then-pointer, then-pointer-via-else-pointer+then-div_ceil-first}
use Rattle.qx_ptree.proofs.holes.+hole_below.Goals as goal

pub returns-then-pointer-clause-hole : goal.returns-then-pointer-clause-hole
returns-then-pointer-clause-hole g t c told =
    let m : BlockState = g.B.Blocks.state c.args.blocks.now in
    let P : ℕ = per_block m.holdings.size in
    let power : c.pow.result ≡ P ^ c.args.level = power_is m c.args.level c.size-size.result c.from.result c.pow.result c.size-size.ensures.size c.from.ensures c.pow.ensures in
    let known : IsKnown c.args.order m c.args.node.now = record { consistent = c.size-size.ensures.consistent; works = c.requires.works told } in (
      each_none (present_of (block_map c.args.order m) c.args.node.now) (c.args.index * P ^ c.args.level) (c.args.index * c.pow.result) (omega (arith, ap (λ k. c.args.index * k) power)),
      subst (λ k. is_in (present_of (block_map c.args.order m) c.args.node.now) (c.args.index * k) ≡ false) (sym power)
          (elim c.then-pointer.branch [
            | then-pointer-via-then-pointer w ↦ lead_lacks c.args.order m c.args.node.now c.args.level c.args.index c.args.pointer c.leading-pointer.result known (c.requires.stands told) c.leading-pointer.ensures.same w.if-pointer.true
            | then-pointer-via-else-pointer+then-div_ceil-first w ↦ past_lacks (block_map c.args.order m) c.args.node.now (c.args.index * P ^ c.args.level)
                (first_past P c.args.level c.args.index c.pow.result w.div_ceil.result (leaves_below (block_map c.args.order m) c.args.node.now) power
                (leaves_is c.args.order m c.args.node.now c.size-size.result w.div_ceil.result known.consistent c.size-size.ensures.size w.div_ceil.ensures) w.if-div_ceil-first.true)
          ]),
    )

pub returns-then-pointer-clause-below : goal.returns-then-pointer-clause-below
returns-then-pointer-clause-below g t c =
    let m : BlockState = g.B.Blocks.state c.args.blocks.now in
    let power : c.pow.result ≡ per_block m.holdings.size ^ c.args.level = power_is m c.args.level c.size-size.result c.from.result c.pow.result c.size-size.ensures.size c.from.ensures c.pow.ensures in
    omega (arith, ap (λ k. c.args.index * k) power, power_positive m.holdings.size c.args.level c.size-size.ensures.consistent.size)

pub returns-then-level-eq0-clause-hole : goal.returns-then-level-eq0-clause-hole
returns-then-level-eq0-clause-hole g t c told =
    let m : BlockState = g.B.Blocks.state c.args.blocks.now in
    let known : IsKnown c.args.order m c.args.node.now = record { consistent = c.size-size.ensures.consistent; works = c.requires.works told } in
    let below = first_below (per_block m.holdings.size) c.args.level c.args.index c.pow.result c.div_ceil.result (leaves_below (block_map c.args.order m) c.args.node.now)
    (power_is m c.args.level c.size-size.result c.from.result c.pow.result c.size-size.ensures.size c.from.ensures c.pow.ensures)
    (leaves_is c.args.order m c.args.node.now c.size-size.result c.div_ceil.result known.consistent c.size-size.ensures.size c.div_ceil.ensures) c.if-div_ceil-first.false in
    stands_present (block_map c.args.order m) c.args.node.now c.args.level c.args.index c.leading-pointer.result c.if-level-eq0.true
    (lead_same c.args.order m c.args.node.now c.args.level c.args.index c.args.pointer c.leading-pointer.result known (c.requires.stands told) c.leading-pointer.ensures.same c.if-pointer.false below) c.if-pointer.false below

pub loop-w-init : goal.loop-w-init
loop-w-init g t c =
    let m : BlockState = g.B.Blocks.state c.args.blocks.now in
    let P : ℕ = per_block m.holdings.size in
    record {
      each = λ told. each_none (present_of (block_map c.args.order m) c.args.node.now) (c.args.index * P ^ c.args.level) ((c.args.index * P + 0) * P ^ (c.args.level - 1)) (omega (arith, first_span P c.args.level c.args.index c.if-level-eq0.false));
      told = λ told. told;
      keeps = search rules;
      aside = search rules;
      faults = search rules;
    }

pub overflow_mul-child : goal.overflow_mul-child
overflow_mul-child g t c = omega (arith, child-fits (g.B.Blocks.state c.args.blocks.now).holdings.size c.args.level c.args.index (c.size-size.result / 4) c.size-size.ensures.consistent.size (omega (arith, c.if-level-eq0.false)) c.requires.reach (ap (λ n. n / 4) c.size-size.ensures.size))

pub overflow_add-child : goal.overflow_add-child
overflow_add-child g t c = omega (arith, child-fits (g.B.Blocks.state c.args.blocks.now).holdings.size c.args.level c.args.index (c.size-size.result / 4) c.size-size.ensures.consistent.size (omega (arith, c.if-level-eq0.false)) c.requires.reach (ap (λ n. n / 4) c.size-size.ensures.size))

pub hole_below-requires : goal.hole_below-requires
hole_below-requires g t c κs within =
    let m : BlockState = g.B.Blocks.state c.args.blocks.now in
    let mid : BlockState = g.B.Blocks.state c.loop-w.blocks in
    let low : c.loop-w.w < c.size-size.result / 4 = omega (arith, c.loop-w-test.true) in
    let long : length c.read_words.new.into ≡ c.size-size.result / 4 = search rules in
    let same : c.size-size.result / 4 ≡ per_block m.holdings.size = ap (λ n. n / 4) c.size-size.ensures.size in (
      omega (arith, c.decreases, c.if-level-eq0.false),
      (
        within,
        (
          kept_reach m mid (c.args.level - 1) (c.args.index * (c.size-size.result / 4) + c.loop-w.w) c.loop-w.invariant.keeps
              (child-reach m.holdings.size c.args.level c.args.index (c.size-size.result / 4) c.loop-w.w (omega (arith, c.if-level-eq0.false)) c.requires.reach same low),
          (
            λ told. subst (λ x. IsWorking c.args.order x c.args.node.now) (sym (c.loop-w.invariant.keeps.told told)) (c.requires.works (told_before m mid c.loop-w.invariant.keeps told)),
            λ told.
                let known : IsKnown c.args.order m c.args.node.now = record { consistent = c.size-size.ensures.consistent; works = c.requires.works (told_before m mid c.loop-w.invariant.keeps told) } in
                let below = first_below (per_block m.holdings.size) c.args.level c.args.index c.pow.result c.div_ceil.result (leaves_below (block_map c.args.order m) c.args.node.now)
                (power_is m c.args.level c.size-size.result c.from.result c.pow.result c.size-size.ensures.size c.from.ensures c.pow.ensures)
                (leaves_is c.args.order m c.args.node.now c.size-size.result c.div_ceil.result known.consistent c.size-size.ensures.size c.div_ceil.ensures) c.if-div_ceil-first.false in
                let word_low : c.loop-w.w < per_block m.holdings.size = omega (arith, low, same) in
                stand_kept c.args.order m mid c.args.node.now (c.args.level - 1) c.args.index (c.size-size.result / 4) c.loop-w.w _ (c.loop-w.invariant.keeps.told told) same
                (words_stand c.args.order m c.args.node.now c.args.level c.args.index c.leading-pointer.result c.loop-w.w _ known c.if-level-eq0.false
                (lead_same c.args.order m c.args.node.now c.args.level c.args.index c.args.pointer c.leading-pointer.result known (c.requires.stands (told_before m mid c.loop-w.invariant.keeps told)) c.leading-pointer.ensures.same c.if-pointer.false below) c.if-pointer.false below word_low
                (of_part (λ xs. slice_index xs c.loop-w.w ≡ word (block_map c.args.order m) c.leading-pointer.result c.loop-w.w) (c.size-size.result / 4) c.read_words.new.into _ long (c.in_ok-read_words.ensures.words (c.loop-w.invariant.told told) c.loop-w.w (omega (arith, low, long))))),
          ),
        ),
      ),
    )

pub returns-then-is_some-clause-hole : goal.returns-then-is_some-clause-hole
returns-then-is_some-clause-hole g t c told =
    let m : BlockState = g.B.Blocks.state c.args.blocks.now in
    let mid : BlockState = g.B.Blocks.state c.loop-w.blocks in
    let new : BlockState = g.B.Blocks.state c.hole_below.new.blocks in
    let P : ℕ = per_block m.holdings.size in
    let mid_told : IsTrue mid.tells = told_before mid new c.in_ok-hole.ensures.reads.keeps told in
    let some : is_some c.in_ok-hole.hole ≡ true = search rules in
    lack_ends (present_of (block_map c.args.order m) c.args.node.now) (c.args.index * P ^ c.args.level) ((c.args.index * P + c.loop-w.w) * P ^ (c.args.level - 1)) ((c.args.index * P + c.loop-w.w + 1) * P ^ (c.args.level - 1)) ((c.args.index + 1) * P ^ c.args.level) c.in_ok-hole.hole some
    (c.loop-w.invariant.each mid_told)
    (lack_kept c.args.order m mid c.args.node.now (c.args.level - 1) c.args.index (c.size-size.result / 4) c.loop-w.w c.in_ok-hole.hole (c.loop-w.invariant.keeps.told mid_told) (ap (λ n. n / 4) c.size-size.ensures.size) (c.in_ok-hole.ensures.hole told))

pub returns-then-is_some-clause-below : goal.returns-then-is_some-clause-below
returns-then-is_some-clause-below g t c =
    let m : BlockState = g.B.Blocks.state c.args.blocks.now in
    let mid : BlockState = g.B.Blocks.state c.loop-w.blocks in
    let same : c.size-size.result / 4 ≡ per_block m.holdings.size = ap (λ n. n / 4) c.size-size.ensures.size in
    let low : c.loop-w.w < per_block m.holdings.size = omega (arith, c.loop-w-test.true, same) in
    below_ends m.holdings.size mid.holdings.size c.args.level c.args.index (c.size-size.result / 4) c.loop-w.w c.in_ok-hole.hole (ap (λ h. h.size) c.loop-w.invariant.keeps.holdings) same c.if-level-eq0.false low c.in_ok-hole.ensures.below

pub loop-w-preserved : goal.loop-w-preserved
loop-w-preserved g t c =
    let m : BlockState = g.B.Blocks.state c.args.blocks.now in
    let mid : BlockState = g.B.Blocks.state c.loop-w.blocks in
    let new : BlockState = g.B.Blocks.state c.hole_below.new.blocks in
    let P : ℕ = per_block m.holdings.size in
    let none : is_some c.in_ok-hole.hole ≡ false = search rules in
    let up : c.args.index * P + c.loop-w.w + 1 ≡ c.args.index * P + (c.loop-w.w + 1) = omega arith in
    record {
      each = λ told.
          let mid_told : IsTrue mid.tells = told_before mid new c.in_ok-hole.ensures.reads.keeps told in
          subst (λ k. HasEach (present_of (block_map c.args.order m) c.args.node.now) (c.args.index * P ^ c.args.level) (k * P ^ (c.args.level - 1))) up
          (lack_goes_on (present_of (block_map c.args.order m) c.args.node.now) (c.args.index * P ^ c.args.level) ((c.args.index * P + c.loop-w.w) * P ^ (c.args.level - 1)) ((c.args.index * P + c.loop-w.w + 1) * P ^ (c.args.level - 1)) c.in_ok-hole.hole none
          (c.loop-w.invariant.each mid_told)
          (lack_kept c.args.order m mid c.args.node.now (c.args.level - 1) c.args.index (c.size-size.result / 4) c.loop-w.w c.in_ok-hole.hole (c.loop-w.invariant.keeps.told mid_told) (ap (λ n. n / 4) c.size-size.ensures.size) (c.in_ok-hole.ensures.hole told)));
      told = λ told. c.loop-w.invariant.told (told_before mid new c.in_ok-hole.ensures.reads.keeps told);
      keeps = kept_again m mid new c.loop-w.invariant.keeps c.in_ok-hole.ensures.reads.keeps;
      aside = search rules;
      faults = search rules;
    }

pub returns-clause-hole : goal.returns-clause-hole
returns-clause-hole g t c told =
    let m : BlockState = g.B.Blocks.state c.args.blocks.now in
    let P : ℕ = per_block m.holdings.size in
    let all : c.loop-w.w ≡ P = omega (arith, c.loop-w-test.false, c.loop-w.auto, c.read_words.ensures.long, c.size-size.ensures.size) in
    let ends : (c.args.index * P + c.loop-w.w) * P ^ (c.args.level - 1) ≡ (c.args.index + 1) * P ^ c.args.level = ap (λ w. (c.args.index * P + w) * P ^ (c.args.level - 1)) all ∙ last_span P c.args.level c.args.index c.if-level-eq0.false in
    subst (λ k. HasEach (present_of (block_map c.args.order m) c.args.node.now) (c.args.index * P ^ c.args.level) k) ends (c.loop-w.invariant.each told)
