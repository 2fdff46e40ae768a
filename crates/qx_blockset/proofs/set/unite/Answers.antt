use Rattle.std.proofs.Common.{◌≡◌, ◌≢◌, ℕ, ◌+◌, ◌^◌, ◌<◌, List, length, get_or, set, take, sym, ◌∙◌, ap, arith, bit_or, count_ones, below_more, inl, inr, subst}
use Rattle.std.specs.Prelude.{sum_by}
use Rattle.std.proofs.lemmas.List.{get_or-set_same, get_or-set_other, length-set, take-set}
use Rattle.std.proofs.lemmas.List.Sums.{sum_by_more}
use Rattle.std.proofs.lemmas.Bool.{cases_eq}
use Rattle.std.proofs.lemmas.Nat.{or_lt}
use Rattle.qx_blockset.proofs.CountedWords.{ones-word}
use Rattle.qx_blockset.proofs.set.unite.Goals as goal

-- the ones of the words up to the one that was written
ones-more : (words : List ℕ) (place word : ℕ) → place < length words → sum_by count_ones (take (place + 1) (set words place word)) ≡ sum_by count_ones (take place words) + count_ones word
ones-more words place word low =
    let there : place < length (set words place word) = rw length-set low in
    sum_by_more count_ones (set words place word) place 0 there
    ∙ (λ i. sum_by count_ones (take-set words place word i) + count_ones (get_or-set_same words place word 0 low i))

-- words that fit, once one is written that fits
fit-set : (words : List ℕ) (place word : ℕ) → place < length words → word < 2 ^ 64 → ((k : ℕ) → get_or words k 0 < 2 ^ 64) → (k : ℕ) → get_or (set words place word) k 0 < 2 ^ 64
fit-set words place word low fits fit k = elim (cases_eq k place) [
  | inl here ↦ subst (λ j. get_or (set words place word) j 0 < 2 ^ 64) (sym here) (rw (get_or-set_same words place word 0 low) fits)
  | inr apart ↦ rw (get_or-set_other words place k word 0 apart) (fit k)
]

pub overflow_add-ones : goal.overflow_add-ones
overflow_add-ones c =
    let fits : bit_or (get_or c.loop-place.words c.loop-place.place 0) (get_or c.args.others.now c.loop-place.place 0) < 2 ^ 64
    = or_lt 64 _ _ (c.loop-place.invariant.fit c.loop-place.place) (omega (arith, c.type_inv.others c.loop-place.place)) in
    omega (arith, c.loop-place.invariant.bounded, c.from-ones.ensures, ones-word _ fits)

pub loop-place-preserved : goal.loop-place-preserved
loop-place-preserved c =
    let words : List ℕ = c.loop-place.words in
    let place : ℕ = c.loop-place.place in
    let word : ℕ = bit_or (get_or words place 0) (get_or c.args.others.now place 0) in
    let low : place < length words = omega arith in
    let fits : word < 2 ^ 64 = or_lt 64 _ _ (c.loop-place.invariant.fit place) (omega (arith, c.type_inv.others place)) in
    record {
      united = below_more _ _
          (λ k h. let apart : k ≢ place = omega arith in get_or-set_other words place k word 0 apart ∙ c.loop-place.invariant.united k h)
          (get_or-set_same words place word 0 low ∙ ap (λ n. bit_or n (get_or c.args.others.now place 0)) (c.loop-place.invariant.untouched place (omega arith)));
      untouched = λ k h. let apart : k ≢ place = omega arith in get_or-set_other words place k word 0 apart ∙ c.loop-place.invariant.untouched k (omega arith);
      fit = fit-set words place word low fits c.loop-place.invariant.fit;
      counted = omega (arith, c.loop-place.invariant.counted, c.from-ones.ensures, ones-more words place word low);
      bounded = omega (arith, c.loop-place.invariant.bounded, c.from-ones.ensures, ones-word word fits);
    }
