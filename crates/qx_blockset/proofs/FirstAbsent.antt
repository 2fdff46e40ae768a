-- The search for a number that is not in the set, word by word.
use Rattle.std.proofs.Common.{◌≡◌, ◌≢◌, ℕ, ◌+◌, ◌-◌, ◌*◌, ◌/◌, ◌%◌, ◌^◌, ◌<◌, ◌≤◌, inl, inr, true, false, List, length, get_or, sym, ◌∙◌, ap, subst, arith, w64}
use Rattle.std.specs.Prelude.{◌==◌, bit_or, max}
use Rattle.std.specs.Int.{bit_at, trailing_ones}
use Rattle.std.proofs.lemmas.Bool.{cases_lt}
use Rattle.std.proofs.lemmas.Grind.{get_or_default_zero}
use Rattle.std.proofs.lemmas.Nat.{one_shl}
use Rattle.std.proofs.lemmas.Nat.Bits.{bit_at_or, bit_at_ones, bit_at-trailing_ones}
use Rattle.qx_blockset.specs.Members.{Members, has, HasAll}
use Rattle.qx_blockset.specs.Words.{in_words, members_in}
use Rattle.qx_blockset.specs.LowBits.{IsBelow}
use Rattle.qx_blockset.specs.declared.set.BlockSet.TheInside.{Inside}
use Rattle.qx_blockset.proofs.MembersInWords.{has-members, length-members}

-- the numbers from `from` up to `to` have their bits
pub record AllIn (words : List ℕ) (from to : ℕ) : Type 0 where
  pub each : (q : ℕ) → from ≤ q → q < to → in_words words q ≡ true

-- bit k of a word, and number place * 64 + k
in-place : (words : List ℕ) (place k : ℕ) → k < 64 → in_words words (place * 64 + k) ≡ (bit_at (get_or words place 0) k == 1)
in-place words place k h =
    let which : (place * 64 + k) / 64 ≡ place = omega arith in
    let bit : (place * 64 + k) % 64 ≡ k = omega arith in
    λ i. bit_at (get_or words (which i) 0) (bit i) == 1

-- a bit that is set in a word or below `from`
set-in-place : (words : List ℕ) (from place k below : ℕ) → IsBelow from place below → k < 64 → from ≤ place * 64 + k
    → bit_at (bit_or (get_or words place 0) below) k ≡ 1 → in_words words (place * 64 + k) ≡ true
set-in-place words from place k below b h high set =
    let bit : bit_at (get_or words place 0) k ≡ 1 = omega (arith, bit_at_or (get_or words place 0) below k, b.above k h high, set) in
    in-place words place k h ∙ ap (λ x. x == 1) bit

-- what holds of a number counted from its word's first holds of the number
at-place : (words : List ℕ) (place q : ℕ) → place * 64 ≤ q → q < place * 64 + 64 → (P : ℕ → Type 0) → P (place * 64 + (q - place * 64)) → P q
at-place words place q low high P h = subst P (omega arith) h

-- a full word takes the search a word on
pub AllIn-more : (words : List ℕ) (from place below : ℕ) → IsBelow from place below → bit_or (get_or words place 0) below ≡ 2 ^ 64 - 1 → AllIn words from (place * 64) → AllIn words from ((place + 1) * 64)
AllIn-more words from place below b full so_far = record {
  each = λ q low high. elim (cases_lt q (place * 64)) [
    | inl before ↦ so_far.each q low before
    | inr here ↦ at-place words place q here (omega arith) (λ n. in_words words n ≡ true)
        (set-in-place words from place (q - place * 64) below b (omega arith) (omega arith)
        (ap (λ x. bit_at x (q - place * 64)) full ∙ bit_at_ones 64 (q - place * 64) (omega arith)))
  ];
}

-- where a word is not full, its first free bit ends the search
pub record EndsAt (words : List ℕ) (from b : ℕ) : Type 0 where
  pub low : from ≤ b
  pub absent : in_words words b ≡ false
  pub before : AllIn words from b

-- it ends the search in this word
pub ends-here : (words : List ℕ) (from place below : ℕ) → IsBelow from place below → bit_or (get_or words place 0) below + 1 < 2 ^ 64 → AllIn words from (place * 64)
    → EndsAt words from (place * 64 + trailing_ones w64 (bit_or (get_or words place 0) below))
ends-here words from place below b not_full so_far =
    let word : ℕ = bit_or (get_or words place 0) below in
    let t : ℕ = trailing_ones w64 word in
    let first = bit_at-trailing_ones w64 word not_full in
    let or : bit_at word t ≡ max (bit_at (get_or words place 0) t) (bit_at below t) = bit_at_or (get_or words place 0) below t in
    let low : from ≤ place * 64 + t = elim (cases_lt (place * 64 + t) from) [
      | inl under ↦ absurd (omega (arith, or, first.1, b.below t first.0 under))
      | inr over ↦ over
    ] in
    record {
      low = low;
      absent = in-place words place t first.0 ∙ ap (λ x. x == 1) (let zero : bit_at (get_or words place 0) t ≡ 0 = omega (arith, or, first.1) in zero);
      before = record {
        each = λ q from_q high. elim (cases_lt q (place * 64)) [
          | inl before ↦ so_far.each q from_q before
          | inr here ↦ at-place words place q here (omega arith) (λ n. in_words words n ≡ true)
              (set-in-place words from place (q - place * 64) below b (omega arith) (omega arith) (first.2 (q - place * 64) (omega arith)))
        ];
      };
    }

-- the lowest k bits
pub low_ones : (k : ℕ) → k < 64 → 1 * 2 ^ k % 18446744073709551616 - 1 ≡ 2 ^ k - 1
low_ones k h = ap (λ x. x - 1) (one_shl k 64 h)

-- what the search found, of the set as it is seen
pub has-in : (a : Inside) (seen : Members) (q : ℕ) → members_in a ≡ seen → q < length seen → has seen q ≡ in_words a.words.items q
has-in a seen q view low =
    sym (ap (λ s. has s q) view) ∙ has-members a.words.items a.limit q (subst (λ n. q < n) (length-members a.words.items a.limit) (subst (λ s. q < length s) (sym view) low))

-- the numbers found in the words are in the set
pub HasAll-in : (a : Inside) (seen : Members) (from to : ℕ) → members_in a ≡ seen → to ≤ length seen → AllIn a.words.items from to → HasAll seen from to
HasAll-in a seen from to view low all = record { each = λ q from_q to_q. has-in a seen q view (omega arith) ∙ all.each q from_q to_q }

-- a shorter run of them
pub AllIn-less : (words : List ℕ) (from to less : ℕ) → less ≤ to → AllIn words from to → AllIn words from less
AllIn-less words from to less le all = record { each = λ q low high. all.each q low (omega arith) }

-- the limit that is kept is the one that is seen
pub limit-is : (a : Inside) (seen : Members) → members_in a ≡ seen → a.limit ≡ length seen
limit-is a seen view = sym (length-members a.words.items a.limit) ∙ ap length view

-- the word that is looked at: n stands at `place`, and `below` has the bits below `from`
pub record LooksAt (words : List ℕ) (from place n below : ℕ) : Type 0 where
  pub so_far : AllIn words from (place * 64)
  pub inside : place < length words
  pub lies : n ≡ get_or words place n
  pub below_from : IsBelow from place below

-- the word that was read is the one that stands there
word-at : (words : List ℕ) (from place n below : ℕ) → LooksAt words from place n below → get_or words place 0 ≡ n
word-at words from place n below h = sym (h.lies ∙ get_or_default_zero words place n h.inside)

-- a full word that was read takes the search a word on
pub full-goes_on : (words : List ℕ) (from place n below : ℕ) → LooksAt words from place n below → bit_or n below ≡ 2 ^ 64 - 1 → AllIn words from ((place + 1) * 64)
full-goes_on words from place n below h full = AllIn-more words from place below h.below_from (ap (λ w. bit_or w below) (word-at words from place n below h) ∙ full) h.so_far

-- a word that was read and isn't full ends it
pub free-ends : (words : List ℕ) (from place n below t : ℕ) → LooksAt words from place n below → bit_or n below ≢ 2 ^ 64 - 1 → bit_or n below < 2 ^ 64 → t ≡ trailing_ones w64 (bit_or n below)
    → EndsAt words from (place * 64 + t)
free-ends words from place n below t h free fits is =
    let same : get_or words place 0 ≡ n = word-at words from place n below h in
    subst (λ x. EndsAt words from (place * 64 + x)) (sym (is ∙ ap (λ w. trailing_ones w64 (bit_or w below)) (sym same)))
    (ends-here words from place below h.below_from (subst (λ w. bit_or w below + 1 < 2 ^ 64) (sym same) (omega arith)) h.so_far)
