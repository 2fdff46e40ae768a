-- Words that have the bits of two sets.
use Rattle.std.proofs.Common.{◌≡◌, ℕ, zero, suc, ◌/◌, ◌%◌, ◌<◌, ◌≤◌, inl, inr, false, ◌||◌, List, length, get_or, refl, sym, ◌∙◌, ap, subst, arith, bit_or}
use Rattle.std.specs.Prelude.{◌==◌, max}
use Rattle.std.specs.Int.{bit_at}
use Rattle.std.proofs.lemmas.Bool.{cases_lt}
use Rattle.std.proofs.lemmas.List.{ext_get_or, get_or_past}
use Rattle.std.proofs.lemmas.List.FromFn.{length-map-range_with_len, get_or-map-range_with_len}
use Rattle.std.proofs.lemmas.Nat.Bits.{bit_at-lt, bit_at-zero, bit_at_or}
use Rattle.qx_blockset.specs.Members.{has, union_of}
use Rattle.qx_blockset.specs.Words.{in_words, members}
use Rattle.qx_blockset.proofs.MembersInWords.{has-members, length-members}

-- each of the new words has the bits of both
pub record AreUnited (words others new : List ℕ) : Type 0 where
  pub long : length new ≡ length words
  pub same : length others ≡ length words
  pub each : (k : ℕ) → k < length words → get_or new k 0 ≡ bit_or (get_or words k 0) (get_or others k 0)

-- the greater of two bits is set where one of them is
or-tested : (x y : ℕ) → x < 2 → y < 2 → (max x y == 1) ≡ ((x == 1) || (y == 1))
or-tested zero zero low high = refl
or-tested zero (suc zero) low high = refl
or-tested (suc zero) zero low high = refl
or-tested (suc zero) (suc zero) low high = refl
or-tested zero (suc (suc y)) low high = absurd (omega arith)
or-tested (suc zero) (suc (suc y)) low high = absurd (omega arith)
or-tested (suc (suc x)) y low high = absurd (omega arith)

-- past the words no bit is set
in_words-past : (words : List ℕ) (b : ℕ) → length words ≤ b / 64 → in_words words b ≡ false
in_words-past words b high = ap (λ word. bit_at word (b % 64) == 1) (get_or_past words (b / 64) 0 high) ∙ ap (λ n. n == 1) (bit_at-zero (b % 64))

-- a number has its bit where one of the two has it
pub in_words-united : (words others new : List ℕ) (b : ℕ) → AreUnited words others new → in_words new b ≡ (in_words words b || in_words others b)
in_words-united words others new b u = elim (cases_lt (b / 64) (length words)) [
  | inl low ↦ ap (λ word. bit_at word (b % 64) == 1) (u.each (b / 64) low)
      ∙ ap (λ n. n == 1) (bit_at_or (get_or words (b / 64) 0) (get_or others (b / 64) 0) (b % 64))
      ∙ or-tested (bit_at (get_or words (b / 64) 0) (b % 64)) (bit_at (get_or others (b / 64) 0) (b % 64)) (bit_at-lt (get_or words (b / 64) 0) (b % 64)) (bit_at-lt (get_or others (b / 64) 0) (b % 64))
  | inr high ↦ in_words-past new b (rw u.long high) ∙ sym (λ i. in_words-past words b high i || in_words-past others b (rw u.same high) i)
]

-- the members are those of both
pub members-united : (words others new : List ℕ) (limit : ℕ) → AreUnited words others new → members new limit ≡ union_of (members words limit) (members others limit)
members-united words others new limit u =
    ext_get_or false _ _ (length-members new limit ∙ sym (length-map-range_with_len (λ b. has (members words limit) b || has (members others limit) b) 0 (length (members words limit)) ∙ length-members words limit))
    (λ q h. let within : q < limit = subst (λ n. q < n) (length-members new limit) h in
    has-members new limit q within ∙ in_words-united words others new q u
    ∙ sym (get_or-map-range_with_len (λ b. has (members words limit) b || has (members others limit) b) 0 (length (members words limit)) q q false (rw length-members within) (omega arith)
    ∙ (λ i. has-members words limit q within i || has-members others limit q within i)))
