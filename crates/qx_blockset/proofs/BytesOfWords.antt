-- Eight numbers of a set, as a byte of their word.
use Rattle.std.proofs.Common.{◌≡◌, ℕ, ◌+◌, ◌*◌, ◌/◌, ◌%◌, ◌^◌, ◌<◌, ◌≤◌, inl, inr, false, length, get_or, sym, ◌∙◌, ap, subst, arith}
use Rattle.std.specs.Prelude.{◌==◌, bit_and, min}
use Rattle.std.specs.Int.{bit_at}
use Rattle.std.proofs.Math.Nat.{div-div-eq-div-mul}
use Rattle.std.proofs.lemmas.Bool.{cases_lt}
use Rattle.std.proofs.lemmas.List.{get_or_past}
use Rattle.std.proofs.lemmas.Nat.{pow-add}
use Rattle.std.proofs.lemmas.Nat.Bits.{bit_at-lt, bit_at_and, bit_at_ones}
use Rattle.qx_blockset.specs.Members.{Members, has}
use Rattle.qx_blockset.specs.Words.{IsCounted, in_words, members_in}
use Rattle.qx_blockset.specs.declared.set.BlockSet.TheInside.{Inside}
use Rattle.qx_blockset.proofs.FirstAbsent.{has-in, limit-is}
use Rattle.qx_blockset.proofs.MembersInWords.{IsIn, place-below, word-is}

-- a bit of a word that was shifted and cut to a byte
masked_bit : (n s k : ℕ) → k < 8 → bit_at (bit_and (n / 2 ^ s) 255) k ≡ bit_at n (s + k)
masked_bit n s k low =
    let all : bit_at 255 k ≡ 1 = bit_at_ones 8 k low in
    let both : bit_at (bit_and (n / 2 ^ s) 255) k ≡ min (bit_at (n / 2 ^ s) k) (bit_at 255 k) = bit_at_and (n / 2 ^ s) 255 k in
    let kept : bit_at (bit_and (n / 2 ^ s) 255) k ≡ bit_at (n / 2 ^ s) k = omega (arith, both, all, bit_at-lt (n / 2 ^ s) k) in
    kept ∙ ap (λ x. x % 2) (div-div-eq-div-mul n (2 ^ s) (2 ^ k) ∙ ap (λ p. n / p) (sym (pow-add 2 s k)))

-- a number is in the set as its bit says, also past the limit
has-bit : (a : Inside) (seen : Members) (b : ℕ) → IsCounted a → members_in a ≡ seen → has seen b ≡ in_words a.words.items b
has-bit a seen b counted view = elim (cases_lt b (length seen)) [
  | inl low ↦ has-in a seen b view low
  | inr high ↦ get_or_past seen b false high ∙ sym (counted.clean b (subst (λ n. n ≤ b) (sym (limit-is a seen view)) high))
]

-- the byte's word is there
pub byte-below : (a : Inside) (seen : Members) (place : ℕ) → IsIn a seen (place * 8) → place / 8 < length a.words.items
byte-below a seen place h = omega (arith, place-below a seen (place * 8) h, a.words.ok.0)

-- what a bit of the byte says
pub byte-test : (a : Inside) (seen : Members) (place n k : ℕ) → IsIn a seen (place * 8) → n ≡ get_or a.words.items (place / 8) n → k < 8
    → (bit_at (bit_and (n / 2 ^ (place % 8 * 8)) 255) k == 1) ≡ has seen (place * 8 + k)
byte-test a seen place n k h lies low =
    let word : (place * 8 + k) / 64 ≡ place / 8 = omega arith in
    let bit : (place * 8 + k) % 64 ≡ place % 8 * 8 + k = omega arith in
    let first : place * 8 / 64 ≡ place / 8 = omega arith in
    let is : n ≡ get_or a.words.items (place / 8) 0 = subst (λ w. n ≡ get_or a.words.items w n → n ≡ get_or a.words.items w 0) first (λ l. word-is a seen (place * 8) n h l) lies in
    ap (λ x. x == 1) (masked_bit n (place % 8 * 8) k low ∙ (λ i. bit_at (is i) (sym bit i)) ∙ ap (λ w. bit_at (get_or a.words.items w 0) ((place * 8 + k) % 64)) (sym word))
    ∙ sym (has-bit a seen (place * 8 + k) h.counted h.view)
