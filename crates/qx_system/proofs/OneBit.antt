-- The bytes of blocks of which one is held.
use Rattle.std.proofs.Common.{◌≡◌, inl, inr, ◌⊎◌, ⊎_elim, ℕ, ◌+◌, ◌-◌, ◌*◌, ◌/◌, ◌%◌, ◌^◌, ◌<◌, ◌≤◌, get_or, set, replicate, ap, sym, ◌∙◌, arith}
use Rattle.std.specs.Prelude.{◌==◌}
use Rattle.std.specs.Int.{bit_at}
use Rattle.std.proofs.lemmas.Bool.{cases_eq, eq-eqb, ne_eqb}
use Rattle.std.proofs.lemmas.List.{get_or-replicate, get_or-set_other, get_or-set_same, length-replicate}
use Rattle.std.proofs.lemmas.Nat.{one_shl}
use Rattle.std.proofs.lemmas.Nat.Bits.{bit_at-pow_other, bit_at-pow_same, bit_at_above}

-- where the block is one of the eight
pub one_bit : (number place : ℕ) → place ≡ number / 8 → (k : ℕ) → k < 8 → (bit_at (1 * 2 ^ (number % 8) % 2 ^ 8) k == 1) ≡ (number == place * 8 + k)
one_bit number place here k low =
    let shifted : 1 * 2 ^ (number % 8) % 2 ^ 8 ≡ 2 ^ (number % 8) = one_shl (number % 8) 8 (omega arith) in
    ap (λ x. bit_at x k == 1) shifted ∙ elim (cases_eq k (number % 8)) [
      | inl is ↦
          ap (λ j. bit_at (2 ^ (number % 8)) j == 1) is ∙ ap (λ x. x == 1) (bit_at-pow_same (number % 8))
          ∙ sym (eq-eqb number (place * 8 + k) (omega (arith, here, is)))
      | inr other ↦
          ap (λ x. x == 1) (bit_at-pow_other (number % 8) k other)
          ∙ sym (ne_eqb number (place * 8 + k) (λ e. other (omega (arith, here, e, low))))
    ]

-- where it is none of them
no_bit : (number place : ℕ) → (place ≡ number / 8 → ⊥) → (k : ℕ) → k < 8 → (bit_at 0 k == 1) ≡ (number == place * 8 + k)
no_bit number place elsewhere k low =
    ap (λ x. x == 1) (bit_at_above 0 0 k (omega arith) (omega arith)) ∙ sym (ne_eqb number (place * 8 + k) (λ e. elsewhere (omega (arith, e, low))))

-- bytes of 0, where the block is in none of them
pub none_among : (number place n : ℕ) → (number / 8 < place) ⊎ (place + n ≤ number / 8) → (i k : ℕ) → i < n → k < 8
    → (bit_at (get_or (replicate n 0) i 0) k == 1) ≡ (number == (place + i) * 8 + k)
none_among number place n outside i k within low =
    ap (λ x. bit_at x k == 1) (get_or-replicate n i 0 0 within)
    ∙ no_bit number (place + i) (λ e. ⊎_elim (λ under. absurd (omega (arith, e, under))) (λ past. absurd (omega (arith, e, past, within))) outside) k low

-- and with its own byte among them
pub one_among : (number place n : ℕ) → place ≤ number / 8 → number / 8 - place < n → (i k : ℕ) → i < n → k < 8
    → (bit_at (get_or (set (replicate n 0) (number / 8 - place) (1 * 2 ^ (number % 8) % 2 ^ 8)) i 0) k == 1) ≡ (number == (place + i) * 8 + k)
one_among number place n from to i k within low = elim (cases_eq i (number / 8 - place)) [
  | inl is ↦
      ap (λ j. bit_at (get_or (set (replicate n 0) (number / 8 - place) (1 * 2 ^ (number % 8) % 2 ^ 8)) j 0) k == 1) is
      ∙ ap (λ x. bit_at x k == 1) (get_or-set_same (replicate n 0) (number / 8 - place) (1 * 2 ^ (number % 8) % 2 ^ 8) 0 (omega (arith, to, length-replicate {A = ℕ} n 0)))
      ∙ one_bit number (place + i) (omega (arith, is, from)) k low
  | inr other ↦
      ap (λ x. bit_at x k == 1) (get_or-set_other (replicate n 0) (number / 8 - place) i (1 * 2 ^ (number % 8) % 2 ^ 8) 0 (λ e. other (omega (arith, e))))
      ∙ ap (λ x. bit_at x k == 1) (get_or-replicate n i 0 0 within)
      ∙ no_bit number (place + i) (λ e. other (omega (arith, e, from))) k low
]
