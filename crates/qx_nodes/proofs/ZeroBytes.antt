-- Bytes 0: their pieces, and the numbers that they spell.
use Rattle.std.proofs.Common.{◌≡◌, ℕ, zero, suc, ◌+◌, ◌-◌, inl, inr, List, refl, ap, ◌∙◌, arith}
use Rattle.std.specs.Prelude.{replicate, slice_index, slice_range, take}
use Rattle.std.proofs.lemmas.Bool.{cases_lt}
use Rattle.std.proofs.lemmas.List.{drop-replicate, length-replicate, take-replicate, take_all}
use Rattle.qx_fields.specs.Number.{field, number}
use Rattle.qx_fields.specs.declared.order.Order.TheVariants.{Big, Little}
use Rattle.qx_fields.specs.declared.order.Order.{Order}

-- so many zeros
abbrev pub zeros : ℕ → List ℕ
zeros n = replicate n 0

-- a piece of zeros is zeros
pub slice_zeros : (n a b : ℕ) → (c : ℕ) × (slice_range (zeros n) a b ≡ zeros c)
slice_zeros n a b = elim (cases_lt (b - a) (n - a)) [
  | inl less ↦ (b - a, ap (take (b - a)) (drop-replicate {X = ℕ} a n 0) ∙ take-replicate {X = ℕ} (b - a) (n - a) 0 (omega arith))
  | inr all ↦ (n - a, ap (take (b - a)) (drop-replicate {X = ℕ} a n 0) ∙ take_all (b - a) (zeros (n - a)) (omega (arith, length-replicate {A = ℕ} (n - a) 0)))
]

-- each of them is 0
zero_at : (c i : ℕ) → slice_index (zeros c) i ≡ 0
zero_at zero i = refl
zero_at (suc c) zero = refl
zero_at (suc c) (suc i) = zero_at c i

-- so a number among zeros is 0
pub field_zeros : (order : Order) (c at : ℕ) → field order 4 (zeros c) at ≡ 0
unfolding field
field_zeros order c at = let z = slice_zeros c at (at + 4) in ap (λ bs. number order 4 bs) z.1 ∙ by_order order z.0
  where
    by_order : (order : Order) (d : ℕ) → number order 4 (zeros d) ≡ 0
    by_order Little d = omega (arith, zero_at d 0, zero_at d 1, zero_at d 2, zero_at d 3)
    by_order Big d = omega (arith, zero_at d 0, zero_at d 1, zero_at d 2, zero_at d 3)

-- and one of two bytes
pub short_field_zeros : (order : Order) (c at : ℕ) → field order 2 (zeros c) at ≡ 0
unfolding field
short_field_zeros order c at = let z = slice_zeros c at (at + 2) in ap (λ bs. number order 2 bs) z.1 ∙ by_order order z.0
  where
    by_order : (order : Order) (d : ℕ) → number order 2 (zeros d) ≡ 0
    by_order Little d = omega (arith, zero_at d 0, zero_at d 1)
    by_order Big d = omega (arith, zero_at d 0, zero_at d 1)
