-- Bits of a bitmap that aren't as they must be, byte by byte.
use Rattle.std.proofs.Common.{◌≡◌, ◌≢◌, inl, inr, ℕ, zero, suc, ◌+◌, ◌-◌, ◌*◌, ◌/◌, ◌%◌, ◌^◌, ◌≤◌, ◌<◌, false, List, length, get_or, refl, ap, sym, ◌∙◌, arith, w8}
use Rattle.std.specs.Prelude.{◌==◌, not, if◌then◌else◌, Some, bit_xor}
use Rattle.std.specs.Int.{bit_at, trailing_zeros}
use Rattle.std.proofs.lemmas.Bool.{cases_lt, eq-eqb, ne_eqb}
use Rattle.std.proofs.lemmas.Nat.{xor_lt}
use Rattle.std.proofs.lemmas.Nat.Bits.{bit_at-lt, bit_at-trailing_zeros, bit_at-zero, bit_at_xor, same_from_bits}
use Rattle.qx_blockset.specs.Members.{Members, has}
use Rattle.qx_geom.specs.declared.geometry.Geometry.{Geometry}
use Rattle.qx_system.specs.SystemBytes.{HasBits}
use Rattle.qx_walk.specs.Bitmaps.{IsFirst, is_wrong, is_wrong_in}

-- a bit is wrong where it isn't that of the byte that must be there
wrong_by : (g : Geometry) (met : Members) (place wanted k bit : ℕ) → HasBits g (has met) place wanted → k < 8 → is_wrong g met (place * 8 + k) bit ≡ not (bit == bit_at wanted k)
wrong_by g met place wanted k bit w low = ap (λ n. not (bit == n)) (ap (λ t. if t then 1 else 0) (sym (w k low)) ∙ bit_value (bit_at wanted k) (bit_at-lt wanted k))
  where
    bit_value : (x : ℕ) → x < 2 → (if x == 1 then 1 else 0) ≡ x
    bit_value zero h = refl
    bit_value (suc zero) h = refl
    bit_value (suc (suc x)) h = absurd (omega (arith, h))

-- a bit of the byte that stands at a place
wrong_at : (g : Geometry) (met : Members) (begin : ℕ) (bytes : List ℕ) (i wanted b : ℕ) → HasBits g (has met) (begin + i) wanted → (begin + i) * 8 ≤ b → b < (begin + i) * 8 + 8
    → is_wrong_in g met begin bytes b ≡ not (bit_at (get_or bytes i 0) (b % 8) == bit_at wanted (b % 8))
wrong_at g met begin bytes i wanted b w low high =
    let place : b / 8 - begin ≡ i = omega (arith, low, high) in
    let whole : (begin + i) * 8 + b % 8 ≡ b = omega (arith, low, high) in
    let small : b % 8 < 8 = omega arith in
    ap (λ j. is_wrong g met b (bit_at (get_or bytes j 0) (b % 8))) place
    ∙ ap (λ n. is_wrong g met n (bit_at (get_or bytes i 0) (b % 8))) (sym whole)
    ∙ wrong_by g met (begin + i) wanted (b % 8) (bit_at (get_or bytes i 0) (b % 8)) w small

-- bytes that differ have a least bit that does
differing : (a b : ℕ) → a < 2 ^ 8 → b < 2 ^ 8 → a ≢ b
    → (trailing_zeros w8 (bit_xor a b) < 8) × (bit_at a (trailing_zeros w8 (bit_xor a b)) ≢ bit_at b (trailing_zeros w8 (bit_xor a b))) × ((k : ℕ) → k < trailing_zeros w8 (bit_xor a b) → bit_at a k ≡ bit_at b k)
differing a b low also apart = elim (cases_lt 0 (bit_xor a b)) [
  | inl some ↦ let t = bit_at-trailing_zeros w8 (bit_xor a b) some (xor_lt 8 a b low also) in (t.0, (λ e. omega (arith, t.1, bit_at_xor a b (trailing_zeros w8 (bit_xor a b)), e)), λ k under. even k (t.2 k under))
  | inr none ↦ absurd (apart (same_from_bits a b (λ k. let z : bit_xor a b ≡ 0 = omega (arith, none) in even k (ap (λ x. bit_at x k) z ∙ bit_at-zero k))))
]
  where
    even : (k : ℕ) → bit_at (bit_xor a b) k ≡ 0 → bit_at a k ≡ bit_at b k
    even k e = omega (arith, bit_at_xor a b k, e, bit_at-lt a k, bit_at-lt b k)

-- the first byte that differs has the first wrong bit
pub wrong_byte : (g : Geometry) (met : Members) (begin : ℕ) (bytes : List ℕ) (i wanted : ℕ) → HasBits g (has met) (begin + i) wanted → i < length bytes → get_or bytes i 0 < 2 ^ 8 → wanted < 2 ^ 8 → get_or bytes i 0 ≢ wanted
    → ((b : ℕ) → begin * 8 ≤ b → b < (begin + i) * 8 → is_wrong_in g met begin bytes b ≡ false)
    → IsFirst (is_wrong_in g met begin bytes) (begin * 8) ((begin + length bytes) * 8) (Some ((begin + i) * 8 + trailing_zeros w8 (bit_xor (get_or bytes i 0) wanted)))
wrong_byte g met begin bytes i wanted w there fits also apart so_far =
    let a : ℕ = get_or bytes i 0 in
    let t : ℕ = trailing_zeros w8 (bit_xor a wanted) in
    let d = differing a wanted fits also apart in
    let place : ((begin + i) * 8 + t) % 8 ≡ t = omega (arith, d.0) in (
      omega arith,
      omega (arith, d.0, there),
      wrong_at g met begin bytes i wanted ((begin + i) * 8 + t) w (omega arith) (omega (arith, d.0)) ∙ ap (λ k. not (bit_at a k == bit_at wanted k)) place ∙ ap (λ x. not x) (ne_eqb (bit_at a t) (bit_at wanted t) d.1),
      λ b low high. elim (cases_lt b ((begin + i) * 8)) [
        | inl before ↦ so_far b low before
        | inr here ↦
            let under : b % 8 < t = omega (arith, here, high, d.0) in
            wrong_at g met begin bytes i wanted b w here (omega (arith, high, d.0)) ∙ ap (λ x. not x) (eq-eqb (bit_at a (b % 8)) (bit_at wanted (b % 8)) (d.2 (b % 8) under))
      ],
    )
