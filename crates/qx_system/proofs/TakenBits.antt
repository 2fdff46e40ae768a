-- The bits of a byte of a bitmap.
use Rattle.std.proofs.Common.{◌≡◌, inl, inr, ℕ, zero, suc, ◌+◌, ◌*◌, ◌/◌, ◌%◌, ◌^◌, ◌≤◌, ◌<◌, Bool, true, false, refl, ap, sym, ◌∙◌, arith, w8}
use Rattle.std.specs.Prelude.{◌==◌, ◌||◌, if◌then◌else◌, bit_or, nat_le, nat_lt}
use Rattle.std.specs.Int.{bit_at}
use Rattle.std.proofs.lemmas.Bool.{cases_eq, cases_lt, le-leb, lt-ltb}
use Rattle.std.proofs.lemmas.Nat.Bits.{bit_at-lt, bit_at_above, bit_at_ones, bit_at_set_other, bit_at_set_same, same_from_bits}
use Rattle.qx_geom.specs.declared.geometry.Geometry.{Geometry}
use Rattle.qx_system.specs.SystemBytes.{HasBits, byte_of_bits, is_taken}

-- ---- a byte bit by bit

-- a byte of ones, where all its bits must be 1
all_taken : (g : Geometry) (held : ℕ → Bool) (place : ℕ) → ((k : ℕ) → k < 8 → is_taken g held (place * 8 + k) ≡ true) → HasBits g held place 255
all_taken g held place all = λ k low. ap (λ x. x == 1) (bit_at_ones 8 k low) ∙ sym (all k low)

-- the bits of both halves
pub halves_taken : (g : Geometry) (held : ℕ → Bool) (place : ℕ) → place * 8 + 8 ≤ 2 * g.half → HasBits g held place 255
halves_taken g held place h = all_taken g held place (λ k low.
    let e : nat_lt (place * 8 + k) (2 * g.half) ≡ true = lt-ltb (place * 8 + k) (2 * g.half) (omega (arith, low, h)) in
    ap (λ x. x || (held (place * 8 + k) || nat_le g.num_blocks (place * 8 + k))) e)

-- the bits past the last block
pub past_taken : (g : Geometry) (held : ℕ → Bool) (place : ℕ) → g.num_blocks ≤ place * 8 → HasBits g held place 255
past_taken g held place h = all_taken g held place (λ k low.
    let e : nat_le g.num_blocks (place * 8 + k) ≡ true = le-leb g.num_blocks (place * 8 + k) (omega (arith, h)) in
    ap (λ x. nat_lt (place * 8 + k) (2 * g.half) || (held (place * 8 + k) || x)) e ∙ or_true (nat_lt (place * 8 + k) (2 * g.half)) (held (place * 8 + k)))
  where
    or_true : (x y : Bool) → (x || (y || true)) ≡ true
    or_true true y = refl
    or_true false true = refl
    or_true false false = refl

-- the bits of a byte up to one are as they must be, and the others are 0
pub record IsFilledTo (g : Geometry) (held : ℕ → Bool) (place bit byte : ℕ) : Type 0 where
  pub done : (k : ℕ) → k < bit → (bit_at byte k == 1) ≡ is_taken g held (place * 8 + k)
  pub rest : (k : ℕ) → bit ≤ k → bit_at byte k ≡ 0

-- one more that must be 1
pub filled_one : (g : Geometry) (held : ℕ → Bool) (place bit byte : ℕ) → bit < 8 → is_taken g held (place * 8 + bit) ≡ true → IsFilledTo g held place bit byte → IsFilledTo g held place (bit + 1) (bit_or byte (1 * 2 ^ bit % 2 ^ 8))
filled_one g held place bit byte low taken f = record {
  done = λ k under. elim (cases_eq k bit) [
    | inl is ↦ ap (λ x. x == 1) (ap (λ j. bit_at (bit_or byte (1 * 2 ^ bit % 2 ^ 8)) j) is ∙ bit_at_set_same w8 byte bit low) ∙ sym (ap (λ j. is_taken g held (place * 8 + j)) is ∙ taken)
    | inr other ↦ ap (λ x. x == 1) (bit_at_set_other w8 byte bit low k other) ∙ f.done k (omega (arith, under, other))
  ];
  rest = λ k high. bit_at_set_other w8 byte bit low k (λ e. omega (arith, high, e)) ∙ f.rest k (omega (arith, high));
}

-- one more that must be 0
pub filled_zero : (g : Geometry) (held : ℕ → Bool) (place bit byte : ℕ) → is_taken g held (place * 8 + bit) ≡ false → IsFilledTo g held place bit byte → IsFilledTo g held place (bit + 1) byte
filled_zero g held place bit byte taken f = record {
  done = λ k under. elim (cases_eq k bit) [
    | inl is ↦ ap (λ x. x == 1) (f.rest k (omega (arith, is))) ∙ sym (ap (λ j. is_taken g held (place * 8 + j)) is ∙ taken)
    | inr other ↦ f.done k (omega (arith, under, other))
  ];
  rest = λ k high. f.rest k (omega (arith, high));
}

-- ---- a byte of eight tests

-- a bit by its test
abbrev pub bit_of : Bool → ℕ
bit_of b = if b then 1 else 0

-- is at most 1
bit_low : (b : Bool) → bit_of b ≤ 1
bit_low true = omega arith
bit_low false = omega arith

-- and weighs as much as its place
weight : (b : Bool) (n : ℕ) → (if b then n else 0) ≡ n * bit_of b
weight true n = omega arith
weight false n = omega arith

-- the value of 8 bits, the lowest first
abbrev octet : ℕ → ℕ → ℕ → ℕ → ℕ → ℕ → ℕ → ℕ → ℕ
octet a b c d e f g h = 0 + 1 * a + 2 * b + 4 * c + 8 * d + 16 * e + 32 * f + 64 * g + 128 * h

-- that of a byte
byte_is : (test : ℕ → Bool) → byte_of_bits test ≡ octet (bit_of (test 0)) (bit_of (test 1)) (bit_of (test 2)) (bit_of (test 3)) (bit_of (test 4)) (bit_of (test 5)) (bit_of (test 6)) (bit_of (test 7))
byte_is test = λ i. 0 + weight (test 0) 1 i + weight (test 1) 2 i + weight (test 2) 4 i + weight (test 3) 8 i + weight (test 4) 16 i + weight (test 5) 32 i + weight (test 6) 64 i + weight (test 7) 128 i

-- each bit of such a value
octet_bit : (a b c d e f g h : ℕ) → a ≤ 1 → b ≤ 1 → c ≤ 1 → d ≤ 1 → e ≤ 1 → f ≤ 1 → g ≤ 1 → h ≤ 1
    → (octet a b c d e f g h / 1 % 2 ≡ a) × (octet a b c d e f g h / 2 % 2 ≡ b) × (octet a b c d e f g h / 4 % 2 ≡ c) × (octet a b c d e f g h / 8 % 2 ≡ d)
    × (octet a b c d e f g h / 16 % 2 ≡ e) × (octet a b c d e f g h / 32 % 2 ≡ f) × (octet a b c d e f g h / 64 % 2 ≡ g) × (octet a b c d e f g h / 128 % 2 ≡ h)
octet_bit a b c d e f g h la lb lc ld le lf lg lh = (omega arith, omega arith, omega arith, omega arith, omega arith, omega arith, omega arith, omega arith)

-- so bit j of a byte is what its test says
pub bit_is : (test : ℕ → Bool) (j : ℕ) → j < 8 → bit_at (byte_of_bits test) j ≡ bit_of (test j)
bit_is test j low = ap (λ x. bit_at x j) (byte_is test) ∙ go j low
  where
    -- the bit that a test gives
    c : ℕ → ℕ
    c k = bit_of (test k)

    -- all eight bits
    all : (octet (c 0) (c 1) (c 2) (c 3) (c 4) (c 5) (c 6) (c 7) / 1 % 2 ≡ c 0) × (octet (c 0) (c 1) (c 2) (c 3) (c 4) (c 5) (c 6) (c 7) / 2 % 2 ≡ c 1)
        × (octet (c 0) (c 1) (c 2) (c 3) (c 4) (c 5) (c 6) (c 7) / 4 % 2 ≡ c 2) × (octet (c 0) (c 1) (c 2) (c 3) (c 4) (c 5) (c 6) (c 7) / 8 % 2 ≡ c 3)
        × (octet (c 0) (c 1) (c 2) (c 3) (c 4) (c 5) (c 6) (c 7) / 16 % 2 ≡ c 4) × (octet (c 0) (c 1) (c 2) (c 3) (c 4) (c 5) (c 6) (c 7) / 32 % 2 ≡ c 5)
        × (octet (c 0) (c 1) (c 2) (c 3) (c 4) (c 5) (c 6) (c 7) / 64 % 2 ≡ c 6) × (octet (c 0) (c 1) (c 2) (c 3) (c 4) (c 5) (c 6) (c 7) / 128 % 2 ≡ c 7)
    all = octet_bit (c 0) (c 1) (c 2) (c 3) (c 4) (c 5) (c 6) (c 7) (bit_low (test 0)) (bit_low (test 1)) (bit_low (test 2)) (bit_low (test 3)) (bit_low (test 4)) (bit_low (test 5)) (bit_low (test 6)) (bit_low (test 7))

    -- the one in question
    go : (j : ℕ) → j < 8 → bit_at (octet (c 0) (c 1) (c 2) (c 3) (c 4) (c 5) (c 6) (c 7)) j ≡ c j
    go zero low = all.0
    go (suc zero) low = all.1
    go (suc (suc zero)) low = all.2
    go (suc (suc (suc zero))) low = all.3
    go (suc (suc (suc (suc zero)))) low = all.4
    go (suc (suc (suc (suc (suc zero))))) low = all.5
    go (suc (suc (suc (suc (suc (suc zero)))))) low = all.6
    go (suc (suc (suc (suc (suc (suc (suc zero))))))) low = all.7
    go (suc (suc (suc (suc (suc (suc (suc (suc j)))))))) low = absurd (omega arith)

-- a bit that is 1 where its test says so is the bit of the test
bit_by_test : (x : ℕ) (t : Bool) → x < 2 → (x == 1) ≡ t → x ≡ bit_of t
bit_by_test zero t low e = ap bit_of e
bit_by_test (suc zero) t low e = ap bit_of e
bit_by_test (suc (suc x)) t low e = absurd (omega (arith, low))

-- a byte is below 256
octet_low : (a b c d e f g h : ℕ) → a ≤ 1 → b ≤ 1 → c ≤ 1 → d ≤ 1 → e ≤ 1 → f ≤ 1 → g ≤ 1 → h ≤ 1 → octet a b c d e f g h < 2 ^ 8
octet_low a b c d e f g h la lb lc ld le lf lg lh = omega arith

byte_low : (test : ℕ → Bool) → byte_of_bits test < 2 ^ 8
byte_low test = let is = byte_is test in let low = octet_low (bit_of (test 0)) (bit_of (test 1)) (bit_of (test 2)) (bit_of (test 3)) (bit_of (test 4)) (bit_of (test 5)) (bit_of (test 6)) (bit_of (test 7)) (bit_low (test 0)) (bit_low (test 1)) (bit_low (test 2)) (bit_low (test 3)) (bit_low (test 4)) (bit_low (test 5)) (bit_low (test 6)) (bit_low (test 7)) in omega (arith, is, low)

-- so the byte that has these bits is the one that the tests give
pub byte_from_bits : (test : ℕ → Bool) (byte : ℕ) → byte < 2 ^ 8 → ((j : ℕ) → j < 8 → (bit_at byte j == 1) ≡ test j) → byte ≡ byte_of_bits test
byte_from_bits test byte small bits = same_from_bits byte (byte_of_bits test) (λ j. elim (cases_lt j 8) [
  | inl low ↦ bit_by_test (bit_at byte j) (test j) (bit_at-lt byte j) (bits j low) ∙ sym (bit_is test j low)
  | inr high ↦ bit_at_above byte 8 j small high ∙ sym (bit_at_above (byte_of_bits test) 8 j (byte_low test) high)
])
