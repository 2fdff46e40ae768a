-- A shift of a sum is the sum of the shifts, where the sum is the exclusive or.
use Rattle.std.proofs.Common.{◌≡◌, ℕ, zero, suc, ◌+◌, ◌-◌, ◌*◌, ◌/◌, ◌%◌, ◌≤◌, ◌<◌, ◌^◌, inl, inr, refl, ap, sym, ◌∙◌, arith}
use Rattle.std.specs.Prelude.{bit_xor}
use Rattle.std.specs.Int.{bit_at}
use Rattle.std.proofs.lemmas.Nat.{xor_lt}
use Rattle.std.proofs.lemmas.Nat.Bits.{bit_at_xor, bit_at-lt, bit_at-suc, bit_at_above, bit_at_cat_low, same_from_bits_below, bit_at_lowest}
use Rattle.std.proofs.lemmas.Bool.Decides.{nat_tests}
use Rattle.std.proofs.lemmas.Bool.{cases_lt}
use Rattle.qx_super.specs.Checksum.{shift, divisor}
use Rattle.qx_super.proofs.Bytewise.{shifts}

-- below 2^31 nothing is divided off
pub shift_low : (r : ℕ) → r < 2 ^ 31 → shift r ≡ 2 * r
unfolding shift
shift_low r h = grind (arith, nat_tests)

-- from 2^31 on the divisor is taken off
shift_high : (r : ℕ) → 2 ^ 31 ≤ r → shift r ≡ bit_xor (2 * r - 2 ^ 32) divisor
unfolding shift
shift_high r h = grind (arith, nat_tests)

-- a remainder stays below 2^32
pub shift_lt : (r : ℕ) → r < 2 ^ 32 → shift r < 2 ^ 32
shift_lt r h = elim (cases_lt r (2 ^ 31)) [
  | inl low ↦ rw (shift_low r low) (omega arith)
  | inr high ↦ rw (shift_high r high) (xor_lt 32 (2 * r - 2 ^ 32) divisor (omega arith) (omega arith))
]

-- the lowest bit of a double is 0
double_zero : (n : ℕ) → bit_at (2 * n) 0 ≡ 0
double_zero n = bit_at_lowest (2 * n) ∙ omega arith

-- each other bit of a double is the one below it
double_suc : (n i : ℕ) → bit_at (2 * n) (suc i) ≡ bit_at n i
double_suc n i = bit_at-suc (2 * n) i ∙ ap (λ (m : ℕ). bit_at m i) (let e : 2 * n / 2 ≡ n = omega arith in e)

-- the highest bit of a small remainder is 0
top_low : (r : ℕ) → r < 2 ^ 31 → bit_at r 31 ≡ 0
top_low r h = bit_at_above r 31 31 h (omega arith)

-- the highest bit of a large one is 1
top_high : (r : ℕ) → 2 ^ 31 ≤ r → r < 2 ^ 32 → bit_at r 31 ≡ 1
top_high r h l = omega arith

-- the bit that falls out at the top leaves the others
same_low : (r i : ℕ) → 2 ^ 31 ≤ r → r < 2 ^ 32 → i < 32 → bit_at (2 * r - 2 ^ 32) i ≡ bit_at (2 * r) i
same_low r i h l within =
    let whole : 1 * 2 ^ 32 + (2 * r - 2 ^ 32) ≡ 2 * r = omega arith in
    sym (bit_at_cat_low 1 32 (2 * r - 2 ^ 32) i within) ∙ ap (λ (m : ℕ). bit_at m i) whole

-- a bit with nothing added
plain : (x d : ℕ) → x < 2 → x ≡ (x + 0 * d) % 2
plain x d h = omega arith

-- each bit of a shift: the one below it, and the divisor's where the highest bit was 1
shift_bits : (r i : ℕ) → r < 2 ^ 32 → i < 32 → bit_at (shift r) i ≡ (bit_at (2 * r) i + bit_at r 31 * bit_at divisor i) % 2
shift_bits r i h within = elim (cases_lt r (2 ^ 31)) [
  | inl low ↦
      ap (λ (m : ℕ). bit_at m i) (shift_low r low) ∙ plain (bit_at (2 * r) i) (bit_at divisor i) (bit_at-lt (2 * r) i)
      ∙ ap (λ (t : ℕ). (bit_at (2 * r) i + t * bit_at divisor i) % 2) (sym (top_low r low))
  | inr high ↦
      ap (λ (m : ℕ). bit_at m i) (shift_high r high) ∙ bit_at_xor (2 * r - 2 ^ 32) divisor i
      ∙ ap (λ (t : ℕ). (t + bit_at divisor i) % 2) (same_low r i high h within)
      ∙ (let e : (bit_at (2 * r) i + bit_at divisor i) % 2 ≡ (bit_at (2 * r) i + 1 * bit_at divisor i) % 2 = omega arith in e)
      ∙ ap (λ (t : ℕ). (bit_at (2 * r) i + t * bit_at divisor i) % 2) (sym (top_high r high h))
]

-- each bit of a sum's double
double_bits : (a b i : ℕ) → bit_at (2 * bit_xor a b) i ≡ (bit_at (2 * a) i + bit_at (2 * b) i) % 2
double_bits a b zero = rw (double_zero (bit_xor a b), double_zero a, double_zero b) refl
double_bits a b (suc i) = rw (double_suc (bit_xor a b) i, double_suc a i, double_suc b i) (bit_at_xor a b i)

-- the sum of two bits that each had a multiple of a third added
parity : (x y p q d : ℕ) → p < 2 → q < 2 → ((x + y) % 2 + (p + q) % 2 * d) % 2 ≡ ((x + p * d) % 2 + (y + q * d) % 2) % 2
parity x y zero zero d hp hq = omega arith
parity x y zero (suc zero) d hp hq = omega arith
parity x y (suc zero) zero d hp hq = omega arith
parity x y (suc zero) (suc zero) d hp hq = omega arith
parity x y (suc (suc p)) q d hp hq = absurd (omega arith)
parity x y zero (suc (suc q)) d hp hq = absurd (omega arith)
parity x y (suc zero) (suc (suc q)) d hp hq = absurd (omega arith)

-- a shift of a sum is the sum of the shifts
pub shift_xor : (a b : ℕ) → a < 2 ^ 32 → b < 2 ^ 32 → shift (bit_xor a b) ≡ bit_xor (shift a) (shift b)
shift_xor a b ha hb = same_from_bits_below 32 (shift (bit_xor a b)) (bit_xor (shift a) (shift b)) (shift_lt (bit_xor a b) (xor_lt 32 a b ha hb)) (xor_lt 32 (shift a) (shift b) (shift_lt a ha) (shift_lt b hb))
    (λ i within.
    shift_bits (bit_xor a b) i (xor_lt 32 a b ha hb) within
    ∙ ap (λ (m : ℕ). (m + bit_at (bit_xor a b) 31 * bit_at divisor i) % 2) (double_bits a b i)
    ∙ ap (λ (m : ℕ). ((bit_at (2 * a) i + bit_at (2 * b) i) % 2 + m * bit_at divisor i) % 2) (bit_at_xor a b 31)
    ∙ parity (bit_at (2 * a) i) (bit_at (2 * b) i) (bit_at a 31) (bit_at b 31) (bit_at divisor i) (bit_at-lt a 31) (bit_at-lt b 31)
    ∙ sym (ap (λ (m : ℕ). (m + (bit_at (2 * b) i + bit_at b 31 * bit_at divisor i) % 2) % 2) (shift_bits a i ha within))
    ∙ sym (ap (λ (m : ℕ). (bit_at (shift a) i + m) % 2) (shift_bits b i hb within))
    ∙ sym (bit_at_xor (shift a) (shift b) i))

-- after shifts a remainder is still below 2^32
pub shifts_lt : (n r : ℕ) → r < 2 ^ 32 → shifts n r < 2 ^ 32
unfolding shifts
shifts_lt zero r h = h
shifts_lt (suc n) r h = shift_lt (shifts n r) (shifts_lt n r h)

-- shifts of a sum are the sum of the shifts
pub shifts_xor : (n a b : ℕ) → a < 2 ^ 32 → b < 2 ^ 32 → shifts n (bit_xor a b) ≡ bit_xor (shifts n a) (shifts n b)
unfolding shifts
shifts_xor zero a b ha hb = refl
shifts_xor (suc n) a b ha hb = ap shift (shifts_xor n a b ha hb) ∙ shift_xor (shifts n a) (shifts n b) (shifts_lt n a ha) (shifts_lt n b hb)
