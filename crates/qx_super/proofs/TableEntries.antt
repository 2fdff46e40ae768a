-- The table has the remainder of each byte, and so gives the checksum with one more byte.
use Rattle.std.proofs.Common.{◌≡◌, ℕ, zero, suc, ◌+◌, ◌-◌, ◌*◌, ◌/◌, ◌%◌, ◌≤◌, ◌<◌, ◌^◌, Bool, true, inl, inr, List, [], ◌∷◌, ◌++◌, length, get_or, refl, ap, sym, ◌∙◌, arith}
use Rattle.std.specs.Prelude.{bit_xor, ◌==◌, ◌&&◌}
use Rattle.std.specs.Int.{bit_at}
use Rattle.std.proofs.lemmas.Bool.Decides.{nat_tests}
use Rattle.std.proofs.lemmas.Nat.{xor_lt}
use Rattle.std.proofs.lemmas.Nat.Bits.{bit_at_xor, bit_at_cat_low, bit_at_cat_high, bit_at_above, bit_at-zero, same_from_bits}
use Rattle.std.proofs.lemmas.Bool.{cases_lt}
use Rattle.qx_super.specs.declared.division.TheConstants.{TABLE}
use Rattle.qx_super.specs.Checksum.{shift, checksum_of}
use Rattle.qx_super.proofs.Bytewise.{shifts, with_byte}
use Rattle.qx_super.proofs.LinearShifts.{shift_low, shifts_xor}
use Rattle.qx_super.proofs.LongDivision.{checksum_more}

-- the entries from place k on are right
abbrev fits_from : ℕ → List ℕ → Bool
fits_from k [] = true
fits_from k (x ∷ xs) = (x == shifts 8 (k * 2 ^ 24)) && fits_from (k + 1) xs

-- all are, as the check computes
table_fits : fits_from 0 TABLE ≡ true
unfolding shift shifts
table_fits = refl

-- an entry of a list that is right from place k on
fits_at : (k : ℕ) (xs : List ℕ) (i : ℕ) → fits_from k xs ≡ true → i < length xs → get_or xs i 0 ≡ shifts 8 ((k + i) * 2 ^ 24)
fits_at k [] i fits short = absurd (omega arith)
fits_at k (x ∷ xs) zero fits short =
    let here : x ≡ shifts 8 (k * 2 ^ 24) = grind (arith, nat_tests) in
    here ∙ ap (λ (m : ℕ). shifts 8 (m * 2 ^ 24)) (let e : k ≡ k + 0 = omega arith in e)
fits_at k (x ∷ xs) (suc i) fits short =
    let rest : fits_from (k + 1) xs ≡ true = grind (arith, nat_tests) in
    fits_at (k + 1) xs i rest (omega arith) ∙ ap (λ (m : ℕ). shifts 8 (m * 2 ^ 24)) (let e : k + 1 + i ≡ k + suc i = omega arith in e)

-- an entry is the remainder of its byte in the highest place
entry_at : (i : ℕ) → i < 256 → get_or TABLE i 0 ≡ shifts 8 (i * 2 ^ 24)
entry_at i h = fits_at 0 TABLE i table_fits h ∙ ap (λ (m : ℕ). shifts 8 (m * 2 ^ 24)) (let e : 0 + i ≡ i = omega arith in e)

-- below the highest byte stand bits 0
high_low : (x i : ℕ) → i < 24 → bit_at (x * 2 ^ 24) i ≡ 0
high_low x i h = ap (λ (m : ℕ). bit_at m i) (let e : x * 2 ^ 24 ≡ x * 2 ^ 24 + 0 = omega arith in e) ∙ bit_at_cat_low x 24 0 i h ∙ bit_at-zero i

-- and in it those of the byte
high_high : (x i : ℕ) → 24 ≤ i → bit_at (x * 2 ^ 24) i ≡ bit_at x (i - 24)
high_high x i h = ap (λ (m : ℕ). bit_at m i) (let e : x * 2 ^ 24 ≡ x * 2 ^ 24 + 0 = omega arith in e) ∙ bit_at_cat_high x 24 0 i (omega arith) h

module _ (r byte : ℕ) where
  -- the highest byte of a remainder
  abbrev hi : ℕ
  hi = r / 2 ^ 24

  -- and the rest
  abbrev lo : ℕ
  lo = r % 2 ^ 24

  -- the two are the whole
  whole : r ≡ hi * 2 ^ 24 + lo
  whole = omega arith

  -- the rest has 24 bits
  lo_small : lo < 2 ^ 24
  lo_small = omega arith

  -- a byte that is added in the highest place changes the highest byte alone, bit by bit
  split_bits : (i : ℕ) → bit_at (bit_xor r (byte * 2 ^ 24)) i ≡ bit_at (bit_xor (bit_xor hi byte * 2 ^ 24) lo) i
  split_bits i =
      bit_at_xor r (byte * 2 ^ 24) i
      ∙ elim (cases_lt i 24) [
        | inl low ↦
            let a : bit_at r i ≡ bit_at lo i = ap (λ (m : ℕ). bit_at m i) whole ∙ bit_at_cat_low hi 24 lo i low in
            let b : bit_at (byte * 2 ^ 24) i ≡ 0 = high_low byte i low in
            let c : bit_at (bit_xor hi byte * 2 ^ 24) i ≡ 0 = high_low (bit_xor hi byte) i low in
            rw (a, b) (let e : (bit_at lo i + 0) % 2 ≡ (0 + bit_at lo i) % 2 = omega arith in e ∙ ap (λ (m : ℕ). (m + bit_at lo i) % 2) (sym c) ∙ sym (bit_at_xor (bit_xor hi byte * 2 ^ 24) lo i))
        | inr high ↦
            let a : bit_at r i ≡ bit_at hi (i - 24) = ap (λ (m : ℕ). bit_at m i) whole ∙ bit_at_cat_high hi 24 lo i lo_small high in
            let b : bit_at (byte * 2 ^ 24) i ≡ bit_at byte (i - 24) = high_high byte i high in
            let c : bit_at (bit_xor hi byte * 2 ^ 24) i ≡ (bit_at hi (i - 24) + bit_at byte (i - 24)) % 2 = high_high (bit_xor hi byte) i high ∙ bit_at_xor hi byte (i - 24) in
            let d : bit_at lo i ≡ 0 = bit_at_above lo 24 i lo_small high in
            let e : (bit_at hi (i - 24) + bit_at byte (i - 24)) % 2 ≡ ((bit_at hi (i - 24) + bit_at byte (i - 24)) % 2 + 0) % 2 = omega arith in
            rw (a, b) (e ∙ ap (λ (m : ℕ). (m + 0) % 2) (sym c) ∙ ap (λ (m : ℕ). (bit_at (bit_xor hi byte * 2 ^ 24) i + m) % 2) (sym d) ∙ sym (bit_at_xor (bit_xor hi byte * 2 ^ 24) lo i))
      ]

  -- and as a number
  split : bit_xor r (byte * 2 ^ 24) ≡ bit_xor (bit_xor hi byte * 2 ^ 24) lo
  split = same_from_bits (bit_xor r (byte * 2 ^ 24)) (bit_xor (bit_xor hi byte * 2 ^ 24) lo) split_bits

-- eight shifts of 24 bits divide nothing off
eight : (x : ℕ) → x < 2 ^ 24 → shifts 8 x ≡ x * 256
unfolding shifts
eight x h =
    let s1 : shift x ≡ 2 * x = shift_low x (omega arith) in
    let s2 : shift (2 * x) ≡ 4 * x = shift_low (2 * x) (omega arith) ∙ omega arith in
    let s3 : shift (4 * x) ≡ 8 * x = shift_low (4 * x) (omega arith) ∙ omega arith in
    let s4 : shift (8 * x) ≡ 16 * x = shift_low (8 * x) (omega arith) ∙ omega arith in
    let s5 : shift (16 * x) ≡ 32 * x = shift_low (16 * x) (omega arith) ∙ omega arith in
    let s6 : shift (32 * x) ≡ 64 * x = shift_low (32 * x) (omega arith) ∙ omega arith in
    let s7 : shift (64 * x) ≡ 128 * x = shift_low (64 * x) (omega arith) ∙ omega arith in
    let s8 : shift (128 * x) ≡ x * 256 = shift_low (128 * x) (omega arith) ∙ omega arith in
    rw (s1, s2, s3, s4, s5, s6, s7, s8) refl

-- a byte by the table's entry is a byte by eight shifts
by_table : (r byte : ℕ) → r < 2 ^ 32 → byte < 2 ^ 8 → bit_xor (shifts 8 (bit_xor (r / 2 ^ 24) byte * 2 ^ 24)) (r * 256 % 2 ^ 32) ≡ with_byte r byte
unfolding with_byte
by_table r byte hr hb =
    let small : bit_xor (r / 2 ^ 24) byte < 2 ^ 8 = xor_lt 8 (r / 2 ^ 24) byte (omega arith) hb in
    let lowest : r * 256 % 2 ^ 32 ≡ r % 2 ^ 24 * 256 = omega arith in
    ap (λ (m : ℕ). bit_xor (shifts 8 (bit_xor (r / 2 ^ 24) byte * 2 ^ 24)) m) (lowest ∙ sym (eight (r % 2 ^ 24) (omega arith)))
    ∙ sym (shifts_xor 8 (bit_xor (r / 2 ^ 24) byte * 2 ^ 24) (r % 2 ^ 24) (omega arith) (omega arith))
    ∙ ap (λ (m : ℕ). shifts 8 m) (sym (split r byte))

-- the checksum with one more byte, by the table
pub checksum_by_table : (bytes : List ℕ) (sum byte place : ℕ) → sum ≡ checksum_of bytes → sum < 2 ^ 32 → byte < 2 ^ 8 → place ≡ bit_xor (sum / 2 ^ 24) byte
    → bit_xor (get_or TABLE place 0) (sum * 256 % 2 ^ 32) ≡ checksum_of (bytes ++ byte ∷ [])
checksum_by_table bytes sum byte place e hs hb at =
    let within : bit_xor (sum / 2 ^ 24) byte < 2 ^ 8 = xor_lt 8 (sum / 2 ^ 24) byte (omega arith) hb in
    ap (λ (i : ℕ). bit_xor (get_or TABLE i 0) (sum * 256 % 2 ^ 32)) at
    ∙ ap (λ (x : ℕ). bit_xor x (sum * 256 % 2 ^ 32)) (entry_at (bit_xor (sum / 2 ^ 24) byte) (omega arith))
    ∙ by_table sum byte hs hb
    ∙ ap (λ (r : ℕ). with_byte r byte) e
    ∙ checksum_more bytes byte (omega arith)
