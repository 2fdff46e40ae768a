-- A byte by eight shifts does what the long division does with the byte's eight bits.
-- The division has 32 more bits 0 to bring down, so the bytewise form is 32 shifts ahead of it.
use Rattle.std.proofs.Common.{◌≡◌, ℕ, zero, suc, ◌+◌, ◌*◌, ◌<◌, ◌^◌, Bool, true, List, [], ◌∷◌, ◌++◌, length, refl, ap, sym, ◌∙◌, subst, arith, append_assoc}
use Rattle.std.specs.Prelude.{bit_xor, fold, replicate, ◌==◌, ◌&&◌}
use Rattle.std.specs.List.{flat_map}
use Rattle.std.proofs.lemmas.Bool.Decides.{nat_tests}
use Rattle.std.proofs.lemmas.Nat.{xor_lt}
use Rattle.std.proofs.lemmas.Nat.Bits.{bit_at-lt}
use Rattle.std.specs.Int.Bits.{xor_zero_r, xor_assoc}
use Rattle.std.proofs.lemmas.List.Sums.{fold-append}
use Rattle.qx_super.specs.Checksum.{shift, bits_of, divided, checksum_of}
use Rattle.qx_super.proofs.Bytewise.{shifts, with_byte}
use Rattle.qx_super.proofs.LinearShifts.{shift_lt, shift_xor, shifts_lt, shifts_xor}

-- one more bit in the form that is ahead: it is added in the highest place
direct : ℕ → ℕ → ℕ
direct d bit = shift (bit_xor d (bit * 2 ^ 31))

-- a shift before the others or behind them
shifts_more : (n r : ℕ) → shifts n (shift r) ≡ shift (shifts n r)
unfolding shifts
shifts_more zero r = refl
shifts_more (suc n) r = ap shift (shifts_more n r)

-- a bit of the dividend, 32 places on
bit_on : (bit : ℕ) → bit < 2 → shifts 32 bit ≡ shift (bit * 2 ^ 31)
unfolding shift shifts
bit_on zero h = refl
bit_on (suc zero) h = refl
bit_on (suc (suc n)) h = absurd (omega arith)

-- after a bit the direct form is still 32 shifts ahead
ahead : (t bit : ℕ) → t < 2 ^ 32 → bit < 2 → shifts 32 (divided t bit) ≡ direct (shifts 32 t) bit
unfolding divided direct
ahead t bit ht hb =
    shifts_xor 32 (shift t) bit (shift_lt t ht) (omega arith)
    ∙ ap (λ (m : ℕ). bit_xor m (shifts 32 bit)) (shifts_more 32 t)
    ∙ ap (λ (m : ℕ). bit_xor (shift (shifts 32 t)) m) (bit_on bit hb)
    ∙ sym (shift_xor (shifts 32 t) (bit * 2 ^ 31) (shifts_lt 32 t ht) (omega arith))

-- bits 0 are shifts
zeros : (n r : ℕ) → fold divided r (replicate n 0) ≡ shifts n r
unfolding divided shifts
zeros zero r = refl
zeros (suc n) r = zeros n (divided r 0) ∙ ap (λ (m : ℕ). shifts n m) (xor_zero_r (shift r)) ∙ shifts_more n r

-- the direct form stays below 2^32
direct_lt : (d bit : ℕ) → d < 2 ^ 32 → bit < 2 → direct d bit < 2 ^ 32
unfolding direct
direct_lt d bit hd hb = shift_lt (bit_xor d (bit * 2 ^ 31)) (xor_lt 32 d (bit * 2 ^ 31) hd (omega arith))

-- so does the division
divided_lt : (t bit : ℕ) → t < 2 ^ 32 → bit < 2 → divided t bit < 2 ^ 32
unfolding divided
divided_lt t bit ht hb = xor_lt 32 (shift t) bit (shift_lt t ht) (omega arith)

-- each is 0 or 1
abbrev Bits : List ℕ → Type 0
Bits [] = Unit {0}
Bits (b ∷ bs) = (b < 2) × Bits bs

-- after any bits the direct form is 32 shifts ahead
ahead_all : (bits : List ℕ) (t : ℕ) → Bits bits → t < 2 ^ 32 → fold direct (shifts 32 t) bits ≡ shifts 32 (fold divided t bits)
ahead_all [] t h ht = refl
ahead_all (b ∷ bits) t h ht =
    ap (λ (d : ℕ). fold direct d bits) (sym (ahead t b ht h.0)) ∙ ahead_all bits (divided t b) h.1 (divided_lt t b ht h.0)

-- the division stays below 2^32
fold_lt : (bits : List ℕ) (t : ℕ) → Bits bits → t < 2 ^ 32 → fold divided t bits < 2 ^ 32
fold_lt [] t h ht = ht
fold_lt (b ∷ bits) t h ht = fold_lt bits (divided t b) h.1 (divided_lt t b ht h.0)

-- one more bit on a sum
direct_xor : (d e bit : ℕ) → d < 2 ^ 32 → e < 2 ^ 32 → bit < 2 → direct (bit_xor d e) bit ≡ bit_xor (shift d) (direct e bit)
unfolding direct
direct_xor d e bit hd he hb =
    ap shift (xor_assoc d e (bit * 2 ^ 31)) ∙ shift_xor d (bit_xor e (bit * 2 ^ 31)) hd (xor_lt 32 e (bit * 2 ^ 31) he (omega arith))

-- bits on a sum: one part is shifted, the other takes the bits
fold_xor : (bits : List ℕ) (d e : ℕ) → Bits bits → d < 2 ^ 32 → e < 2 ^ 32 → fold direct (bit_xor d e) bits ≡ bit_xor (shifts (length bits) d) (fold direct e bits)
unfolding shifts
fold_xor [] d e h hd he = refl
fold_xor (b ∷ bits) d e h hd he =
    ap (λ (x : ℕ). fold direct x bits) (direct_xor d e b hd he h.0)
    ∙ fold_xor bits (shift d) (direct e b) h.1 (shift_lt d hd) (direct_lt e b he h.0)
    ∙ ap (λ (x : ℕ). bit_xor x (fold direct (direct e b) bits)) (shifts_more (length bits) d)

-- each byte from k on, tried: its bits from 0 give its eight shifts
abbrev bytes_fit : ℕ → ℕ → Bool
bytes_fit zero k = true
bytes_fit (suc n) k = (fold direct 0 (bits_of k) == shifts 8 (k * 2 ^ 24)) && bytes_fit n (k + 1)

-- all pass, as the check computes
all_fit : bytes_fit 256 0 ≡ true
unfolding direct shift shifts
all_fit = refl

-- one of the bytes that pass
fit_at : (n k i : ℕ) → bytes_fit n k ≡ true → i < n → fold direct 0 (bits_of (k + i)) ≡ shifts 8 ((k + i) * 2 ^ 24)
fit_at zero k i fits short = absurd (omega arith)
fit_at (suc n) k zero fits short =
    let here : fold direct 0 (bits_of k) ≡ shifts 8 (k * 2 ^ 24) = grind (arith, nat_tests) in
    let e : k ≡ k + 0 = omega arith in
    let P : ℕ → Type 0 = λ m. fold direct 0 (bits_of m) ≡ shifts 8 (m * 2 ^ 24) in subst P e here
fit_at (suc n) k (suc i) fits short =
    let rest : bytes_fit n (k + 1) ≡ true = grind (arith, nat_tests) in
    let e : k + 1 + i ≡ k + suc i = omega arith in
    let P : ℕ → Type 0 = λ m. fold direct 0 (bits_of m) ≡ shifts 8 (m * 2 ^ 24) in subst P e (fit_at n (k + 1) i rest (omega arith))

-- the bits of a byte are 0 or 1
are_bits : (byte : ℕ) → Bits (bits_of byte)
are_bits byte = (bit_at-lt byte 7, (bit_at-lt byte 6, (bit_at-lt byte 5, (bit_at-lt byte 4, (bit_at-lt byte 3, (bit_at-lt byte 2, (bit_at-lt byte 1, (bit_at-lt byte 0, tt))))))))

-- a byte by eight shifts is its bits in the direct form
by_bits : (d byte : ℕ) → d < 2 ^ 32 → byte < 256 → with_byte d byte ≡ fold direct d (bits_of byte)
unfolding with_byte
by_bits d byte hd hb =
    let one : fold direct 0 (bits_of byte) ≡ shifts 8 (byte * 2 ^ 24) = let P : ℕ → Type 0 = λ m. fold direct 0 (bits_of m) ≡ shifts 8 (m * 2 ^ 24) in subst P (let e : 0 + byte ≡ byte = omega arith in e) (fit_at 256 0 byte all_fit hb) in
    shifts_xor 8 d (byte * 2 ^ 24) hd (omega arith)
    ∙ ap (λ (m : ℕ). bit_xor (shifts 8 d) m) (sym one)
    ∙ sym (fold_xor (bits_of byte) d 0 (are_bits byte) hd (omega arith))
    ∙ ap (λ (m : ℕ). fold direct m (bits_of byte)) (xor_zero_r d)

-- the remainder of the bytes' bits alone, without the 32 bits 0 behind them, is below 2^32
remainder_lt : (bytes : List ℕ) (t : ℕ) → t < 2 ^ 32 → fold divided t (flat_map bits_of bytes) < 2 ^ 32
remainder_lt [] t ht = ht
remainder_lt (b ∷ bytes) t ht =
    let P : ℕ → Type 0 = λ m. m < 2 ^ 32 in
    subst P (sym (fold-append divided t (bits_of b) (flat_map bits_of bytes))) (remainder_lt bytes (fold divided t (bits_of b)) (fold_lt (bits_of b) t (are_bits b) ht))

-- the 32 bits 0 at the dividend's end are 32 shifts
checksum_shifts : (bytes : List ℕ) → checksum_of bytes ≡ shifts 32 (fold divided 0 (flat_map bits_of bytes))
unfolding checksum_of
checksum_shifts bytes =
    fold-append divided 0 (flat_map bits_of bytes) (replicate 32 0) ∙ zeros 32 (fold divided 0 (flat_map bits_of bytes))

-- so a checksum has 32 bits
pub checksum_of-lt : (bytes : List ℕ) → checksum_of bytes < 2 ^ 32
checksum_of-lt bytes =
    let P : ℕ → Type 0 = λ m. m < 2 ^ 32 in
    subst P (sym (checksum_shifts bytes)) (shifts_lt 32 (fold divided 0 (flat_map bits_of bytes)) (remainder_lt bytes 0 (omega arith)))

-- the bits of bytes with one more
bits_more : (bytes : List ℕ) (byte : ℕ) → flat_map bits_of (bytes ++ byte ∷ []) ≡ flat_map bits_of bytes ++ bits_of byte
bits_more [] byte = refl
bits_more (b ∷ bytes) byte = ap (λ (bits : List ℕ). bits_of b ++ bits) (bits_more bytes byte) ∙ sym (append_assoc (bits_of b) (flat_map bits_of bytes) (bits_of byte))

-- the checksum with one more byte
pub checksum_more : (bytes : List ℕ) (byte : ℕ) → byte < 256 → with_byte (checksum_of bytes) byte ≡ checksum_of (bytes ++ byte ∷ [])
checksum_more bytes byte hb =
    let t = fold divided 0 (flat_map bits_of bytes) in
    let ht : t < 2 ^ 32 = remainder_lt bytes 0 (omega arith) in
    ap (λ (d : ℕ). with_byte d byte) (checksum_shifts bytes)
    ∙ by_bits (shifts 32 t) byte (shifts_lt 32 t ht) hb
    ∙ ahead_all (bits_of byte) t (are_bits byte) ht
    ∙ ap (λ (m : ℕ). shifts 32 m) (sym (fold-append divided 0 (flat_map bits_of bytes) (bits_of byte)) ∙ ap (λ (bits : List ℕ). fold divided 0 bits) (sym (bits_more bytes byte)))
    ∙ sym (checksum_shifts (bytes ++ byte ∷ []))

-- the checksum of no bytes
pub checksum_none : checksum_of [] ≡ 0
unfolding shifts shift
checksum_none = checksum_shifts []

-- bytes 0 in front leave the remainder 0
zeros_in_front : (n : ℕ) (bytes : List ℕ) → fold divided 0 (flat_map bits_of (replicate n 0 ++ bytes)) ≡ fold divided 0 (flat_map bits_of bytes)
unfolding divided shift
zeros_in_front zero bytes = refl
zeros_in_front (suc n) bytes = zeros_in_front n bytes

-- bytes 0 in front leave the checksum
pub checksum_of-zeros : (n : ℕ) (bytes : List ℕ) → checksum_of (replicate n 0 ++ bytes) ≡ checksum_of bytes
checksum_of-zeros n bytes =
    checksum_shifts (replicate n 0 ++ bytes) ∙ ap (λ (r : ℕ). shifts 32 r) (zeros_in_front n bytes) ∙ sym (checksum_shifts bytes)
