-- The bytes of a range that lie in one leaf.
use Rattle.std.proofs.Common.{◌≡◌, ℕ, ◌+◌, ◌-◌, ◌*◌, ◌/◌, ◌<◌, ◌≤◌, min, List, ◌++◌, length, take, drop, replicate, refl, sym, ◌∙◌, ap, subst, arith, length-drop}
use Rattle.std.specs.Prelude.{slice_range}
use Rattle.std.proofs.lemmas.List.{length-take-le, take_min, take-replicate, drop-replicate}
use Rattle.std.proofs.Math.Nat.{le-div_iff_mul-le}
use Rattle.qx_bytes.specs.Ranges.{put_at}
use Rattle.qx_bytes.proofs.Puts.{length_put, part_put}
use Rattle.qx_file.specs.Puts.{HasByte, with_part}

-- how far a leaf's bytes of a range reach in the range
reach_of : (size at i : ℕ) → at < (i + 1) * size → (i + 1) * size - at - (i * size - at) ≡ size - (at - i * size)
reach_of size at i begins = grind arith

-- a leaf that has one of the bytes ends behind the first of them
pub ends_past : (size at count i : ℕ) → 0 < size → HasByte size at count i → at < (i + 1) * size
ends_past size at count i some has = grind (arith, has.first)

-- the bytes that the code takes for a leaf are those that lie in it
pub part_is : (size at i place from count : ℕ) (bytes : List ℕ) → 0 < size → HasByte size at (length bytes) i → place ≡ at - i * size → from ≡ i * size - at → count ≡ min (size - place) (length bytes - from)
    → slice_range bytes from (from + count) ≡ slice_range bytes (i * size - at) ((i + 1) * size - at)
part_is size at i place from count bytes some has place_is from_is count_is =
    let w : ℕ = size - place in
    let only : from + count - from ≡ min w (length (drop from bytes)) = omega (arith, count_is, length-drop from bytes) in
    let whole : w ≡ (i + 1) * size - at - (i * size - at) = ap (λ n. size - n) place_is ∙ sym (reach_of size at i (ends_past size at (length bytes) i some has)) in
    ap (λ n. take n (drop from bytes)) only ∙ take_min w (drop from bytes) ∙ (λ k. take (whole k) (drop (from_is k) bytes))

-- and so they are put where they belong
pub part_puts : (size at i place from count : ℕ) (bytes old part : List ℕ) → 0 < size → HasByte size at (length bytes) i → place ≡ at - i * size → from ≡ i * size - at → count ≡ min (size - place) (length bytes - from)
    → part ≡ slice_range bytes from (from + count) → length part ≡ count
    → take place old ++ (part ++ drop (place + count - place) (drop place old)) ≡ with_part size i at bytes old
part_puts size at i place from count bytes old part some has place_is from_is count_is is long =
    part_put old part place count long
    ∙ (λ k. put_at old (place_is k) ((is ∙ part_is size at i place from count bytes some has place_is from_is count_is) k))

-- one byte many times is a part of itself
pub part_of_fill : (total from count byte : ℕ) → from + count ≤ total → replicate count byte ≡ slice_range (replicate total byte) from (from + count)
part_of_fill total from count byte within =
    let rest : from + count - from ≡ count = omega arith in
    sym (ap (λ n. take n (drop from (replicate total byte))) rest ∙ ap (λ (l : List ℕ). take count l) (drop-replicate from total byte) ∙ take-replicate count (total - from) byte (omega arith))

-- how many bytes a lent part has
pub taken_length : (xs : List ℕ) (place count : ℕ) → place + count ≤ length xs → length (take (place + count - place) (drop place xs)) ≡ count
taken_length xs place count within = omega (arith, length-take-le (place + count - place) (drop place xs) (omega (arith, length-drop place xs)))

-- a put within the bytes leaves how many they are
pub put_length : (old part : List ℕ) (place count : ℕ) → length part ≡ count → place + count ≤ length old → length (take place old ++ (part ++ drop (place + count - place) (drop place old))) ≡ length old
put_length old part place count long within = ap length (part_put old part place count long) ∙ length_put old part place (length part) refl (omega (arith, long))

-- a leaf between those with the first and the last of some bytes has one of them
pub has_between : (size n at count i last : ℕ) → 0 < n → 0 < count → size ≡ n → at / size ≤ i → i < last + 1 → last ≡ (at + count - 1) / size → HasByte n at count i
has_between size n at count i last some more is from to last_is =
    let low : i ≤ (at + count - 1) / n = subst (λ k. i ≤ (at + count - 1) / k) is (omega (arith, to, last_is)) in
    let ends : i * n ≤ at + count - 1 = (le-div_iff_mul-le some).0 low in
    record { first = subst (λ k. at / k ≤ i) is from; last = omega arith; some = more }

-- and no leaf behind them
pub has_last : (size n at count i last : ℕ) → 0 < n → size ≡ n → last ≡ (at + count - 1) / size → HasByte n at count i → i ≤ last
has_last size n at count i last some is last_is has =
    let low : i ≤ (at + count - 1) / n = (le-div_iff_mul-le some).1 (omega (arith, has.last, has.some)) in
    let same : last ≡ (at + count - 1) / n = last_is ∙ ap (λ k. (at + count - 1) / k) is in
    omega arith
