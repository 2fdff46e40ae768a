-- Bytes one by one: what two lists have alike, and what a put and a new length leave of each byte.
use Rattle.std.proofs.Common.{◌≡◌, ℕ, ◌+◌, ◌-◌, ◌≤◌, ◌<◌, ◌⊎◌, inl, inr, List, ◌++◌, length, take, drop, replicate, refl, sym, ◌∙◌, arith, length-append, length-drop, length-take}
use Rattle.std.specs.Prelude.{slice_range, slice_index}
use Rattle.std.proofs.lemmas.Bool.{cases_lt}
use Rattle.std.proofs.lemmas.List.{ext_get_or, get_or-append_right, get_or-drop, get_or-replicate, get_or-take, get_or_append_left, get_or_past, length-replicate}
use Rattle.qx_bytes.specs.Ranges.{put_at}
use Rattle.qx_bytes.proofs.Puts.{byte_put_apart, byte_put_within, length_put}
use Rattle.qx_outside.specs.Trail.{resized}

-- two lists have the same bytes from a place up to another; past its end a list has 0
pub record HasSame (xs ys : List ℕ) (from to : ℕ) : Type 0 where
  pub each : (k : ℕ) → from ≤ k → k < to → slice_index xs k ≡ slice_index ys k

-- a list has bytes 0 from a place up to another
pub record HasZeros (xs : List ℕ) (from to : ℕ) : Type 0 where
  pub each : (k : ℕ) → from ≤ k → k < to → slice_index xs k ≡ 0

-- what is the same as the same
pub HasSame-then : (xs ys zs : List ℕ) (from to : ℕ) → HasSame xs ys from to → HasSame ys zs from to → HasSame xs zs from to
HasSame-then xs ys zs from to a b = record { each = λ k low high. a.each k low high ∙ b.each k low high }

-- what is the same as bytes 0
pub HasZeros-same : (xs ys : List ℕ) (from to : ℕ) → HasSame xs ys from to → HasZeros ys from to → HasZeros xs from to
HasZeros-same xs ys from to a b = record { each = λ k low high. a.each k low high ∙ b.each k low high }

-- a part of bytes 0
pub HasZeros-within : (xs : List ℕ) (from to low high : ℕ) → from ≤ low → high ≤ to → HasZeros xs from to → HasZeros xs low high
HasZeros-within xs from to low high a b zeros = record { each = λ k l h. zeros.each k (omega arith) (omega arith) }

-- byte i of a range
pub byte_of_range : (xs : List ℕ) (from to i : ℕ) → i < to - from → slice_index (slice_range xs from to) i ≡ slice_index xs (from + i)
byte_of_range xs from to i within = get_or-take (to - from) (drop from xs) i 0 within ∙ get_or-drop from xs i 0

-- how long a range is
pub length-range : (xs : List ℕ) (from to : ℕ) → to ≤ length xs → length (slice_range xs from to) ≡ to - from
length-range xs from to room = omega (arith, length-take (to - from) (drop from xs), length-drop from xs)

-- ranges of the same bytes are the same
pub range_same : (xs ys : List ℕ) (from to : ℕ) → to ≤ length xs → to ≤ length ys → HasSame xs ys from to → slice_range xs from to ≡ slice_range ys from to
range_same xs ys from to room other same =
    ext_get_or 0 (slice_range xs from to) (slice_range ys from to) (length-range xs from to room ∙ sym (length-range ys from to other)) (λ i within.
    let below : i < to - from = omega (arith, length-range xs from to room) in
    byte_of_range xs from to i below ∙ same.each (from + i) (omega arith) (omega arith) ∙ sym (byte_of_range ys from to i below))

-- each of so many bytes 0 is 0, and so is what lies past them
pub byte_of_zeros : (n i : ℕ) → slice_index (replicate n 0) i ≡ 0
byte_of_zeros n i = elim (cases_lt i n) [
  | inl within ↦ get_or-replicate n i 0 0 within
  | inr past ↦ get_or_past (replicate n 0) i 0 (omega (arith, length-replicate {A = ℕ} n 0))
]

-- a range of bytes 0
pub range_zeros : (xs : List ℕ) (from n : ℕ) → from + n ≤ length xs → HasZeros xs from (from + n) → slice_range xs from (from + n) ≡ replicate n 0
range_zeros xs from n room zeros =
    ext_get_or 0 (slice_range xs from (from + n)) (replicate n 0) (length-range xs from (from + n) room ∙ (let e : from + n - from ≡ n = omega arith in e) ∙ sym (length-replicate n 0)) (λ i within.
    let below : i < from + n - from = omega (arith, length-range xs from (from + n) room) in
    byte_of_range xs from (from + n) i below ∙ zeros.each (from + i) (omega arith) (omega arith) ∙ sym (byte_of_zeros n i))

-- ---- a put

-- a put within the list leaves the length
pub length-put : (xs others : List ℕ) (at : ℕ) → at + length others ≤ length xs → length (put_at xs at others) ≡ length xs
length-put xs others at room = length_put xs others at (length others) refl room

-- what lies apart from it stays
pub HasSame-put : (xs others : List ℕ) (at from to : ℕ) → at ≤ length xs → (to ≤ at) ⊎ (at + length others ≤ from) → HasSame (put_at xs at others) xs from to
HasSame-put xs others at from to room beside = record { each = λ k low high. byte_put_apart xs others at (length others) k refl (outside k low high beside) room }
  where
    outside : (k : ℕ) → from ≤ k → k < to → (to ≤ at) ⊎ (at + length others ≤ from) → (k < at) ⊎ (at + length others ≤ k)
    outside k low high (inl before) = inl (omega arith)
    outside k low high (inr behind) = inr (omega arith)

-- bytes 0 that were put
pub HasZeros-put : (xs others : List ℕ) (at : ℕ) → at ≤ length xs → ((i : ℕ) → slice_index others i ≡ 0) → HasZeros (put_at xs at others) at (at + length others)
HasZeros-put xs others at room blank = record { each = λ k low high. byte_put_within xs others at (length others) k refl low high room ∙ blank (k - at) }

-- ---- another length

-- the new length
pub length-resized : (xs : List ℕ) (size : ℕ) → length (resized xs size) ≡ size
length-resized xs size = omega (arith, length-append (take size xs) (replicate (size - length xs) 0), length-take size xs, length-replicate {A = ℕ} (size - length xs) 0)

-- within the new length each byte stays, or is 0
pub byte_of_resized : (xs : List ℕ) (size k : ℕ) → k < size → slice_index (resized xs size) k ≡ slice_index xs k
byte_of_resized xs size k within =
    let front = take size xs in
    let zeros : List ℕ = replicate (size - length xs) 0 in
    elim (cases_lt k (length xs)) [
      | inl there ↦ get_or_append_left front zeros 0 k (omega (arith, length-take size xs)) ∙ get_or-take size xs k 0 within
      | inr past ↦
          get_or-append_right front zeros (length xs) k 0 (omega (arith, length-take size xs)) past ∙ byte_of_zeros (size - length xs) (k - length xs)
          ∙ sym (get_or_past xs k 0 past)
    ]

-- with bytes 0 behind it a list has the same bytes
pub byte_of_more : (xs : List ℕ) (n k : ℕ) → slice_index (xs ++ replicate n 0) k ≡ slice_index xs k
byte_of_more xs n k = elim (cases_lt k (length xs)) [
  | inl there ↦ get_or_append_left xs (replicate n 0) 0 k there
  | inr past ↦ get_or-append_right xs (replicate n 0) (length xs) k 0 refl past ∙ byte_of_zeros n (k - length xs) ∙ sym (get_or_past xs k 0 past)
]
