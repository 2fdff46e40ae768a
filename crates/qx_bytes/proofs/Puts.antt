-- What a put leaves, for `n` bytes in the place of `n`.
use Rattle.std.proofs.Common.{get_or, ◌≡◌, ℕ, ◌+◌, ◌-◌, ◌≤◌, ◌<◌, List, [], ◌++◌, ◌⊎◌, inl, inr, length, take, drop, ap, sym, ◌∙◌, arith, append_assoc, length-append, length-drop}
use Rattle.std.specs.Prelude.{slice_range}
use Rattle.std.specs.List.{replace_range}
use Rattle.std.proofs.lemmas.List.{take_at, drop_at, take-append-le, drop-append-le, drop-take, take-take, drop-drop, length-take-le, get_or_append_left, get_or-append-add, get_or-take, get_or-drop}
use Rattle.std.proofs.Math.Seq.{drop-append-add}
use Rattle.qx_bytes.specs.Ranges.{put_at}

-- what was put stands there
pub range_put_same : (bytes others : List ℕ) (at n : ℕ) → length others ≡ n → at ≤ length bytes → slice_range (replace_range bytes at (at + n) others) at (at + n) ≡ others
range_put_same bytes others at n ln room =
    let p = take at bytes in
    let q = drop (at + n) bytes in
    let d : drop at (replace_range bytes at (at + n) others) ≡ others ++ q = ap (λ (l : List ℕ). drop at l) (append_assoc p others q) ∙ drop_at p (others ++ q) at (length-take-le at bytes room) in
    ap (λ (l : List ℕ). take (at + n - at) l) d ∙ take_at others q (at + n - at) (omega arith)

-- a range before it stays
pub range_put_before : (bytes others : List ℕ) (at w k n : ℕ) → k + n ≤ at → at ≤ length bytes → slice_range (replace_range bytes at (at + w) others) k (k + n) ≡ slice_range bytes k (k + n)
range_put_before bytes others at w k n before room =
    let p = take at bytes in
    let q = drop (at + w) bytes in
    let lp : length p ≡ at = length-take-le at bytes room in
    let m = at - k in
    let whole : at ≡ k + m = omega arith in
    let d : drop k (replace_range bytes at (at + w) others) ≡ drop k p ++ (others ++ q) = ap (λ (l : List ℕ). drop k l) (append_assoc p others q) ∙ drop-append-le k p (others ++ q) (omega arith) in
    let lq : length (drop k p) ≡ at - k = omega (arith, length-drop k p) in
    let e : drop k p ≡ take m (drop k bytes) = ap (λ (i : ℕ). drop k (take i bytes)) whole ∙ drop-take k m bytes in
    let short : k + n - k ≤ m = omega arith in
    ap (λ (l : List ℕ). take (k + n - k) l) d ∙ take-append-le (k + n - k) (drop k p) (others ++ q) (omega arith)
    ∙ ap (λ (l : List ℕ). take (k + n - k) l) e ∙ take-take (k + n - k) m (drop k bytes) short

-- a range behind it stays
pub range_put_behind : (bytes others : List ℕ) (at w k n : ℕ) → length others ≡ w → at + w ≤ k → at ≤ length bytes → slice_range (replace_range bytes at (at + w) others) k (k + n) ≡ slice_range bytes k (k + n)
range_put_behind bytes others at w k n lw behind room =
    let p = take at bytes ++ others in
    let q = drop (at + w) bytes in
    let lp : length p ≡ at + w = omega (arith, length-append (take at bytes) others, length-take-le at bytes room) in
    let j = k - (at + w) in
    let e : k ≡ length p + j = omega arith in
    let f : at + w + j ≡ k = omega arith in
    let d : drop k (p ++ q) ≡ drop k bytes =
    ap (λ (i : ℕ). drop i (p ++ q)) e ∙ drop-append-add p q j ∙ drop-drop j (at + w) bytes ∙ ap (λ (i : ℕ). drop i bytes) f in
    ap (λ (l : List ℕ). take (k + n - k) l) d

-- a range that lies apart stays
pub range_put_apart : (bytes others : List ℕ) (at w k n : ℕ) → length others ≡ w → (k + n ≤ at) ⊎ (at + w ≤ k) → at ≤ length bytes → slice_range (replace_range bytes at (at + w) others) k (k + n) ≡ slice_range bytes k (k + n)
range_put_apart bytes others at w k n lw apart room = elim apart [
  | inl before ↦ range_put_before bytes others at w k n before room
  | inr behind ↦ range_put_behind bytes others at w k n lw behind room
]

-- so does a byte
pub byte_put_apart : (bytes others : List ℕ) (at w k : ℕ) → length others ≡ w → (k < at) ⊎ (at + w ≤ k) → at ≤ length bytes → get_or (replace_range bytes at (at + w) others) k 0 ≡ get_or bytes k 0
byte_put_apart bytes others at w k lw apart room =
    let p = take at bytes in
    let q = drop (at + w) bytes in
    let lp : length p ≡ at = length-take-le at bytes room in
    elim apart [
      | inl before ↦
          ap (λ (l : List ℕ). get_or l k 0) (append_assoc p others q) ∙ get_or_append_left p (others ++ q) 0 k (omega arith) ∙ get_or-take at bytes k 0 before
      | inr behind ↦
          let l : length (p ++ others) ≡ at + w = omega (arith, length-append p others) in
          let j = k - (at + w) in
          let e : k ≡ length (p ++ others) + j = omega arith in
          let f : at + w + j ≡ k = omega arith in
          ap (λ (i : ℕ). get_or (p ++ others ++ q) i 0) e ∙ get_or-append-add (p ++ others) q j 0 ∙ get_or-drop (at + w) bytes j 0 ∙ ap (λ (i : ℕ). get_or bytes i 0) f
    ]

-- a byte within is one of those that were put
pub byte_put_within : (bytes others : List ℕ) (at w k : ℕ) → length others ≡ w → at ≤ k → k < at + w → at ≤ length bytes → get_or (replace_range bytes at (at + w) others) k 0 ≡ get_or others (k - at) 0
byte_put_within bytes others at w k lw from to room =
    let p = take at bytes in
    let q = drop (at + w) bytes in
    let lp : length p ≡ at = length-take-le at bytes room in
    let j = k - at in
    let e : k ≡ length p + j = omega arith in
    ap (λ (l : List ℕ). get_or l k 0) (append_assoc p others q) ∙ ap (λ (i : ℕ). get_or (p ++ (others ++ q)) i 0) e ∙ get_or-append-add p (others ++ q) j 0
    ∙ get_or_append_left others q 0 j (omega arith)

-- within the list a put leaves the length
pub length_put : (bytes others : List ℕ) (at w : ℕ) → length others ≡ w → at + w ≤ length bytes → length (replace_range bytes at (at + w) others) ≡ length bytes
length_put bytes others at w lw room = omega (arith, length-append (take at bytes ++ others) (drop (at + w) bytes), length-append (take at bytes) others, length-take-le at bytes (omega arith), length-drop (at + w) bytes)

-- a range that ends before it begins is empty
range_none : (xs : List ℕ) (i j : ℕ) → j ≤ i → slice_range xs i j ≡ []
range_none xs i j back = ap (λ (n : ℕ). take n (drop i xs)) (let e : j - i ≡ 0 = omega arith in e)

begins_or : (i j : ℕ) → (i ≤ j) ⊎ (j ≤ i)
begins_or i j = grind arith

-- a range of a range
pub range_range : (bytes : List ℕ) (from to i j : ℕ) → j ≤ to - from → slice_range (slice_range bytes from to) i j ≡ slice_range bytes (from + i) (from + j)
range_range bytes from to i j within = elim (begins_or i j) [
  | inr back ↦ range_none (slice_range bytes from to) i j back ∙ sym (range_none bytes (from + i) (from + j) (omega arith))
  | inl along ↦
      let m = to - from - i in
      let whole : to - from ≡ i + m = omega arith in
      let inner : drop i (take (to - from) (drop from bytes)) ≡ take m (drop i (drop from bytes)) = ap (λ (n : ℕ). drop i (take n (drop from bytes))) whole ∙ drop-take i m (drop from bytes) in
      ap (λ (l : List ℕ). take (j - i) l) inner ∙ take-take (j - i) m (drop i (drop from bytes)) (omega arith)
      ∙ ap (λ (l : List ℕ). take (j - i) l) (drop-drop i from bytes)
      ∙ ap (λ (n : ℕ). take n (drop (from + i) bytes)) (let e : j - i ≡ from + j - (from + i) = omega arith in e)
]

-- bytes that were lent and came back as others are put there
pub part_put : (bytes part : List ℕ) (at wide : ℕ) → length part ≡ wide → take at bytes ++ (part ++ drop (at + wide - at) (drop at bytes)) ≡ put_at bytes at part
part_put bytes part at wide long =
    let behind : at + (at + wide - at) ≡ at + length part = omega arith in
    sym (append_assoc (take at bytes) part (drop (at + wide - at) (drop at bytes)))
    ∙ ap (λ rest. (take at bytes ++ part) ++ rest) (drop-drop (at + wide - at) at bytes ∙ ap (λ n. drop n bytes) behind)
