-- Fields of a slice after another was put.
use Rattle.std.proofs.Common.{get_or, ◌≡◌, ℕ, zero, suc, ◌+◌, ◌-◌, ◌*◌, ◌≤◌, ◌<◌, ◌^◌, List, [], ◌∷◌, ◌++◌, ◌⊎◌, All, append-nil, length, length-append, take, drop, map, ap, sym, ◌∙◌, arith, length-take, length-drop, take-append-drop, mul-le-mul_left, refl}
use Rattle.std.specs.Prelude.{slice_range, slice_index}
use Rattle.std.specs.List.{range_with_len}
use Rattle.std.proofs.Math.Nat.{mul-suc, mul-zero}
use Rattle.std.proofs.Math.Seq.{drop-append-add}
use Rattle.std.proofs.lemmas.List.Elements.{All-get_or}
use Rattle.std.proofs.lemmas.List.{ext_get_or}
use Rattle.std.proofs.lemmas.List.FromFn.{length-map-range_with_len, get_or-map-range_with_len}
use Rattle.byteorder.specs.Numbers.{big_from-append, little_from-append, big_number-reads_back, little_number-reads_back, length-bytes_high_first, length-bytes_low_first}
use Rattle.qx_bytes.proofs.Puts.{range_put_same, range_put_apart, byte_put_apart, length_put, range_range}
use Rattle.qx_fields.specs.declared.order.Order.{Order}
use Rattle.qx_fields.specs.declared.order.Order.TheVariants.{Little, Big}
use Rattle.qx_fields.specs.Number.{number, digits, all_digits, field, fields, put_field, put_fields}

pub length_digits : (order : Order) (n x : ℕ) → length (digits order n x) ≡ n
length_digits Little n x = length-bytes_low_first 0 n x
length_digits Big n x = length-bytes_high_first n x

-- what the digits of a number spell
pub number_digits : (order : Order) (n x : ℕ) (rest : List ℕ) → x < 256 ^ n → number order n (digits order n x ++ rest) ≡ x
number_digits Little n x rest small = little_number-reads_back n x rest small
number_digits Big n x rest small = big_number-reads_back n x rest small

module _ (order : Order) where
  -- the number that was put
  pub field_put_same : (n x : ℕ) (bytes : List ℕ) (at : ℕ) → x < 256 ^ n → at ≤ length bytes → field order n (put_field order n bytes at x) at ≡ x
  unfolding field put_field
  field_put_same n x bytes at small room =
      ap (λ (l : List ℕ). number order n l) (range_put_same bytes (digits order n x) at n (length_digits order n x) room ∙ sym (append-nil (digits order n x))) ∙ number_digits order n x [] small

  -- a field that lies apart stays
  pub field_put_apart : (w x : ℕ) (bytes : List ℕ) (at n k : ℕ) → (k + n ≤ at) ⊎ (at + w ≤ k) → at ≤ length bytes → field order n (put_field order w bytes at x) k ≡ field order n bytes k
  unfolding field put_field
  field_put_apart w x bytes at n k apart room = ap (λ (l : List ℕ). number order n l) (range_put_apart bytes (digits order w x) at w k n (length_digits order w x) apart room)

  -- so does a byte
  pub byte_apart : (w x : ℕ) (bytes : List ℕ) (at k : ℕ) → (k < at) ⊎ (at + w ≤ k) → at ≤ length bytes → get_or (put_field order w bytes at x) k 0 ≡ get_or bytes k 0
  unfolding put_field
  byte_apart w x bytes at k apart room = byte_put_apart bytes (digits order w x) at w k (length_digits order w x) apart room

  pub length_put_field : (w x : ℕ) (bytes : List ℕ) (at : ℕ) → at + w ≤ length bytes → length (put_field order w bytes at x) ≡ length bytes
  unfolding put_field
  length_put_field w x bytes at room = length_put bytes (digits order w x) at w (length_digits order w x) room

  -- a field of a range
  pub field_range : (n : ℕ) (bytes : List ℕ) (from to at : ℕ) → at + n ≤ to - from → field order n (slice_range bytes from to) at ≡ field order n bytes (from + at)
  unfolding field
  field_range n bytes from to at within =
      ap (λ (l : List ℕ). number order n l) (range_range bytes from to at (at + n) within)
      ∙ ap (λ (end : ℕ). number order n (slice_range bytes (from + at) end)) (let e : from + (at + n) ≡ from + at + n = omega arith in e)

-- n bytes spell what they spell with others behind them
number_first : (order : Order) (n : ℕ) (xs ys : List ℕ) → n ≤ length xs → number order n (xs ++ ys) ≡ number order n xs
number_first Little n xs ys enough = little_from-append n xs ys enough
number_first Big n xs ys enough = big_from-append n xs ys enough

module _ (order : Order) (n count : ℕ) (bytes : List ℕ) (at : ℕ) where
  abbrev part : List ℕ
  part = slice_range bytes at (at + n * count)

  within : (k : ℕ) → k < count → n * k + n ≤ n * count
  within k short =
      let more : suc k ≤ count = omega arith in
      let fits : n * suc k ≤ n * count = mul-le-mul_left n more in
      omega (arith, fits, mul-suc n k)

  -- the k-th number of a part is a field of the whole
  piece : (k : ℕ) → k < count → at + n * count ≤ length bytes → number order n (drop (n * k) part) ≡ field order n bytes (at + n * k)
  unfolding field
  piece k short room =
      let xs = drop (n * k) part in
      let inside : n * k + n ≤ n * count = within k short in
      let size : length part ≡ n * count = omega (arith, length-take (at + n * count - at) (drop at bytes), length-drop at bytes) in
      let long : length xs ≡ n * count - n * k = omega (arith, length-drop (n * k) part) in
      let enough : n ≤ length (take n xs) = omega (arith, length-take n xs) in
      ap (λ (l : List ℕ). number order n l) (sym (take-append-drop n xs)) ∙ number_first order n (take n xs) (drop n xs) enough
      ∙ ap (λ (m : ℕ). number order n (take m xs)) (let e : n ≡ n * k + n - n * k = omega arith in e)
      ∙ ap (λ (l : List ℕ). number order n l) (range_range bytes at (at + n * count) (n * k) (n * k + n) (omega arith))
      ∙ ap (λ (end : ℕ). number order n (slice_range bytes (at + n * k) end)) (let e : at + (n * k + n) ≡ at + n * k + n = omega arith in e)

  -- numbers that are those of the part are the fields of the whole
  pub fields_read : (into : List ℕ) → length into ≡ count → at + n * count ≤ length bytes → ((k : ℕ) → k < length into → slice_index into k ≡ number order n (drop (n * k) part)) → into ≡ fields order n count bytes at
  unfolding fields
  fields_read into long room read =
      let f : ℕ → ℕ = λ k. field order n bytes (at + n * k) in
      ext_get_or 0 into (map f (range_with_len 0 count)) (long ∙ sym (length-map-range_with_len f 0 count)) (λ k short.
      let below : k < count = omega (arith, long) in
      read k short ∙ piece k below room ∙ sym (get_or-map-range_with_len f 0 count k k 0 below (let e : 0 + k ≡ k = omega arith in e)))

module _ (order : Order) (n : ℕ) where
  -- as many bytes as the numbers have
  pub length_all_digits : (xs : List ℕ) → length (all_digits order n xs) ≡ n * length xs
  length_all_digits [] = sym (mul-zero n)
  length_all_digits (x ∷ xs) =
      omega (arith, length-append (digits order n x) (all_digits order n xs), length_digits order n x, length_all_digits xs, mul-suc n (length xs))

  -- the number that stands behind k others
  number_behind : (xs : List ℕ) (k : ℕ) → k < length xs → get_or xs k 0 < 256 ^ n → number order n (drop (n * k) (all_digits order n xs)) ≡ get_or xs k 0
  number_behind [] k short small = absurd (omega arith)
  number_behind (x ∷ xs) zero short small =
      ap (λ (i : ℕ). number order n (drop i (digits order n x ++ all_digits order n xs))) (mul-zero n)
      ∙ number_digits order n x (all_digits order n xs) small
  number_behind (x ∷ xs) (suc k) short small =
      let there : n * suc k ≡ length (digits order n x) + n * k = omega (arith, mul-suc n k, length_digits order n x) in
      ap (λ (i : ℕ). number order n (drop i (digits order n x ++ all_digits order n xs))) there
      ∙ ap (λ (l : List ℕ). number order n l) (drop-append-add (digits order n x) (all_digits order n xs) (n * k))
      ∙ number_behind xs k (omega arith) small

  -- where the digits of a number stand it is read
  pub field_spelled : (x : ℕ) (bytes : List ℕ) (at : ℕ) → x < 256 ^ n → slice_range bytes at (at + n) ≡ digits order n x → field order n bytes at ≡ x
  unfolding field
  field_spelled x bytes at small spelled = ap (λ (l : List ℕ). number order n l) (spelled ∙ sym (append-nil (digits order n x))) ∙ number_digits order n x [] small

  -- where the digits of several numbers stand these are read
  pub fields_spelled : (count : ℕ) (xs bytes : List ℕ) (at : ℕ) → length xs ≡ count → All (λ x. x < 256 ^ n) xs → at + n * count ≤ length bytes → slice_range bytes at (at + n * count) ≡ all_digits order n xs → fields order n count bytes at ≡ xs
  fields_spelled count xs bytes at long small room spelled =
      sym (fields_read order n count bytes at xs long room (λ k short.
      sym (ap (λ (l : List ℕ). number order n (drop (n * k) l)) spelled ∙ number_behind xs k short (All-get_or (λ x. x < 256 ^ n) xs k 0 short small))))

  -- so are several that were put
  pub fields_put_same : (xs bytes : List ℕ) (at : ℕ) → All (λ x. x < 256 ^ n) xs → at + n * length xs ≤ length bytes → fields order n (length xs) (put_fields order n bytes at xs) at ≡ xs
  unfolding put_fields
  fields_put_same xs bytes at small room =
      let long : length (put_fields order n bytes at xs) ≡ length bytes = length_put bytes (all_digits order n xs) at (n * length xs) (length_all_digits xs) room in
      fields_spelled (length xs) xs (put_fields order n bytes at xs) at refl small (omega (arith, long)) (range_put_same bytes (all_digits order n xs) at (n * length xs) (length_all_digits xs) (omega arith))
