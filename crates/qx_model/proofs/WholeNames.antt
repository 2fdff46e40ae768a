-- A long name that is added or taken away leaves the Longfile whole.
use Rattle.std.proofs.Common.{◌≡◌, ℕ, zero, suc, ◌+◌, ◌*◌, ◌-◌, ◌<◌, ◌≤◌, inl, inr, List, [], ◌∷◌, ◌++◌, length, refl, sym, ap, ◌∙◌, subst, arith, get_or}
use Rattle.std.specs.Prelude.{◌≢◌, Bool, true, false, not, Option, Some, None, filter, is_some, max, slice_get, slice_set, nat_lt, ◌==◌, if◌then◌else◌}
use Rattle.std.specs.List.{range_with_len}
use Rattle.std.specs.Option.{option_flatten}
use Rattle.std.proofs.lemmas.Bool.{cases_eq, cases_lt, eq-eqb, eqb-true, ltb-false, ltb-true}
use Rattle.std.proofs.lemmas.List.{length-append}
use Rattle.std.proofs.lemmas.List.FromFn.{get_or-range_with_len}
use Rattle.std.proofs.lemmas.List.Sums.{fails_before_first, passes_at_first, prefix_len-le-length}
use Rattle.std.proofs.lemmas.Option.{slice_get_past}
use Rattle.std.proofs.Math.Nat.{add-mul}
use Rattle.qx_geom.specs.Lists.{IsAscending, is_in}
use Rattle.qx_geom.specs.Positions.{with_number}
use Rattle.qx_geom.proofs.ImagesAndFilters.{Contains-in, filter_in, in_filter}
use Rattle.qx_geom.proofs.Members.{in_cases, in_head}
use Rattle.qx_geom.proofs.PresentLeaves.{filter_ascends, number_ascends, number_in, others_in, with_number_from}
use Rattle.qx_geom.proofs.Truths.{not_so, not_true, true_or_false}
use Rattle.qx_model.specs.Tree.{Tree}
use Rattle.qx_model.specs.Edits.{absent_number, with_place}
use Rattle.qx_model.specs.Whole.{HasWholeNames, long_name_of}
use Rattle.qx_model.proofs.EditOutlines.{length-set}
use Rattle.qx_model.proofs.Outlines.{get-set_at, get-set_other, set_past}
use Rattle.qx_model.proofs.Places.{not_false}

nothing_in : (i : ℕ) → is_in [] i ≡ true → ⊥
nothing_in i h = cc

from_zero : (n : ℕ) → 0 + n ≡ n
from_zero n = omega arith

length-range : (a n : ℕ) → length (range_with_len a n) ≡ n
length-range a zero = refl
length-range a (suc n) = ap suc (length-range (a + 1) n)

-- a list that ascends from a number, and has as many from there on as it has elements, has no other
full : (a : ℕ) (xs : List ℕ) → IsAscending xs → ((y : ℕ) → is_in xs y ≡ true → a ≤ y) → ((i : ℕ) → a ≤ i → i < a + length xs → is_in xs i ≡ true) → is_in xs (a + length xs) ≡ true → ⊥
full a [] up low all h = nothing_in (a + 0) h
full a (x ∷ ys) up low all h =
    full (a + 1) ys up.1 (λ y m. (let above = up.0 y (Contains-in ys y m) in omega (arith, above, first)))
    (λ i from to. behind i (all i (omega (arith, from)) (omega (arith, to))) (omega (arith, from, first)))
    (let moved : a + suc (length ys) ≡ a + 1 + length ys = omega arith in behind (a + 1 + length ys) (subst (λ z. is_in (x ∷ ys) z ≡ true) moved h) (omega (arith, first)))
  where
    first : x ≡ a
    first = elim (in_cases x a ys (all a (omega arith) (omega arith))) [
      | inl is ↦ is
      | inr there ↦ (let above = up.0 a (Contains-in ys a there) in let least = low x (in_here x ys) in absurd (omega (arith, above, least)))
    ]
      where
        in_here : (x : ℕ) (ys : List ℕ) → is_in (x ∷ ys) x ≡ true
        in_here x ys = in_head x ys

    behind : (i : ℕ) → is_in (x ∷ ys) i ≡ true → x < i → is_in ys i ≡ true
    behind i m above = elim (in_cases x i ys m) [ inl is ↦ absurd (omega (arith, is, above)) | inr there ↦ there ]

-- ---- the number of a new name

abbrev is_free : Tree → ℕ → Bool
is_free t k = not (is_in t.long_present k)

abbrev numbers : Tree → List ℕ
numbers t = range_with_len 0 (length t.long_present)

absent_most : (t : Tree) → absent_number t ≤ length t.long_present
absent_most t = let most = prefix_len-le-length (λ x. not (is_free t x)) (numbers t) in omega (arith, most, length-range 0 (length t.long_present))

-- all numbers below it are taken
pub taken_below : (t : Tree) (j : ℕ) → j < absent_number t → is_in t.long_present j ≡ true
taken_below t j h =
    let most = absent_most t in
    let low : j < length t.long_present = omega (arith, h, most) in
    let value : get_or (numbers t) j 0 ≡ j = get_or-range_with_len 0 (length t.long_present) j 0 low ∙ from_zero j in
    not_false (is_in t.long_present j) (ap (is_free t) (sym value) ∙ fails_before_first (is_free t) (numbers t) j 0 h)

-- and it isn't
pub absent_free : (t : Tree) → IsAscending t.long_present → is_in t.long_present (absent_number t) ≡ false
absent_free t up = elim (cases_lt (absent_number t) (length t.long_present)) [
  | inl below ↦
      let value : get_or (numbers t) (absent_number t) 0 ≡ absent_number t = get_or-range_with_len 0 (length t.long_present) (absent_number t) 0 below ∙ from_zero (absent_number t) in
      not_true (is_in t.long_present (absent_number t)) (ap (is_free t) (sym value) ∙ passes_at_first (is_free t) (numbers t) 0 (omega (arith, below, length-range 0 (length t.long_present))))
  | inr past ↦
      let most = absent_most t in
      let all : absent_number t ≡ length t.long_present = omega (arith, past, most) in
      not_so (is_in t.long_present (absent_number t)) (λ h. full 0 t.long_present up (λ y m. omega arith) (λ i from to. taken_below t i (omega (arith, to, all)))
      (subst (λ n. is_in t.long_present n ≡ true) (all ∙ sym (from_zero (length t.long_present))) h))
]

-- ---- a name at its place

module _ {A : Type 0} (xs : List A) (k : ℕ) (x : A) (within : k ≤ length xs) where
  -- what the first element of a list behind is
  behind_at : (ys : List A) → slice_get (ys ++ x ∷ []) (length ys) ≡ Some x
  behind_at [] = refl
  behind_at (y ∷ ys) = behind_at ys

  behind_beside : (ys : List A) (j : ℕ) → j ≢ length ys → slice_get (ys ++ x ∷ []) j ≡ slice_get ys j
  behind_beside [] zero ne = absurd (ne refl)
  behind_beside [] (suc j) ne = refl
  behind_beside (y ∷ ys) zero ne = refl
  behind_beside (y ∷ ys) (suc j) ne = behind_beside ys j (λ e. ne (ap suc e))

  -- the list has x at the place
  pub place_at : slice_get (with_place xs k x) k ≡ Some x
  place_at = go (nat_lt k (length xs)) refl
    where
      go : (b : Bool) → nat_lt k (length xs) ≡ b → slice_get (if b then slice_set xs k x else xs ++ x ∷ []) k ≡ Some x
      go true e = get-set_at xs k x (ltb-true k (length xs) e)
      go false e = let past = ltb-false k (length xs) e in let end : length xs ≡ k = omega (arith, past, within) in subst (λ j. slice_get (xs ++ x ∷ []) j ≡ Some x) end (behind_at xs)

  -- and elsewhere what it had
  pub place_beside : (j : ℕ) → j ≢ k → slice_get (with_place xs k x) j ≡ slice_get xs j
  place_beside j ne = go (nat_lt k (length xs)) refl
    where
      go : (b : Bool) → nat_lt k (length xs) ≡ b → slice_get (if b then slice_set xs k x else xs ++ x ∷ []) j ≡ slice_get xs j
      go true e = get-set_other xs k j x (λ z. ne (sym z))
      go false e = let past = ltb-false k (length xs) e in let end : length xs ≡ k = omega (arith, past, within) in behind_beside xs j (λ z. ne (z ∙ end))

  -- and is as long as the place asks for
  pub place_long : length (with_place xs k x) ≡ max (length xs) (k + 1)
  place_long = go (nat_lt k (length xs)) refl
    where
      go : (b : Bool) → nat_lt k (length xs) ≡ b → length (if b then slice_set xs k x else xs ++ x ∷ []) ≡ max (length xs) (k + 1)
      go true e = let below = ltb-true k (length xs) e in omega (arith, length-set xs k x, below)
      go false e = let past = ltb-false k (length xs) e in omega (arith, length-append xs (x ∷ []), past, within)

max_times : (a b c : ℕ) → max (a * c) (b * c) ≡ max a b * c
max_times a b c = elim (cases_lt a b) [
  | inl below ↦
      let d = b - a in
      let split : b ≡ a + (b - a) = omega (arith, below) in
      let product : b * c ≡ a * c + (b - a) * c = ap (λ x. x * c) split ∙ add-mul a (b - a) c in
      let big : max a b ≡ b = omega (arith, below) in
      omega (arith, product) ∙ ap (λ x. x * c) (sym big)
  | inr past ↦
      let split : a ≡ b + (a - b) = omega (arith, past) in
      let product : a * c ≡ b * c + (a - b) * c = ap (λ x. x * c) split ∙ add-mul b (a - b) c in
      let big : max a b ≡ a = omega (arith, past) in
      omega (arith, product) ∙ ap (λ x. x * c) (sym big)
]

-- ---- a long name

module _ (blocksize : ℕ) (t : Tree) (h : HasWholeNames blocksize t) (name : List ℕ) where
  abbrev k : ℕ
  k = absent_number t

  -- there is room for its number
  pub number_room : absent_number t ≤ length t.long_names
  number_room = elim (cases_lt (length t.long_names) (absent_number t)) [
    | inr most ↦ most
    | inl below ↦
        let there : is_some (long_name_of t (length t.long_names)) ≡ true = sym (h.there (length t.long_names)) ∙ taken_below t (length t.long_names) below in
        let none : is_some (long_name_of t (length t.long_names)) ≡ false = ap (λ o. is_some (option_flatten o)) (slice_get_past t.long_names (length t.long_names) (omega arith)) in
        absurd (true_or_false (is_some (long_name_of t (length t.long_names))) there none)
  ]

  -- the tree with it
  abbrev pub named : Tree
  named = record t {
    long_names = with_place t.long_names (absent_number t) (Some name);
    long_present = with_number t.long_present (absent_number t);
    long_size = max t.long_size ((absent_number t + 1) * blocksize);
  }

  -- the number has the name
  pub named_at : long_name_of named (absent_number t) ≡ Some name
  named_at = ap option_flatten (place_at t.long_names (absent_number t) (Some name) number_room)

  -- the others have theirs
  pub named_beside : (j : ℕ) → j ≢ absent_number t → long_name_of named j ≡ long_name_of t j
  named_beside j ne = ap option_flatten (place_beside t.long_names (absent_number t) (Some name) number_room j ne)

  -- no name has its number
  pub number_free : long_name_of t (absent_number t) ≡ None
  number_free = none (long_name_of t (absent_number t)) (sym (h.there (absent_number t)) ∙ absent_free t h.ascends)
    where
      none : (o : Option (List ℕ)) → is_some o ≡ false → o ≡ None
      none None e = refl
      none (Some x) e = absurd (cc)

  -- the Longfile is whole with it
  pub named_whole : HasWholeNames blocksize named
  named_whole = record {
    whole = ap (λ n. max n ((absent_number t + 1) * blocksize)) h.whole ∙ max_times (length t.long_names) (absent_number t + 1) blocksize ∙ ap (λ n. n * blocksize) (sym (place_long t.long_names (absent_number t) (Some name) number_room));
    ascends = number_ascends t.long_present (absent_number t) h.ascends;
    there = λ j. elim (cases_eq j (absent_number t)) [
      | inl is ↦ subst (λ i. is_in (with_number t.long_present (absent_number t)) i ≡ is_some (long_name_of named i)) (sym is) (number_in t.long_present (absent_number t) ∙ sym (ap is_some named_at))
      | inr ne ↦ same j ne ∙ h.there j ∙ ap is_some (sym (named_beside j ne))
    ];
  }
    where
      same : (j : ℕ) → j ≢ absent_number t → is_in (with_number t.long_present (absent_number t)) j ≡ is_in t.long_present j
      same j ne = go (is_in t.long_present j) refl
        where
          go : (b : Bool) → is_in t.long_present j ≡ b → is_in (with_number t.long_present (absent_number t)) j ≡ b
          go true e = others_in t.long_present (absent_number t) j e
          go false e = not_so _ (λ m. elim (with_number_from t.long_present (absent_number t) j m) [ inl is ↦ ne (sym is) | inr old ↦ true_or_false (is_in t.long_present j) old e ])

-- a name that goes
module _ (blocksize : ℕ) (t : Tree) (h : HasWholeNames blocksize t) (q : ℕ) where
  -- the tree without it
  abbrev pub unnamed : Tree
  unnamed = record t { long_names = slice_set t.long_names q None; long_present = filter (λ j. not (j == q)) t.long_present }

  -- the others have theirs
  pub unnamed_beside : (j : ℕ) → j ≢ q → long_name_of unnamed j ≡ long_name_of t j
  unnamed_beside j ne = ap option_flatten (get-set_other t.long_names q j None (λ z. ne (sym z)))

  -- it has none
  pub unnamed_at : long_name_of unnamed q ≡ None
  unnamed_at = elim (cases_lt q (length t.long_names)) [
    | inl below ↦ ap option_flatten (get-set_at t.long_names q None below)
    | inr past ↦ ap (λ xs. option_flatten (slice_get xs q)) (set_past t.long_names q None past) ∙ ap option_flatten (slice_get_past t.long_names q past)
  ]

  -- the Longfile is whole without it
  pub unnamed_whole : HasWholeNames blocksize unnamed
  unnamed_whole = record {
    whole = h.whole ∙ ap (λ n. n * blocksize) (sym (length-set t.long_names q None));
    ascends = filter_ascends (λ j. not (j == q)) t.long_present h.ascends;
    there = λ j. elim (cases_eq j q) [
      | inl is ↦ subst (λ i. is_in (filter (λ j. not (j == q)) t.long_present) i ≡ is_some (long_name_of unnamed i)) (sym is) (gone ∙ sym (ap is_some unnamed_at))
      | inr ne ↦ same j ne ∙ h.there j ∙ ap is_some (sym (unnamed_beside j ne))
    ];
  }
    where
      gone : is_in (filter (λ j. not (j == q)) t.long_present) q ≡ false
      gone = not_so _ (λ m. (let r = filter_in (λ j. not (j == q)) t.long_present q m in true_or_false (q == q) (eq-eqb q q refl) (not_true (q == q) r.1)))

      differs : (j : ℕ) → j ≢ q → not (j == q) ≡ true
      differs j ne = go (j == q) refl
        where
          go : (b : Bool) → (j == q) ≡ b → not b ≡ true
          go true e = absurd (ne (eqb-true j q e))
          go false e = refl

      same : (j : ℕ) → j ≢ q → is_in (filter (λ j. not (j == q)) t.long_present) j ≡ is_in t.long_present j
      same j ne = go (is_in t.long_present j) refl
        where
          go : (b : Bool) → is_in t.long_present j ≡ b → is_in (filter (λ j. not (j == q)) t.long_present) j ≡ b
          go true e = in_filter (λ j. not (j == q)) t.long_present j e (differs j ne)
          go false e = not_so _ (λ m. (let r = filter_in (λ j. not (j == q)) t.long_present j m in true_or_false (is_in t.long_present j) r.0 e))
