-- Members of lists that are made of others: images, lists end to end, ranges.
use Rattle.std.proofs.Common.{◌≡◌, ℕ, zero, suc, ◌+◌, ◌<◌, ◌≤◌, inl, inr, List, [], ◌∷◌, sym, ap, subst, arith}
use Rattle.std.specs.Prelude.{Contains, map, flat_map}
use Rattle.std.specs.List.{range_with_len}
use Rattle.std.proofs.lemmas.Bool.{cases_lt}
use Rattle.std.proofs.lemmas.List.Elements.{Contains-append_cases, Contains-append_left, Contains-append_right}
use Rattle.qx_geom.proofs.Members.{Contains-cases, Contains-cons, Contains-head}

-- nothing is a member of the empty list
pub Contains-none : {A : Type 0} (x : A) → Contains [] x → ⊥
Contains-none x c = omega (arith, c.1)

-- the head by another name
pub Contains-head_as : {A : Type 0} (x y : A) (xs : List A) → x ≡ y → Contains (x ∷ xs) y
Contains-head_as x y xs is = subst (λ z. Contains (x ∷ xs) z) is (Contains-head x xs)

-- the image of a member is one of the image
pub Contains-map : {A B : Type 0} (f : A → B) (xs : List A) (x : A) → Contains xs x → Contains (map f xs) (f x)
Contains-map f [] x c = absurd (Contains-none x c)
Contains-map f (y ∷ xs) x c = elim (Contains-cases y x xs c) [
  | inl is ↦ Contains-head_as (f y) (f x) (map f xs) (ap f is)
  | inr there ↦ Contains-cons (f y) (f x) (map f xs) (Contains-map f xs x there)
]

-- and a member of the image is the image of one
pub map-Contains : {A B : Type 0} (f : A → B) (xs : List A) (y : B) → Contains (map f xs) y → (x : A) × Contains xs x × (f x ≡ y)
map-Contains f [] y c = absurd (Contains-none y c)
map-Contains f (x ∷ xs) y c = elim (Contains-cases (f x) y (map f xs) c) [
  | inl is ↦ (x, Contains-head x xs, is)
  | inr there ↦ let r = map-Contains f xs y there in (r.0, Contains-cons x r.0 xs r.1, r.2)
]

-- a member of a part is one of the parts end to end
pub Contains-flat_map : {A B : Type 0} (f : A → List B) (xs : List A) (x : A) (y : B) → Contains xs x → Contains (f x) y → Contains (flat_map f xs) y
Contains-flat_map f [] x y c d = absurd (Contains-none x c)
Contains-flat_map f (z ∷ xs) x y c d = elim (Contains-cases z x xs c) [
  | inl is ↦ Contains-append_left (f z) (flat_map f xs) y (subst (λ w. Contains (f w) y) (sym is) d)
  | inr there ↦ Contains-append_right (f z) (flat_map f xs) y (Contains-flat_map f xs x y there d)
]

-- and a member of these is one of a part
pub flat_map-Contains : {A B : Type 0} (f : A → List B) (xs : List A) (y : B) → Contains (flat_map f xs) y → (x : A) × Contains xs x × Contains (f x) y
flat_map-Contains f [] y c = absurd (Contains-none y c)
flat_map-Contains f (x ∷ xs) y c = elim (Contains-append_cases (f x) (flat_map f xs) y c) [
  | inl here ↦ (x, Contains-head x xs, here)
  | inr there ↦ let r = flat_map-Contains f xs y there in (r.0, Contains-cons x r.0 xs r.1, r.2)
]

-- the numbers of a range
pub Contains-range : (a n x : ℕ) → a ≤ x → x < a + n → Contains (range_with_len a n) x
Contains-range a zero x low high = absurd (omega arith)
Contains-range a (suc n) x low high = elim (cases_lt a x) [
  | inl below ↦ Contains-cons a x (range_with_len (a + 1) n) (Contains-range (a + 1) n x (omega arith) (omega arith))
  | inr not_below ↦ let is : a ≡ x = omega arith in Contains-head_as a x (range_with_len (a + 1) n) is
]

-- and no others
pub range-Contains : (a n x : ℕ) → Contains (range_with_len a n) x → (a ≤ x) × (x < a + n)
range-Contains a zero x c = absurd (Contains-none x c)
range-Contains a (suc n) x c = elim (Contains-cases a x (range_with_len (a + 1) n) c) [
  | inl is ↦ (omega arith, omega arith)
  | inr there ↦ let r = range-Contains (a + 1) n x there in (omega (arith, r.0), omega (arith, r.1))
]
