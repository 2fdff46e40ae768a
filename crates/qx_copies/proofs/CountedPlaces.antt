-- Counts that are 1, and ascending lists that are full.
use Rattle.std.proofs.Common.{◌≡◌, ℕ, zero, suc, ◌+◌, ◌-◌, ◌≤◌, ◌<◌, inl, inr, List, [], ◌∷◌, length, refl, ap, sym, ◌∙◌, arith}
use Rattle.std.specs.Prelude.{Bool, true, false, cond, sum_by, slice_get, Some, Contains}
use Rattle.std.proofs.lemmas.Bool.{cases_eq}
use Rattle.std.proofs.lemmas.List.Sums.{sum_by-cons}
use Rattle.qx_geom.specs.Lists.{IsAscending, is_in}
use Rattle.qx_geom.proofs.AscendingLists.{below}
use Rattle.qx_geom.proofs.Members.{Contains-cases, Contains-cons, Contains-head, in_tail}
use Rattle.qx_geom.proofs.ImagesAndFilters.{in_head_as}

-- ---- sums

-- a place gives no more than the sum
pub one_place : {A : Type 0} (f : A → ℕ) (xs : List A) (k : ℕ) (x : A) → slice_get xs k ≡ Some x → f x ≤ sum_by f xs
one_place f [] zero x at = absurd (cc)
one_place f [] (suc k) x at = absurd (cc)
one_place f (y ∷ xs) zero x at = let same : y ≡ x = cc in let here : f y ≡ f x = ap f same in omega (arith, here, sum_by-cons f y xs)
one_place f (y ∷ xs) (suc k) x at = omega (arith, sum_by-cons f y xs, one_place f xs k x at)

-- nor do two places together
pub two_places : {A : Type 0} (f : A → ℕ) (xs : List A) (k j : ℕ) (x y : A) → slice_get xs k ≡ Some x → slice_get xs j ≡ Some y → ¬ (k ≡ j) → f x + f y ≤ sum_by f xs
two_places f [] zero j x y at bt apart = absurd (cc)
two_places f [] (suc k) j x y at bt apart = absurd (cc)
two_places f (z ∷ xs) zero zero x y at bt apart = absurd (apart refl)
two_places f (z ∷ xs) zero (suc j) x y at bt apart = let same : z ≡ x = cc in let here : f z ≡ f x = ap f same in omega (arith, here, sum_by-cons f z xs, one_place f xs j y bt)
two_places f (z ∷ xs) (suc k) zero x y at bt apart = let same : z ≡ y = cc in let here : f z ≡ f y = ap f same in omega (arith, here, sum_by-cons f z xs, one_place f xs k x at)
two_places f (z ∷ xs) (suc k) (suc j) x y at bt apart = omega (arith, sum_by-cons f z xs, two_places f xs k j x y at bt (λ e. apart (ap suc e)))

-- what isn't 0 is above it
above : (n : ℕ) → ¬ (n ≡ 0) → 0 < n
above zero e = absurd (e refl)
above (suc n) e = omega arith

-- some place gives something where the sum does
pub record GivesAt {A : Type 0} (f : A → ℕ) (xs : List A) : Type 0 where
  pub place : ℕ
  pub it : A
  pub at : slice_get xs place ≡ Some it
  pub gives : 0 < f it

pub some_place : {A : Type 0} (f : A → ℕ) (xs : List A) → 0 < sum_by f xs → GivesAt f xs
some_place f [] some = absurd (omega (arith, some))
some_place f (x ∷ xs) some = elim (cases_eq (f x) 0) [
  | inl none ↦ let g : GivesAt f xs = some_place f xs (omega (arith, some, none, sum_by-cons f x xs)) in record { place = suc g.place; it = g.it; at = g.at; gives = g.gives }
  | inr more ↦ record { place = 0; it = x; at = refl; gives = above (f x) more }
]

-- nothing is given where no place gives anything
no_place : {A : Type 0} (f : A → ℕ) (xs : List A) → ((j : ℕ) (y : A) → slice_get xs j ≡ Some y → 0 < f y → ⊥) → sum_by f xs ≡ 0
no_place f [] none = refl
no_place f (x ∷ xs) none = elim (cases_eq (f x) 0) [
  | inl here ↦ omega (arith, here, sum_by-cons f x xs, no_place f xs (λ j y at some. none (suc j) y at some))
  | inr more ↦ absurd (none 0 x refl (above (f x) more))
]

-- one is given where one place alone gives one
pub one_alone : {A : Type 0} (f : A → ℕ) (xs : List A) (k : ℕ) (x : A) → slice_get xs k ≡ Some x → f x ≡ 1 → ((j : ℕ) (y : A) → slice_get xs j ≡ Some y → 0 < f y → j ≡ k) → sum_by f xs ≡ 1
one_alone f [] zero x at one alone = absurd (cc)
one_alone f [] (suc k) x at one alone = absurd (cc)
one_alone f (y ∷ xs) zero x at one alone =
    let same : y ≡ x = cc in
    let here : f y ≡ 1 = ap f same ∙ one in
    omega (arith, here, sum_by-cons f y xs, no_place f xs (λ j z bt some. omega (arith, alone (suc j) z bt some)))
one_alone f (y ∷ xs) (suc k) x at one alone = elim (cases_eq (f y) 0) [
  | inl none ↦ omega (arith, none, sum_by-cons f y xs, one_alone f xs k x at one (λ j z bt some. let e : suc j ≡ suc k = alone (suc j) z bt some in omega (arith, e)))
  | inr more ↦ absurd (omega (arith, alone 0 y refl (above (f y) more)))
]

-- what counts passes
pub counts_passing : (b : Bool) → 0 < cond b 1 0 → b ≡ true
counts_passing true some = refl
counts_passing false some = absurd (omega (arith, some))

-- ---- ascending lists

-- ascending numbers of a range are no more than it has
short_range : (a n : ℕ) (xs : List ℕ) → IsAscending xs → ((y : ℕ) → Contains xs y → (a ≤ y) × (y < a + n)) → length xs ≤ n
short_range a n [] up within = omega arith
short_range a n (x ∷ xs) up within =
    let first : (a ≤ x) × (x < a + n) = within x (Contains-head x xs) in
    let rest : length xs ≤ a + n - suc x = short_range (suc x) (a + n - suc x) xs up.1 (λ y c. (up.0 y c, (let w = within y (Contains-cons x y xs c) in omega (arith, w.1, first.1)))) in
    omega (arith, rest, first.0, first.1)

-- as many as it has are all of them
pub full_range : (a n : ℕ) (xs : List ℕ) → IsAscending xs → ((y : ℕ) → Contains xs y → (a ≤ y) × (y < a + n)) → n ≤ length xs → (i : ℕ) → a ≤ i → i < a + n → is_in xs i ≡ true
full_range a n [] up within full i from to = absurd (omega (arith, full, from, to))
full_range a zero (x ∷ xs) up within full i from to = absurd (omega (arith, from, to))
full_range a (suc n) (x ∷ xs) up within full i from to =
    let first : (a ≤ x) × (x < a + suc n) = within x (Contains-head x xs) in
    let begins : a ≡ x = elim (cases_eq a x) [
      | inl e ↦ e
      | inr apart ↦
          let above : (y : ℕ) → Contains (x ∷ xs) y → (suc a ≤ y) × (y < suc a + n) = λ y c. (later (below a x first.0 apart) y c, (let w = within y c in omega (arith, w.1))) in
          let few : length (x ∷ xs) ≤ n = short_range (suc a) n (x ∷ xs) up above in
          absurd (omega (arith, few, full))
    ] in
    elim (cases_eq x i) [
      | inl e ↦ in_head_as x i xs e
      | inr other ↦ in_tail x i xs (full_range (suc a) n xs up.1 (λ y c. (omega (arith, up.0 y c, begins), (let w = within y (Contains-cons x y xs c) in omega (arith, w.1)))) (omega (arith, full)) i (below a i from (λ e. other (sym begins ∙ e))) (omega (arith, to)))
    ]
  where
    later : a < x → (y : ℕ) → Contains (x ∷ xs) y → suc a ≤ y
    later less y c = elim (Contains-cases x y xs c) [ inl same ↦ omega (arith, less, same) | inr there ↦ omega (arith, less, up.0 y there) ]
