-- Members of lists, of lists end to end, and of the parts below a bound.
use Rattle.std.proofs.Common.{◌≡◌, ℕ, zero, suc, ◌+◌, ◌<◌, ◌≤◌, ◌⊎◌, inl, inr, List, [], ◌∷◌, ◌++◌, refl, ◌∙◌, ap, subst, arith}
use Rattle.std.specs.Prelude.{Bool, true, false, ◌||◌, nat_eq, Contains, map, ◌&&◌}
use Rattle.std.specs.List.{range_with_len, list_all, list_any}
use Rattle.std.proofs.lemmas.Bool.{eqb-true, eq-eqb, cases_lt, or_left, or_right}
use Rattle.std.proofs.lemmas.List.Elements.{Contains-append_left, Contains-append_right, Contains-append_cases}
use Rattle.std.proofs.lemmas.List.Folds.{list_any-append}
use Rattle.qx_geom.specs.Lists.{each_below, is_in, parts_below}

-- a member is the head or one of the rest
pub Contains-cases : {A : Type 0} (x y : A) (xs : List A) → Contains (x ∷ xs) y → (x ≡ y) ⊎ Contains xs y
Contains-cases x y xs (zero, below, is) = inl is
Contains-cases x y xs (suc k, below, is) = inr (k, omega arith, is)

-- a member of the rest is one
pub Contains-cons : {A : Type 0} (x y : A) (xs : List A) → Contains xs y → Contains (x ∷ xs) y
Contains-cons x y xs c = Contains-append_right (x ∷ []) xs y c

-- the head is a member
pub Contains-head : {A : Type 0} (x : A) (xs : List A) → Contains (x ∷ xs) x
Contains-head x xs = (0, omega arith, refl)

-- an element of a part is one of the whole
pub Contains-parts : {A : Type 0} (n : ℕ) (f : ℕ → List A) (k : ℕ) (x : A) → k < n → Contains (f k) x → Contains (parts_below n f) x
Contains-parts zero f k x h c = absurd (omega arith)
Contains-parts (suc n) f k x h c =
    elim (cases_lt k n) [
      | inl below ↦ Contains-append_left (parts_below n f) (f n) x (Contains-parts n f k x below c)
      | inr up ↦ let is : k ≡ n = omega arith in Contains-append_right (parts_below n f) (f n) x (subst (λ j. Contains (f j) x) is c)
    ]

-- and an element of the whole is one of a part
pub parts-Contains : {A : Type 0} (n : ℕ) (f : ℕ → List A) (x : A) → Contains (parts_below n f) x → (k : ℕ) × (k < n) × Contains (f k) x
parts-Contains zero f x c = absurd (omega (arith, c.1))
parts-Contains (suc n) f x c =
    elim (Contains-append_cases (parts_below n f) (f n) x c) [
      | inl below ↦ let r = parts-Contains n f x below in (r.0, omega arith, r.2)
      | inr last ↦ (n, omega arith, last)
    ]

-- parts that are alike make lists that are alike
pub parts_alike : {A : Type 0} (n : ℕ) (f g : ℕ → List A) → ((k : ℕ) → k < n → f k ≡ g k) → parts_below n f ≡ parts_below n g
parts_alike zero f g same = refl
parts_alike (suc n) f g same = λ i. parts_alike n f g (λ k h. same k (omega arith)) i ++ same n (omega arith) i

-- lists of what two functions give below n, where these are alike
range_alike : {A : Type 0} (f g : ℕ → A) (a n : ℕ) → ((k : ℕ) → a ≤ k → k < a + n → f k ≡ g k) → map f (range_with_len a n) ≡ map g (range_with_len a n)
range_alike f g a zero same = refl
range_alike f g a (suc n) same = λ i. same a (omega arith) (omega arith) i ∷ range_alike f g (a + 1) n (λ k low high. same k (omega arith) (omega arith)) i

-- and below a bound
pub each_alike : {A : Type 0} (n : ℕ) (f g : ℕ → A) → ((k : ℕ) → k < n → f k ≡ g k) → each_below n f ≡ each_below n g
each_alike n f g same = range_alike f g 0 n (λ k low high. same k (omega arith))

-- the head is in the list
pub in_head : (x : ℕ) (l : List ℕ) → is_in (x ∷ l) x ≡ true
in_head x l = ap (λ b. b || is_in l x) (eq-eqb x x refl)

-- what is in the rest is
pub in_tail : (x k : ℕ) (l : List ℕ) → is_in l k ≡ true → is_in (x ∷ l) k ≡ true
in_tail x k l h = or_right (nat_eq x k) (is_in l k) h

-- what is in the list is the head or in the rest
pub in_cases : (x k : ℕ) (l : List ℕ) → is_in (x ∷ l) k ≡ true → (x ≡ k) ⊎ (is_in l k ≡ true)
in_cases x k l h = go (nat_eq x k) refl h
  where
    go : (b : Bool) → nat_eq x k ≡ b → (b || is_in l k) ≡ true → (x ≡ k) ⊎ (is_in l k ≡ true)
    go true e h = inl (eqb-true x k e)
    go false e h = inr h

-- what is in the first of two lists
pub in_left : (xs ys : List ℕ) (k : ℕ) → is_in xs k ≡ true → is_in (xs ++ ys) k ≡ true
in_left [] ys k h = absurd (cc)
in_left (x ∷ xs) ys k h =
    elim (in_cases x k xs h) [
      | inl is ↦ subst (λ z. is_in (x ∷ xs ++ ys) z ≡ true) is (in_head x (xs ++ ys))
      | inr rest ↦ in_tail x k (xs ++ ys) (in_left xs ys k rest)
    ]

-- what is in the second
pub in_right : (xs ys : List ℕ) (k : ℕ) → is_in ys k ≡ true → is_in (xs ++ ys) k ≡ true
in_right [] ys k h = h
in_right (x ∷ xs) ys k h = in_tail x k (xs ++ ys) (in_right xs ys k h)

-- what is in two lists end to end is in one
pub in_append_cases : (xs ys : List ℕ) (k : ℕ) → is_in (xs ++ ys) k ≡ true → (is_in xs k ≡ true) ⊎ (is_in ys k ≡ true)
in_append_cases [] ys k h = inr h
in_append_cases (x ∷ xs) ys k h =
    elim (in_cases x k (xs ++ ys) h) [
      | inl is ↦ inl (subst (λ z. is_in (x ∷ xs) z ≡ true) is (in_head x xs))
      | inr r ↦ elim (in_append_cases xs ys k r) [ inl a ↦ inl (in_tail x k xs a) | inr b ↦ inr b ]
    ]

-- so it is in two lists end to end where it is in one
pub is_in-append : (xs ys : List ℕ) (b : ℕ) → is_in (xs ++ ys) b ≡ (is_in xs b || is_in ys b)
is_in-append xs ys b = list_any-append (λ y. nat_eq y b) xs ys

-- ---- tests of members

-- a test that a member passes passes somewhere
pub Contains-any : {A : Type 0} (test : A → Bool) (xs : List A) (x : A) → Contains xs x → test x ≡ true → list_any test xs ≡ true
Contains-any test [] x c t = absurd (omega (arith, c.1))
Contains-any test (y ∷ ys) x c t = elim (Contains-cases y x ys c) [
  | inl is ↦ or_left (test y) (list_any test ys) (ap test is ∙ t)
  | inr later ↦ or_right (test y) (list_any test ys) (Contains-any test ys x later t)
]

-- where a test passes in a list, it does at a member
pub any-Contains : {A : Type 0} (test : A → Bool) (xs : List A) → list_any test xs ≡ true → (x : A) × Contains xs x × (test x ≡ true)
any-Contains test [] h = absurd (cc)
any-Contains {A = A} test (x ∷ xs) h = go (test x) refl h (any-Contains test xs)
  where
    go : (b : Bool) → test x ≡ b → (b || list_any test xs) ≡ true → (list_any test xs ≡ true → (y : A) × Contains xs y × (test y ≡ true)) → (y : A) × Contains (x ∷ xs) y × (test y ≡ true)
    go true e h more = (x, Contains-head x xs, e)
    go false e h more = let r : (y : A) × Contains xs y × (test y ≡ true) = more h in (r.0, Contains-cons x r.0 xs r.1, r.2)

-- what each number of a range passes, all pass
all_range : (p : ℕ → Bool) (a n : ℕ) → ((k : ℕ) → a ≤ k → k < a + n → p k ≡ true) → list_all p (map (λ j. j) (range_with_len a n)) ≡ true
all_range p a zero each = refl
all_range p a (suc n) each = λ i. each a (omega arith) (omega arith) i && all_range p (a + 1) n (λ k low high. each k (omega arith) (omega arith)) i

-- so do all below a bound
pub all_below : (p : ℕ → Bool) (n : ℕ) → ((k : ℕ) → k < n → p k ≡ true) → list_all p (each_below n (λ j. j)) ≡ true
all_below p n each = all_range p 0 n (λ k low high. each k (omega arith))
