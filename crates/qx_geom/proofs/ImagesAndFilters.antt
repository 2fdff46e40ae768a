-- Members of lists that are made of others: images, filters, lists that have each number once.
use Rattle.std.proofs.Common.{◌≡◌, ℕ, ◌⊎◌, inl, inr, List, [], ◌∷◌, refl, sym, ◌∙◌, ap, subst, arith}
use Rattle.std.specs.Prelude.{Bool, true, false, ◌||◌, ◌==◌, cond, if◌then◌else◌, Contains, map, filter}
use Rattle.std.specs.List.{list_any}
use Rattle.std.proofs.lemmas.Bool.{eqb-true, eq-eqb}
use Rattle.qx_geom.proofs.Members.{Contains-cases, Contains-cons, Contains-head, in_cases, in_head, in_tail}
use Rattle.qx_geom.specs.Lists.{is_in}
use Rattle.qx_geom.specs.Positions.{each_once, once_after}

-- the head by another name
pub in_head_as : (x j : ℕ) (xs : List ℕ) → x ≡ j → is_in (x ∷ xs) j ≡ true
in_head_as x j xs is = subst (λ z. is_in (x ∷ xs) z ≡ true) is (in_head x xs)

-- what is in a list is a member
pub Contains-in : (xs : List ℕ) (i : ℕ) → is_in xs i ≡ true → Contains xs i
Contains-in [] i h = absurd (cc)
Contains-in (x ∷ xs) i h = elim (in_cases x i xs h) [ inl is ↦ subst (λ z. Contains (x ∷ xs) z) is (Contains-head x xs) | inr there ↦ Contains-cons x i xs (Contains-in xs i there) ]

-- a member is in the list
pub in_Contains : (xs : List ℕ) (i : ℕ) → Contains xs i → is_in xs i ≡ true
in_Contains [] i c = absurd (omega (arith, c.1))
in_Contains (x ∷ xs) i c = elim (Contains-cases x i xs c) [ inl is ↦ in_head_as x i xs is | inr there ↦ in_tail x i xs (in_Contains xs i there) ]

-- ---- images

-- the image of what is in a list
pub in_image : (f : ℕ → ℕ) (xs : List ℕ) (i : ℕ) → is_in xs i ≡ true → is_in (map f xs) (f i) ≡ true
in_image f [] i h = absurd (cc)
in_image f (x ∷ xs) i h = elim (in_cases x i xs h) [ inl is ↦ in_head_as (f x) (f i) (map f xs) (ap f is) | inr there ↦ in_tail (f x) (f i) (map f xs) (in_image f xs i there) ]

-- what is in the image is the image of something
pub image_in : (f : ℕ → ℕ) (xs : List ℕ) (j : ℕ) → is_in (map f xs) j ≡ true → (i : ℕ) × (is_in xs i ≡ true) × (f i ≡ j)
image_in f [] j h = absurd (cc)
image_in f (x ∷ xs) j h = elim (in_cases (f x) j (map f xs) h) [
  | inl is ↦ (x, in_head x xs, is)
  | inr there ↦ let r : (i : ℕ) × (is_in xs i ≡ true) × (f i ≡ j) = image_in f xs j there in (r.0, in_tail x r.0 xs r.1, r.2)
]

-- a member of the image is the image of a member
pub Contains-image : {X A : Type 0} (f : X → A) (xs : List X) (y : A) → Contains (map f xs) y → (x : X) × Contains xs x × (f x ≡ y)
Contains-image f [] y c = absurd (omega (arith, c.1))
Contains-image f (x ∷ xs) y c = elim (Contains-cases (f x) y (map f xs) c) [
  | inl is ↦ (x, Contains-head x xs, is)
  | inr there ↦ let r = Contains-image f xs y there in (r.0, Contains-cons x r.0 xs r.1, r.2)
]

-- where a number of a list has this image, some number has
pub any_image : (f : ℕ → ℕ) (j : ℕ) (xs : List ℕ) (i : ℕ) → is_in xs i ≡ true → f i ≡ j → list_any (λ i. f i == j) xs ≡ true
any_image f j [] i h e = absurd (cc)
any_image f j (x ∷ xs) i h e = elim (in_cases x i xs h) [
  | inl is ↦ ap (λ b. b || list_any (λ i. f i == j) xs) (eq-eqb (f x) j (ap f is ∙ e))
  | inr there ↦ or_later (f x == j) (any_image f j xs i there e)
]
  where
    or_later : (b : Bool) → list_any (λ i. f i == j) xs ≡ true → (b || list_any (λ i. f i == j) xs) ≡ true
    or_later true h = refl
    or_later false h = h

-- and where some number has, one of the list has
pub image_any : (f : ℕ → ℕ) (j : ℕ) (xs : List ℕ) → list_any (λ i. f i == j) xs ≡ true → (i : ℕ) × (is_in xs i ≡ true) × (f i ≡ j)
image_any f j [] h = absurd (cc)
image_any f j (x ∷ xs) h = go (f x == j) refl h (image_any f j xs)
  where
    go : (b : Bool) → (f x == j) ≡ b → (b || list_any (λ i. f i == j) xs) ≡ true → (list_any (λ i. f i == j) xs ≡ true → (i : ℕ) × (is_in xs i ≡ true) × (f i ≡ j)) → (i : ℕ) × (is_in (x ∷ xs) i ≡ true) × (f i ≡ j)
    go true e h more = (x, in_head x xs, eqb-true (f x) j e)
    go false e h more = let r : (i : ℕ) × (is_in xs i ≡ true) × (f i ≡ j) = more h in (r.0, in_tail x r.0 xs r.1, r.2)

-- ---- filters

-- what is in a list and passes the test
pub in_filter : (test : ℕ → Bool) (xs : List ℕ) (i : ℕ) → is_in xs i ≡ true → test i ≡ true → is_in (filter test xs) i ≡ true
in_filter test [] i h t = absurd (cc)
in_filter test (x ∷ xs) i h t = elim (in_cases x i xs h) [
  | inl is ↦ subst (λ b. is_in (cond b (x ∷ filter test xs) (filter test xs)) i ≡ true) (sym (ap test is ∙ t)) (in_head_as x i (filter test xs) is)
  | inr there ↦ go (test x) (in_filter test xs i there t)
]
  where
    go : (b : Bool) → is_in (filter test xs) i ≡ true → is_in (cond b (x ∷ filter test xs) (filter test xs)) i ≡ true
    go true h = in_tail x i (filter test xs) h
    go false h = h

-- what a filter leaves is in the list, and passes the test
pub filter_in : (test : ℕ → Bool) (xs : List ℕ) (i : ℕ) → is_in (filter test xs) i ≡ true → (is_in xs i ≡ true) × (test i ≡ true)
filter_in test [] i h = absurd (cc)
filter_in test (x ∷ xs) i h = go (test x) refl h (filter_in test xs i)
  where
    later : (is_in xs i ≡ true) × (test i ≡ true) → (is_in (x ∷ xs) i ≡ true) × (test i ≡ true)
    later r = (in_tail x i xs r.0, r.1)

    go : (b : Bool) → test x ≡ b → is_in (cond b (x ∷ filter test xs) (filter test xs)) i ≡ true → (is_in (filter test xs) i ≡ true → (is_in xs i ≡ true) × (test i ≡ true)) → (is_in (x ∷ xs) i ≡ true) × (test i ≡ true)
    go true e h more = elim (in_cases x i (filter test xs) h) [ inl is ↦ (in_head_as x i xs is, subst (λ z. test z ≡ true) is e) | inr there ↦ later (more there) ]
    go false e h more = later (more h)

-- a filter that no number fails leaves the list
pub filter_all : (test : ℕ → Bool) (xs : List ℕ) → ((i : ℕ) → is_in xs i ≡ true → test i ≡ true) → filter test xs ≡ xs
filter_all test [] h = refl
filter_all test (x ∷ xs) h = ap (λ b. cond b (x ∷ filter test xs) (filter test xs)) (h x (in_head x xs)) ∙ ap (λ ys. x ∷ ys) (filter_all test xs (λ i m. h i (in_tail x i xs m)))

-- a filter that no number passes leaves nothing
pub filter_none : (test : ℕ → Bool) (xs : List ℕ) → ((i : ℕ) → is_in xs i ≡ true → test i ≡ false) → filter test xs ≡ []
filter_none test [] h = refl
filter_none test (x ∷ xs) h = ap (λ b. cond b (x ∷ filter test xs) (filter test xs)) (h x (in_head x xs)) ∙ filter_none test xs (λ i m. h i (in_tail x i xs m))

-- ---- each number once

-- doubles that are left out stand in the list
once_in : (x : ℕ) (xs : List ℕ) (j : ℕ) → is_in (x ∷ xs) j ≡ true → is_in (x ∷ once_after x xs) j ≡ true
once_in x [] j h = h
once_in x (y ∷ ys) j h = go (x == y) refl (in_cases x j (y ∷ ys) h) (once_in x ys j) (once_in y ys j)
  where
    go : (b : Bool) → (x == y) ≡ b → (x ≡ j) ⊎ (is_in (y ∷ ys) j ≡ true) → (is_in (x ∷ ys) j ≡ true → is_in (x ∷ once_after x ys) j ≡ true) → (is_in (y ∷ ys) j ≡ true → is_in (y ∷ once_after y ys) j ≡ true)
        → is_in (x ∷ (if b then once_after x ys else y ∷ once_after y ys)) j ≡ true
    go b e (inl is) same more = in_head_as x j (if b then once_after x ys else y ∷ once_after y ys) is
    go true e (inr there) same more = elim (in_cases y j ys there) [ inl is ↦ in_head_as x j (once_after x ys) (eqb-true x y e ∙ is) | inr later ↦ same (in_tail x j ys later) ]
    go false e (inr there) same more = in_tail x j (y ∷ once_after y ys) (more there)

-- and nothing comes in
once_from : (x : ℕ) (xs : List ℕ) (j : ℕ) → is_in (x ∷ once_after x xs) j ≡ true → is_in (x ∷ xs) j ≡ true
once_from x [] j h = h
once_from x (y ∷ ys) j h = go (x == y) h (once_from x ys j) (once_from y ys j)
  where
    go : (b : Bool) → is_in (x ∷ (if b then once_after x ys else y ∷ once_after y ys)) j ≡ true → (is_in (x ∷ once_after x ys) j ≡ true → is_in (x ∷ ys) j ≡ true) → (is_in (y ∷ once_after y ys) j ≡ true → is_in (y ∷ ys) j ≡ true)
        → is_in (x ∷ y ∷ ys) j ≡ true
    go true h same more = elim (in_cases x j ys (same h)) [ inl is ↦ in_head_as x j (y ∷ ys) is | inr later ↦ in_tail x j (y ∷ ys) (in_tail y j ys later) ]
    go false h same more = elim (in_cases x j (y ∷ once_after y ys) h) [ inl is ↦ in_head_as x j (y ∷ ys) is | inr there ↦ in_tail x j (y ∷ ys) (more there) ]

-- a list with each number once has the numbers of the list
pub each_once_in : (xs : List ℕ) (j : ℕ) → is_in xs j ≡ true → is_in (each_once xs) j ≡ true
each_once_in [] j h = h
each_once_in (x ∷ xs) j h = once_in x xs j h

-- and no others
pub each_once_from : (xs : List ℕ) (j : ℕ) → is_in (each_once xs) j ≡ true → is_in xs j ≡ true
each_once_from [] j h = h
each_once_from (x ∷ xs) j h = once_from x xs j h
