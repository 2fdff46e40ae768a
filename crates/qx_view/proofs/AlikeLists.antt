-- What a list's members say of the list: functions that are alike on them, and tests that they pass.
use Rattle.std.proofs.Common.{◌≡◌, inl, inr, ℕ, zero, suc, ◌+◌, ◌≤◌, ◌<◌, List, [], ◌∷◌, ◌++◌, refl, ap, sym, ◌∙◌, subst, arith}
use Rattle.std.specs.Prelude.{Bool, true, false, Option, Some, map, filter, flat_map, filter_map, Contains, cond, if◌then◌else◌, ◌&&◌, ◌||◌}
use Rattle.std.specs.List.{range_with_len, find, list_any, list_all, cons_option}
use Rattle.std.proofs.lemmas.Bool.{cases_lt}
use Rattle.std.proofs.lemmas.List.Elements.{Contains-append_cases, Contains-append_left, Contains-append_right}
use Rattle.qx_geom.proofs.Members.{Contains-cases, Contains-cons, Contains-head}
use Rattle.qx_geom.proofs.Truths.{and_left, and_right}
use Rattle.qx_geom.specs.Lists.{each_below, first_below}

-- ---- the numbers below a bound

-- a member of a range lies in it
range_members : (a n k : ℕ) → Contains (map (λ j. j) (range_with_len a n)) k → (a ≤ k) × (k < a + n)
range_members a zero k c = absurd (omega (arith, c.1))
range_members a (suc n) k c = elim (Contains-cases a k (map (λ j. j) (range_with_len (a + 1) n)) c) [
  | inl here ↦ (omega arith, omega arith)
  | inr there ↦ let r : (a + 1 ≤ k) × (k < a + 1 + n) = range_members (a + 1) n k there in (omega arith, omega arith)
]

-- so the members of the numbers below n lie below n
pub below_members : (n k : ℕ) → Contains (each_below n (λ j. j)) k → k < n
below_members n k c = let r : (0 ≤ k) × (k < 0 + n) = range_members 0 n k c in omega arith

-- what all numbers of a range pass, each passes
range_all : (p : ℕ → Bool) (a n k : ℕ) → list_all p (map (λ j. j) (range_with_len a n)) ≡ true → a ≤ k → k < a + n → p k ≡ true
range_all p a zero k e low high = absurd (omega arith)
range_all p a (suc n) k e low high = elim (cases_lt a k) [
  | inl above ↦ range_all p (a + 1) n k (and_right (p a) _ e) (omega arith) (omega arith)
  | inr same ↦ let here : k ≡ a = omega arith in ap p here ∙ and_left (p a) _ e
]

-- what all numbers below n pass, each passes
pub below_all : (p : ℕ → Bool) (n k : ℕ) → list_all p (each_below n (λ j. j)) ≡ true → k < n → p k ≡ true
below_all p n k e low = range_all p 0 n k e (omega arith) (omega arith)

-- ---- functions that are alike on the members

-- the lists that they give, end to end
pub flat_map_alike : {X A : Type 0} (f g : X → List A) (xs : List X) → ((x : X) → Contains xs x → f x ≡ g x) → flat_map f xs ≡ flat_map g xs
flat_map_alike f g [] same = refl
flat_map_alike f g (x ∷ xs) same = λ i. same x (Contains-head x xs) i ++ flat_map_alike f g xs (λ y c. same y (Contains-cons x y xs c)) i

-- what they give, where they give something
pub filter_map_alike : {X A : Type 0} (f g : X → Option A) (xs : List X) → ((x : X) → Contains xs x → f x ≡ g x) → filter_map f xs ≡ filter_map g xs
filter_map_alike f g [] same = refl
filter_map_alike f g (x ∷ xs) same = λ i. cons_option (same x (Contains-head x xs) i) (filter_map_alike f g xs (λ y c. same y (Contains-cons x y xs c)) i)

-- what passes them
pub filter_alike : {X : Type 0} (p q : X → Bool) (xs : List X) → ((x : X) → Contains xs x → p x ≡ q x) → filter p xs ≡ filter q xs
filter_alike p q [] same = refl
filter_alike p q (x ∷ xs) same = λ i. cond (same x (Contains-head x xs) i) (x ∷ filter_alike p q xs (λ y c. same y (Contains-cons x y xs c)) i) (filter_alike p q xs (λ y c. same y (Contains-cons x y xs c)) i)

-- what they give
pub map_alike : {X A : Type 0} (f g : X → A) (xs : List X) → ((x : X) → Contains xs x → f x ≡ g x) → map f xs ≡ map g xs
map_alike f g [] same = refl
map_alike f g (x ∷ xs) same = λ i. same x (Contains-head x xs) i ∷ map_alike f g xs (λ y c. same y (Contains-cons x y xs c)) i

-- whether some member passes
pub any_alike : {X : Type 0} (p q : X → Bool) (xs : List X) → ((x : X) → Contains xs x → p x ≡ q x) → list_any p xs ≡ list_any q xs
any_alike p q [] same = refl
any_alike p q (x ∷ xs) same = λ i. same x (Contains-head x xs) i || any_alike p q xs (λ y c. same y (Contains-cons x y xs c)) i

-- whether all members pass
pub all_alike : {X : Type 0} (p q : X → Bool) (xs : List X) → ((x : X) → Contains xs x → p x ≡ q x) → list_all p xs ≡ list_all q xs
all_alike p q [] same = refl
all_alike p q (x ∷ xs) same = λ i. same x (Contains-head x xs) i && all_alike p q xs (λ y c. same y (Contains-cons x y xs c)) i

-- the first number of a range that passes
from_alike : (p q : ℕ → Bool) (at n : ℕ) → ((k : ℕ) → at ≤ k → k < at + n → p k ≡ q k) → find p (range_with_len at n) ≡ find q (range_with_len at n)
from_alike p q at zero same = refl
from_alike p q at (suc n) same = λ i. if same at (omega arith) (omega arith) i then Some at else from_alike p q (at + 1) n (λ k low high. same k (omega arith) (omega arith)) i

-- the first number below n that passes
pub first_alike : (p q : ℕ → Bool) (n : ℕ) → ((k : ℕ) → k < n → p k ≡ q k) → first_below p n ≡ first_below q n
first_alike p q n same = from_alike p q 0 n (λ k low high. same k (omega arith))

-- ---- members of what is made of a list

-- what a filter leaves is a member, and passes
pub filter_members : {X : Type 0} (p : X → Bool) (xs : List X) (y : X) → Contains (filter p xs) y → Contains xs y × (p y ≡ true)
filter_members p [] y c = absurd (omega (arith, c.1))
filter_members p (x ∷ xs) y c = go (p x) refl c (λ d. filter_members p xs y d)
  where
    go : (b : Bool) → p x ≡ b → Contains (cond b (x ∷ filter p xs) (filter p xs)) y → (Contains (filter p xs) y → Contains xs y × (p y ≡ true)) → Contains (x ∷ xs) y × (p y ≡ true)
    go true e c more = elim (Contains-cases x y (filter p xs) c) [
      | inl here ↦ (subst (λ z. Contains (x ∷ xs) z) here (Contains-head x xs), ap p (sym here) ∙ e)
      | inr there ↦ let r : Contains xs y × (p y ≡ true) = more there in (Contains-cons x y xs r.0, r.1)
    ]
    go false e c more = let r : Contains xs y × (p y ≡ true) = more c in (Contains-cons x y xs r.0, r.1)

-- a member that passes is left
pub members_filter : {X : Type 0} (p : X → Bool) (xs : List X) (x : X) → Contains xs x → p x ≡ true → Contains (filter p xs) x
members_filter p [] x c e = absurd (omega (arith, c.1))
members_filter p (y ∷ ys) x c e = elim (Contains-cases y x ys c) [
  | inl here ↦ subst (λ z. Contains (filter p (y ∷ ys)) z) here (first (p y) (ap p here ∙ e))
  | inr there ↦ later (p y) (members_filter p ys x there e)
]
  where
    first : (b : Bool) → b ≡ true → Contains (cond b (y ∷ filter p ys) (filter p ys)) y
    first true h = Contains-head y (filter p ys)
    first false h = absurd (cc)

    later : (b : Bool) → Contains (filter p ys) x → Contains (cond b (y ∷ filter p ys) (filter p ys)) x
    later true c = Contains-cons y x (filter p ys) c
    later false c = c

-- and the image of a member is one of the image
pub members_map : {X A : Type 0} (f : X → A) (xs : List X) (x : X) → Contains xs x → Contains (map f xs) (f x)
members_map f [] x c = absurd (omega (arith, c.1))
members_map f (y ∷ ys) x c = elim (Contains-cases y x ys c) [
  | inl here ↦ subst (λ z. Contains (map f (y ∷ ys)) (f z)) here (Contains-head (f y) (map f ys))
  | inr there ↦ Contains-cons (f y) (f x) (map f ys) (members_map f ys x there)
]

-- a member of a part is one of the parts end to end
pub members_flat_map : {X A : Type 0} (f : X → List A) (xs : List X) (x : X) (a : A) → Contains xs x → Contains (f x) a → Contains (flat_map f xs) a
members_flat_map f [] x a c d = absurd (omega (arith, c.1))
members_flat_map f (y ∷ ys) x a c d = elim (Contains-cases y x ys c) [
  | inl here ↦ Contains-append_left (f y) (flat_map f ys) a (subst (λ z. Contains (f z) a) (sym here) d)
  | inr there ↦ Contains-append_right (f y) (flat_map f ys) a (members_flat_map f ys x a there d)
]

-- what all pass, a member passes
pub member_passes : {X : Type 0} (p : X → Bool) (xs : List X) (x : X) → list_all p xs ≡ true → Contains xs x → p x ≡ true
member_passes p [] x e c = absurd (omega (arith, c.1))
member_passes p (y ∷ ys) x e c = elim (Contains-cases y x ys c) [
  | inl here ↦ ap p (sym here) ∙ and_left (p y) (list_all p ys) e
  | inr there ↦ member_passes p ys x (and_right (p y) (list_all p ys) e) there
]

-- and a member of the parts end to end is one of a part
pub flat_map_members : {X A : Type 0} (f : X → List A) (xs : List X) (a : A) → Contains (flat_map f xs) a → (x : X) × Contains xs x × Contains (f x) a
flat_map_members f [] a c = absurd (omega (arith, c.1))
flat_map_members f (x ∷ xs) a c = elim (Contains-append_cases (f x) (flat_map f xs) a c) [
  | inl here ↦ (x, Contains-head x xs, here)
  | inr there ↦ let r = flat_map_members f xs a there in (r.0, Contains-cons x r.0 xs r.1, r.2)
]
