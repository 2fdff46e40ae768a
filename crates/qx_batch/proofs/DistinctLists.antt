-- Lists without doubles: as long as others that have the same members, and what passes a test counted alike.
use Rattle.std.proofs.Common.{◌≡◌, ℕ, ◌+◌, ◌≤◌, List, [], ◌∷◌, length, inl, inr, refl, sym, ◌∙◌, ap, subst, arith}
use Rattle.std.specs.Prelude.{Bool, true, false, map, filter, nat_eq, count_by, if◌then◌else◌, Contains}
use Rattle.std.specs.List.{AllByRecursion, IsDistinct, list_any}
use Rattle.std.specs.Set.{is_member}
use Rattle.std.proofs.lemmas.Cmp.{nat_eq_equiv}
use Rattle.std.proofs.lemmas.List.{length-map}
use Rattle.std.proofs.lemmas.List.Sums.{length-filter, sum_by-cons}
use Rattle.std.proofs.lemmas.Map.Made.{length-le_from_is_member}
use Rattle.std.proofs.lemmas.Bool.{ne_eqb}
use Rattle.qx_geom.specs.Lists.{Distinct, is_in}
use Rattle.qx_geom.proofs.ImagesAndFilters.{Contains-image, Contains-in, in_Contains}
use Rattle.qx_geom.proofs.Members.{Contains-cases, Contains-cons, Contains-head}
use Rattle.qx_geom.proofs.Truths.{true_or_false}

-- ---- lists without doubles

-- numbers that stand once, in std's words
keys : (xs : List ℕ) → Distinct xs → IsDistinct nat_eq xs
unfolding IsDistinct
keys [] d = tt
keys (x ∷ xs) d = (others xs d.0, keys xs d.1)
  where
    others : (ys : List ℕ) → (Contains ys x → ⊥) → AllByRecursion (λ y. nat_eq x y ≡ false) ys
    others [] none = tt
    others (y ∷ ys) none = (ne_eqb x y (λ e. none (subst (Contains (y ∷ ys)) (sym e) (Contains-head y ys))), others ys (λ c. none (Contains-cons y x ys c)))

-- so is a member
member_is : (xs : List ℕ) (q : ℕ) → is_member nat_eq xs q ≡ is_in xs q
member_is xs q = λ i. list_any (λ y. nat_eq_equiv.symm q y i) xs

-- numbers that stand once and are others are no more than these
pub length_within : (xs ys : List ℕ) → Distinct xs → ((q : ℕ) → Contains xs q → Contains ys q) → length xs ≤ length ys
length_within xs ys d within =
    length-le_from_is_member nat_eq_equiv xs ys (keys xs d) (λ q h. member_is ys q ∙ in_Contains ys q (within q (Contains-in xs q (sym (member_is xs q) ∙ h))))

-- two lists without doubles that have the same members are as long
pub length_same : (xs ys : List ℕ) → Distinct xs → Distinct ys → ((q : ℕ) → Contains xs q → Contains ys q) → ((q : ℕ) → Contains ys q → Contains xs q) → length xs ≡ length ys
length_same xs ys d e there back =
    let most : length xs ≤ length ys = length_within xs ys d there in
    let least : length ys ≤ length xs = length_within ys xs e back in
    omega arith

-- ---- what passes a test

-- what passes is in the list
pub Contains-filter : {A : Type 0} (test : A → Bool) (xs : List A) (x : A) → Contains (filter test xs) x → Contains xs x × (test x ≡ true)
Contains-filter test [] x c = absurd (omega (arith, c.1))
Contains-filter test (y ∷ ys) x c = elim (test y) as (λ t. test y ≡ t → Contains (if t then y ∷ filter test ys else filter test ys) x → Contains (y ∷ ys) x × (test x ≡ true)) [
  | true ↦ λ e h. elim (Contains-cases y x (filter test ys) h) [
    | inl is ↦ (subst (Contains (y ∷ ys)) is (Contains-head y ys), ap test (sym is) ∙ e)
    | inr later ↦ let r = Contains-filter test ys x later in (Contains-cons y x ys r.0, r.1)
  ]
  | false ↦ λ e h. let r = Contains-filter test ys x h in (Contains-cons y x ys r.0, r.1)
] refl c

-- and what is in the list and passes
pub filter-Contains : {A : Type 0} (test : A → Bool) (xs : List A) (x : A) → Contains xs x → test x ≡ true → Contains (filter test xs) x
filter-Contains test [] x c h = absurd (omega (arith, c.1))
filter-Contains test (y ∷ ys) x c h = elim (test y) as (λ t. test y ≡ t → Contains (if t then y ∷ filter test ys else filter test ys) x) [
  | true ↦ λ e. elim (Contains-cases y x ys c) [
    | inl is ↦ subst (Contains (y ∷ filter test ys)) is (Contains-head y (filter test ys))
    | inr later ↦ Contains-cons y x (filter test ys) (filter-Contains test ys x later h)
  ]
  | false ↦ λ e. elim (Contains-cases y x ys c) [
    | inl is ↦ absurd (true_or_false (test y) (ap test is ∙ h) e)
    | inr later ↦ filter-Contains test ys x later h
  ]
] refl

-- no element of what passes stands twice, where none does
pub Distinct-filter : {A : Type 0} (test : A → Bool) (xs : List A) → Distinct xs → Distinct (filter test xs)
Distinct-filter test [] d = tt
Distinct-filter test (y ∷ ys) d = elim (test y) as (λ t. Distinct (if t then y ∷ filter test ys else filter test ys)) [
  | true ↦ (λ c. d.0 (Contains-filter test ys y c).0, Distinct-filter test ys d.1)
  | false ↦ Distinct-filter test ys d.1
]

-- an element's image is in the image
pub image-Contains : {X A : Type 0} (f : X → A) (xs : List X) (x : X) → Contains xs x → Contains (map f xs) (f x)
image-Contains f [] x c = absurd (omega (arith, c.1))
image-Contains f (y ∷ ys) x c = elim (Contains-cases y x ys c) [
  | inl is ↦ subst (λ z. Contains (f y ∷ map f ys) (f z)) is (Contains-head (f y) (map f ys))
  | inr later ↦ Contains-cons (f y) (f x) (map f ys) (image-Contains f ys x later)
]

-- no image stands twice, where elements with one image are one
pub image-Distinct : {X A : Type 0} (f : X → A) (xs : List X) → Distinct xs → ((x y : X) → Contains xs x → Contains xs y → f x ≡ f y → x ≡ y) → Distinct (map f xs)
image-Distinct f [] d same = tt
image-Distinct {X = X} f (x ∷ xs) d same = (
  λ c. let at = Contains-image f xs (f x) c in
      d.0 (subst (Contains xs) (same at.0 x (Contains-cons x at.0 xs at.1) (Contains-head x xs) at.2) at.1),
  image-Distinct f xs d.1 (λ y z c e. same y z (Contains-cons x y xs c) (Contains-cons x z xs e)),
)

-- the numbers of one list that pass are as many as the elements of another, each with its own number, that pass there
pub count_same : {X : Type 0} (f : X → ℕ) (p : ℕ → Bool) (q : X → Bool) (ns : List ℕ) (xs : List X) → Distinct ns → Distinct xs → ((x y : X) → Contains xs x → Contains xs y → f x ≡ f y → x ≡ y)
    → ((n : ℕ) → Contains ns n → p n ≡ true → (x : X) × Contains xs x × (f x ≡ n) × (q x ≡ true)) → ((x : X) → Contains xs x → q x ≡ true → Contains ns (f x) × (p (f x) ≡ true)) → count_by p ns ≡ count_by q xs
count_same {X = X} f p q ns xs d e same there back =
    sym (length-filter p ns)
    ∙ length_same (filter p ns) (map f (filter q xs)) (Distinct-filter p ns d)
    (image-Distinct f (filter q xs) (Distinct-filter q xs e) (λ x y c h. same x y (Contains-filter q xs x c).0 (Contains-filter q xs y h).0))
    (λ n c.
    let in' = Contains-filter p ns n c in
    let at = there n in'.0 in'.1 in
    subst (Contains (map f (filter q xs))) at.2 (image-Contains f (filter q xs) at.0 (filter-Contains q xs at.0 at.1 at.3)))
    (λ n c.
    let at = Contains-image f (filter q xs) n c in
    let in' = Contains-filter q xs at.0 at.1 in
    let r = back at.0 in'.0 in'.1 in
    subst (Contains (filter p ns)) at.2 (filter-Contains p ns (f at.0) r.0 r.1))
    ∙ length-map (filter q xs) f ∙ length-filter q xs

-- two tests that agree on a list count the same there
pub count_alike : {A : Type 0} (p q : A → Bool) (xs : List A) → ((x : A) → Contains xs x → p x ≡ q x) → count_by p xs ≡ count_by q xs
count_alike p q [] same = refl
count_alike p q (x ∷ xs) same =
    sum_by-cons (λ y. if p y then 1 else 0) x xs
    ∙ (λ i. (if same x (Contains-head x xs) i then 1 else 0) + count_alike p q xs (λ y c. same y (Contains-cons x y xs c)) i)
    ∙ sym (sum_by-cons (λ y. if q y then 1 else 0) x xs)
