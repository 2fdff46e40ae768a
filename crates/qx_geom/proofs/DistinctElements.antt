-- Lists in which no element stands twice.
use Rattle.std.proofs.Common.{◌≡◌, ℕ, zero, suc, ◌<◌, inl, inr, List, [], ◌∷◌, ◌++◌, refl, sym, subst, arith}
use Rattle.std.specs.Prelude.{true, false, ◌&&◌, not, Contains, map}
use Rattle.std.proofs.lemmas.List.Elements.{Contains-append_cases}
use Rattle.qx_geom.proofs.Members.{Contains-cases, Contains-cons, Contains-head, in_cases, parts-Contains}
use Rattle.qx_geom.proofs.Truths.{not_so}
use Rattle.qx_geom.specs.Lists.{Distinct, all_differ, is_in, parts_below}

-- two such lists with no element in common, end to end
pub Distinct-append : {A : Type 0} (xs ys : List A) → Distinct xs → Distinct ys → ((x : A) → Contains xs x → Contains ys x → ⊥) → Distinct (xs ++ ys)
Distinct-append [] ys d e apart = e
Distinct-append (x ∷ xs) ys d e apart =
    (λ c. elim (Contains-append_cases xs ys x c) [ inl a ↦ d.0 a | inr b ↦ apart x (Contains-head x xs) b ], Distinct-append xs ys d.1 e (λ y a b. apart y (Contains-cons x y xs a) b))

-- the image by a function that keeps elements apart
pub Distinct-map : {A B : Type 0} (f : A → B) (xs : List A) → ((x y : A) → f x ≡ f y → x ≡ y) → Distinct xs → Distinct (map f xs)
Distinct-map f [] same d = tt
Distinct-map {A = A} f (x ∷ xs) same d = (λ c. d.0 (back xs c), Distinct-map f xs same d.1)
  where
    back : (ys : List A) → Contains (map f ys) (f x) → Contains ys x
    back [] c = absurd (omega (arith, c.1))
    back (y ∷ ys) c = elim (Contains-cases (f y) (f x) (map f ys) c) [ inl is ↦ subst (λ z. Contains (y ∷ ys) z) (same y x is) (Contains-head y ys) | inr there ↦ Contains-cons y x ys (back ys there) ]

-- parts of which no two have an element in common
pub Distinct-parts : {A : Type 0} (n : ℕ) (f : ℕ → List A) → ((k : ℕ) → k < n → Distinct (f k)) → ((k j : ℕ) (x : A) → k < n → j < n → Contains (f k) x → Contains (f j) x → k ≡ j) → Distinct (parts_below n f)
Distinct-parts zero f each apart = tt
Distinct-parts (suc n) f each apart =
    Distinct-append (parts_below n f) (f n) (Distinct-parts n f (λ k h. each k (omega arith)) (λ k j x h i a b. apart k j x (omega arith) (omega arith) a b)) (each n (omega arith))
    (λ x a b. let from : (k : ℕ) × (k < n) × Contains (f k) x = parts-Contains n f x a in let same : from.0 ≡ n = apart from.0 n x (omega (arith, from.1)) (omega arith) from.2 b in absurd (omega (arith, from.1)))

-- where equal numbers mean equal elements, and none stands twice, the numbers differ
pub numbers_differ : {A : Type 0} (f : A → ℕ) (xs : List A) → Distinct xs → ((a b : A) → Contains xs a → Contains xs b → f a ≡ f b → a ≡ b) → all_differ (map f xs) ≡ true
numbers_differ f [] d same = refl
numbers_differ {A = A} f (x ∷ xs) d same =
    let out : is_in (map f xs) (f x) ≡ false = not_so (is_in (map f xs) (f x)) (λ t. let at : (y : A) × Contains xs y × (f y ≡ f x) = find xs t in
    d.0 (subst (λ z. Contains xs z) (sym (same x at.0 (Contains-head x xs) (Contains-cons x at.0 xs at.1) (sym at.2))) at.1)) in
    λ i. not (out i) && numbers_differ f xs d.1 (λ a b c e. same a b (Contains-cons x a xs c) (Contains-cons x b xs e)) i
  where
    find : (ys : List A) → is_in (map f ys) (f x) ≡ true → (y : A) × Contains ys y × (f y ≡ f x)
    find [] t = absurd (cc)
    find (y ∷ ys) t = elim (in_cases (f y) (f x) (map f ys) t) [
      | inl is ↦ (y, Contains-head y ys, is)
      | inr there ↦ let r : (z : A) × Contains ys z × (f z ≡ f x) = find ys there in (r.0, Contains-cons y r.0 ys r.1, r.2)
    ]
