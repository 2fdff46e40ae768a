-- How many different numbers are in a list: no more than in one that has them all.
use Rattle.std.proofs.Common.{◌≡◌, ℕ, ◌+◌, ◌≤◌, inl, inr, List, [], ◌∷◌, ◌++◌, length, refl, sym, ap, ◌∙◌, subst, arith}
use Rattle.std.specs.Prelude.{Bool, true, false, not, cond, filter, ◌==◌, if◌then◌else◌}
use Rattle.std.proofs.lemmas.Bool.{eqb-true, eq-eqb}
use Rattle.qx_geom.proofs.Members.{in_cases, in_head, in_left, in_tail}
use Rattle.qx_geom.proofs.ImagesAndFilters.{filter_all, filter_in, in_filter}
use Rattle.qx_geom.proofs.Truths.{not_so, true_or_false}
use Rattle.qx_geom.specs.Lists.{is_in}
use Rattle.qx_model.specs.Space.{different_count}

-- the list without a number
abbrev without : ℕ → List ℕ → List ℕ
without x ys = filter (λ y. not (y == x)) ys

-- a head that is in the rest doesn't count, one that isn't does
pub counted : (b : Bool) (x : ℕ) (xs : List ℕ) → is_in xs x ≡ b → different_count (x ∷ xs) ≡ (if b then 0 else 1) + different_count xs
counted b x xs is = ap (λ c. (if c then 0 else 1) + different_count xs) is

-- other numbers stay
others_stay : (x y : ℕ) (ys : List ℕ) → (y == x) ≡ false → is_in (without x ys) y ≡ is_in ys y
others_stay x y ys e = go (is_in ys y) refl
  where
    go : (b : Bool) → is_in ys y ≡ b → is_in (without x ys) y ≡ is_in ys y
    go true is = in_filter (λ y. not (y == x)) ys y is (ap not e) ∙ sym is
    go false is = not_so (is_in (without x ys) y) (λ h. true_or_false (is_in ys y) (filter_in (λ y. not (y == x)) ys y h).0 is) ∙ sym is

-- a number that isn't there changes nothing
nothing_without : (x : ℕ) (ys : List ℕ) → is_in ys x ≡ false → without x ys ≡ ys
nothing_without x ys none = filter_all (λ y. not (y == x)) ys (λ y m. ap not (not_so (y == x) (λ e. true_or_false (is_in ys x) (subst (λ z. is_in ys z ≡ true) (eqb-true y x e) m) none)))

-- a number that is there counts for one
one_less : (x : ℕ) (ys : List ℕ) → is_in ys x ≡ true → different_count (without x ys) + 1 ≡ different_count ys
one_less x [] h = absurd (cc)
one_less x (y ∷ ys) h = go (y == x) refl (is_in ys x) refl (one_less x ys)
  where
    by_rest : (b : Bool) → is_in (without x ys) y ≡ b → different_count (without x ys) + 1 ≡ different_count ys
        → ((if is_in (without x ys) y then 0 else 1) + different_count (without x ys)) + 1 ≡ (if b then 0 else 1) + different_count ys
    by_rest true is less = omega (arith, less, ap {B = ℕ} (λ (c : Bool). if c then 0 else 1) is)
    by_rest false is less = omega (arith, less, ap {B = ℕ} (λ (c : Bool). if c then 0 else 1) is)

    go : (b : Bool) → (y == x) ≡ b → (c : Bool) → is_in ys x ≡ c → (is_in ys x ≡ true → different_count (without x ys) + 1 ≡ different_count ys)
        → different_count (cond (not b) (y ∷ without x ys) (without x ys)) + 1 ≡ different_count (y ∷ ys)
    go true e true there more =
        let same : y ≡ x = eqb-true y x e in
        let again : is_in ys y ≡ true = ap (is_in ys) same ∙ there in
        omega (arith, more there, counted true y ys again)
    go true e false none more =
        let same : y ≡ x = eqb-true y x e in
        let first : is_in ys y ≡ false = ap (is_in ys) same ∙ none in
        omega (arith, ap different_count (nothing_without x ys none), counted false y ys first)
    go false e true there more = by_rest (is_in ys y) (others_stay x y ys e) (more there)
    go false e false none more = absurd (elim (in_cases y x ys h) [
      | inl is ↦ true_or_false (y == x) (eq-eqb y x is) e
      | inr there ↦ true_or_false (is_in ys x) there none
    ])

-- a list whose numbers are all in another has no more
pub fewer_different : (xs ys : List ℕ) → ((x : ℕ) → is_in xs x ≡ true → is_in ys x ≡ true) → different_count xs ≤ different_count ys
fewer_different [] ys all = omega arith
fewer_different (x ∷ xs) ys all = go (is_in xs x) refl (fewer_different xs) (fewer_different xs (without x ys))
  where
    go : (b : Bool) → is_in xs x ≡ b → ((zs : List ℕ) → ((z : ℕ) → is_in xs z ≡ true → is_in zs z ≡ true) → different_count xs ≤ different_count zs)
        → (((z : ℕ) → is_in xs z ≡ true → is_in (without x ys) z ≡ true) → different_count xs ≤ different_count (without x ys)) → different_count (x ∷ xs) ≤ different_count ys
    go true is more rest = omega (arith, counted true x xs is, more ys (λ z m. all z (in_tail x z xs m)))
    go false is more rest =
        omega (
          arith,
          counted false x xs is,
          one_less x ys (all x (in_head x xs)),
          rest (λ z m. in_filter (λ y. not (y == x)) ys z (all z (in_tail x z xs m)) (ap not (not_so (z == x) (λ e. true_or_false (is_in xs x) (subst (λ w. is_in xs w ≡ true) (eqb-true z x e) m) is)))),
        )

-- a list has no more than its length
pub different_bounded : (xs : List ℕ) → different_count xs ≤ length xs
different_bounded [] = omega arith
different_bounded (x ∷ xs) = go (is_in xs x) refl (different_bounded xs)
  where
    go : (b : Bool) → is_in xs x ≡ b → different_count xs ≤ length xs → different_count (x ∷ xs) ≤ length (x ∷ xs)
    go true is le = omega (arith, counted true x xs is, le)
    go false is le = omega (arith, counted false x xs is, le)

-- two lists end to end have no more than the first has and the second is long
pub different_append : (xs ys : List ℕ) → different_count (xs ++ ys) ≤ different_count xs + length ys
different_append [] ys = omega (arith, different_bounded ys)
different_append (x ∷ xs) ys = go (is_in xs x) refl (is_in (xs ++ ys) x) refl (different_append xs ys)
  where
    go : (b : Bool) → is_in xs x ≡ b → (c : Bool) → is_in (xs ++ ys) x ≡ c → different_count (xs ++ ys) ≤ different_count xs + length ys
        → different_count (x ∷ xs ++ ys) ≤ different_count (x ∷ xs) + length ys
    go true is true there le = omega (arith, counted true x xs is, counted true x (xs ++ ys) there, le)
    go true is false none le = absurd (true_or_false (is_in (xs ++ ys) x) (in_left xs ys x is) none)
    go false is true there le = omega (arith, counted false x xs is, counted true x (xs ++ ys) there, le)
    go false is false none le = omega (arith, counted false x xs is, counted false x (xs ++ ys) none, le)
