-- The present leaves after a change: which they are, and that they ascend.
use Rattle.std.proofs.Common.{◌≡◌, ℕ, ◌<◌, ◌⊎◌, ◌↔◌, inl, inr, List, [], ◌∷◌, refl, sym, ap, subst, arith}
use Rattle.std.specs.Prelude.{Bool, true, false, ◌==◌, ◌&&◌, not, nat_lt, cond, if◌then◌else◌, filter, fold, Option, Some, None}
use Rattle.std.proofs.lemmas.Bool.{eqb-true, eqb-false, ltb-true, ltb-false, lt-ltb}
use Rattle.qx_geom.proofs.ImagesAndFilters.{Contains-in, filter_in, in_Contains, in_filter, in_head_as}
use Rattle.qx_geom.proofs.Members.{Contains-cases, in_cases, in_head, in_tail}
use Rattle.qx_geom.proofs.Truths.{and_left, and_right, not_so, not_true}
use Rattle.qx_geom.specs.Lists.{IsAscending, is_in}
use Rattle.qx_geom.specs.Positions.{is_named, kept_leaves, present_after, with_number}
use Rattle.qx_geom.proofs.AscendingLists.{below}

-- ---- an ascending list with one more number

-- what is in an ascending list with one more number
pub with_number_from : (xs : List ℕ) (x j : ℕ) → is_in (with_number xs x) j ≡ true → (x ≡ j) ⊎ (is_in xs j ≡ true)
with_number_from [] x j h = in_cases x j [] h
with_number_from (y ∷ ys) x j h = go (nat_lt x y) (x == y) h (with_number_from ys x j)
  where
    go : (a b : Bool) → is_in (if a then x ∷ y ∷ ys else if b then y ∷ ys else y ∷ with_number ys x) j ≡ true → (is_in (with_number ys x) j ≡ true → (x ≡ j) ⊎ (is_in ys j ≡ true)) → (x ≡ j) ⊎ (is_in (y ∷ ys) j ≡ true)
    go true b h more = in_cases x j (y ∷ ys) h
    go false true h more = inr h
    go false false h more = elim (in_cases y j (with_number ys x) h) [
      | inl is ↦ inr (in_head_as y j ys is)
      | inr there ↦ elim (more there) [ inl is ↦ inl is | inr later ↦ inr (in_tail y j ys later) ]
    ]

-- the number that is put in is in
pub number_in : (xs : List ℕ) (x : ℕ) → is_in (with_number xs x) x ≡ true
number_in [] x = in_head x []
number_in (y ∷ ys) x = go (nat_lt x y) (x == y) refl (number_in ys x)
  where
    go : (a b : Bool) → (x == y) ≡ b → is_in (with_number ys x) x ≡ true → is_in (if a then x ∷ y ∷ ys else if b then y ∷ ys else y ∷ with_number ys x) x ≡ true
    go true b e more = in_head x (y ∷ ys)
    go false true e more = in_head_as y x ys (sym (eqb-true x y e))
    go false false e more = in_tail y x (with_number ys x) more

-- and what was in stays in
pub others_in : (xs : List ℕ) (x j : ℕ) → is_in xs j ≡ true → is_in (with_number xs x) j ≡ true
others_in [] x j h = absurd (cc)
others_in (y ∷ ys) x j h = go (nat_lt x y) (x == y) (in_cases y j ys h) (others_in ys x j)
  where
    go : (a b : Bool) → (y ≡ j) ⊎ (is_in ys j ≡ true) → (is_in ys j ≡ true → is_in (with_number ys x) j ≡ true) → is_in (if a then x ∷ y ∷ ys else if b then y ∷ ys else y ∷ with_number ys x) j ≡ true
    go true b p more = in_tail x j (y ∷ ys) h
    go false true p more = h
    go false false (inl is) more = in_head_as y j (with_number ys x) is
    go false false (inr there) more = in_tail y j (with_number ys x) (more there)

-- a list with one more number ascends
pub number_ascends : (xs : List ℕ) (x : ℕ) → IsAscending xs → IsAscending (with_number xs x)
number_ascends [] x a = (λ y c. absurd (omega (arith, c.1)), tt)
number_ascends (y ∷ ys) x a = go (nat_lt x y) (x == y) refl refl (number_ascends ys x a.1)
  where
    go : (b c : Bool) → nat_lt x y ≡ b → (x == y) ≡ c → IsAscending (with_number ys x) → IsAscending (if b then x ∷ y ∷ ys else if c then y ∷ ys else y ∷ with_number ys x)
    go true c e f more = (λ z m. elim (Contains-cases y z ys m) [ inl is ↦ omega (arith, ltb-true x y e, is) | inr later ↦ let h : y < z = a.0 z later in omega (arith, ltb-true x y e, h) ], a)
    go false true e f more = a
    go false false e f more = (λ z m. elim (with_number_from ys x z (in_Contains (with_number ys x) z m)) [ inl is ↦ omega (arith, is, above) | inr later ↦ a.0 z (Contains-in ys z later) ], more)
      where
        above : y < x
        above = below y x (ltb-false x y e) (λ is. eqb-false x y f (sym is))

-- what a filter leaves of an ascending list ascends
pub filter_ascends : (test : ℕ → Bool) (xs : List ℕ) → IsAscending xs → IsAscending (filter test xs)
filter_ascends test [] a = tt
filter_ascends test (x ∷ xs) a = go (test x) (filter_ascends test xs a.1)
  where
    go : (b : Bool) → IsAscending (filter test xs) → IsAscending (cond b (x ∷ filter test xs) (filter test xs))
    go true more = (λ y c. a.0 y (Contains-in xs y (filter_in test xs y (in_Contains (filter test xs) y c)).0), more)
    go false more = more

-- the present leaves after a change ascend
pub present_after_ascends : (present : List ℕ) (new_leaves : ℕ) (written : List ℕ) (gone : Option ℕ) → IsAscending present → IsAscending (present_after present new_leaves written gone)
unfolding present_after
present_after_ascends present new_leaves written gone a = all_ascend (kept_leaves present new_leaves gone) written (filter_ascends (λ i. nat_lt i new_leaves && not (is_named gone i)) present a)
  where
    all_ascend : (xs ws : List ℕ) → IsAscending xs → IsAscending (fold with_number xs ws)
    all_ascend xs [] b = b
    all_ascend xs (w ∷ ws) b = all_ascend (with_number xs w) ws (number_ascends xs w b)

-- ---- which leaves are present after a change

-- what was in stays in, whatever is put in
pub stays_in : (xs ws : List ℕ) (j : ℕ) → is_in xs j ≡ true → is_in (fold with_number xs ws) j ≡ true
stays_in xs [] j h = h
stays_in xs (w ∷ ws) j h = stays_in (with_number xs w) ws j (others_in xs w j h)

-- the leaves that are put in one after the other are in
pub written_in : (xs ws : List ℕ) (j : ℕ) → is_in ws j ≡ true → is_in (fold with_number xs ws) j ≡ true
written_in xs [] j h = absurd (cc)
written_in xs (w ∷ ws) j h = elim (in_cases w j ws h) [
  | inl is ↦ stays_in (with_number xs w) ws j (subst (λ z. is_in (with_number xs w) z ≡ true) is (number_in xs w))
  | inr there ↦ written_in (with_number xs w) ws j there
]

-- and nothing else comes in
pub in_from : (xs ws : List ℕ) (j : ℕ) → is_in (fold with_number xs ws) j ≡ true → (is_in ws j ≡ true) ⊎ (is_in xs j ≡ true)
in_from xs [] j h = inr h
in_from xs (w ∷ ws) j h = elim (in_from (with_number xs w) ws j h) [
  | inl there ↦ inl (in_tail w j ws there)
  | inr one ↦ elim (with_number_from xs w j one) [ inl is ↦ inl (in_head_as w j ws is) | inr old ↦ inr old ]
]

-- a leaf is present after a change where it is written, or was present, lies below the new end and isn't taken out
pub present_after_members : (present : List ℕ) (new_leaves : ℕ) (written : List ℕ) (gone : Option ℕ) (i : ℕ)
    → (is_in (present_after present new_leaves written gone) i ≡ true) ↔ ((is_in written i ≡ true) ⊎ ((is_in present i ≡ true) × (i < new_leaves) × (gone ≡ Some i → ⊥)))
unfolding present_after
present_after_members present new_leaves written gone i = (
  (λ h. elim (in_from (kept_leaves present new_leaves gone) written i h) [ inl w ↦ inl w | inr k ↦ inr (kept k) ]),
  (λ p. elim p [ inl w ↦ written_in (kept_leaves present new_leaves gone) written i w | inr k ↦ stays_in (kept_leaves present new_leaves gone) written i (keeps k) ]),
)
  where
    same : (y : ℕ) → Some y ≡ Some i → i ≡ y
    same y is = cc

    named : (g : Option ℕ) → is_named g i ≡ false → g ≡ Some i → ⊥
    named None e is = cc
    named (Some y) e is = eqb-false i y e (same y is)

    unnamed : (g : Option ℕ) → (g ≡ Some i → ⊥) → is_named g i ≡ false
    unnamed None n = refl
    unnamed (Some y) n = not_so (i == y) (λ t. n (ap Some (sym (eqb-true i y t))))

    kept : is_in (kept_leaves present new_leaves gone) i ≡ true → (is_in present i ≡ true) × (i < new_leaves) × (gone ≡ Some i → ⊥)
    kept k =
        let r : (is_in present i ≡ true) × ((nat_lt i new_leaves && not (is_named gone i)) ≡ true) = filter_in (λ i. nat_lt i new_leaves && not (is_named gone i)) present i k in
        (r.0, ltb-true i new_leaves (and_left (nat_lt i new_leaves) (not (is_named gone i)) r.1), named gone (not_true (is_named gone i) (and_right (nat_lt i new_leaves) (not (is_named gone i)) r.1)))

    keeps : (is_in present i ≡ true) × (i < new_leaves) × (gone ≡ Some i → ⊥) → is_in (kept_leaves present new_leaves gone) i ≡ true
    keeps k = in_filter (λ i. nat_lt i new_leaves && not (is_named gone i)) present i k.0 (λ z. lt-ltb i new_leaves k.1 z && not (unnamed gone k.2 z))
