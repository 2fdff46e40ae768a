-- Lists of blocks in which none stands twice: by how often each stands there, and in ascending order.
use Rattle.std.proofs.Common.{◌≡◌, ℕ, zero, suc, ◌+◌, ◌<◌, ◌≤◌, inl, inr, List, [], ◌∷◌, ◌++◌, get_or, length, refl, sym, ◌∙◌, ap, subst, arith}
use Rattle.std.specs.Prelude.{Bool, true, false, ◌↔◌, ◌==◌, nat_lt, if◌then◌else◌, count_by, Contains}
use Rattle.std.specs.List.Sorted.{IsPermutation, IsSorted}
use Rattle.std.specs.Ordering.{is_lt, nat_cmp}
use Rattle.std.proofs.lemmas.Bool.{eq-eqb, eqb-true, ltb-false}
use Rattle.std.proofs.lemmas.List.{get_or_default}
use Rattle.std.proofs.lemmas.List.Elements.{Contains-get_or}
use Rattle.std.proofs.lemmas.List.Sums.{sum_by-append, sum_by-cons}
use Rattle.std.proofs.lemmas.List.Sorted.{IsPermutation-sym, sum_by-IsPermutation}
use Rattle.qx_geom.proofs.Members.{Contains-cases, Contains-cons, Contains-head}
use Rattle.qx_geom.proofs.ImagesAndFilters.{Contains-in}
use Rattle.qx_geom.proofs.Truths.{not_so}
use Rattle.qx_geom.specs.Lists.{Distinct, is_in}

-- ---- how often a block stands in a list

-- once or not
abbrev once : Bool → ℕ
once b = if b then 1 else 0

-- as often as in the rest, and at the head
count_more : (x y : ℕ) (ys : List ℕ) → count_by (λ z. z == x) (y ∷ ys) ≡ once (y == x) + count_by (λ z. z == x) ys
count_more x y ys = sum_by-cons (λ z. once (z == x)) y ys

-- what stands there is counted
counted : (ys : List ℕ) (x : ℕ) → Contains ys x → 0 < count_by (λ z. z == x) ys
counted [] x c = absurd (omega (arith, c.1))
counted (y ∷ ys) x c =
    elim (Contains-cases y x ys c) [
      | inl is ↦ let here : once (y == x) ≡ 1 = ap once (eq-eqb y x is) in omega (arith, count_more x y ys, here)
      | inr rest ↦ omega (arith, count_more x y ys, counted ys x rest)
    ]

-- and nothing else is
uncounted : (ys : List ℕ) (x : ℕ) → (Contains ys x → ⊥) → count_by (λ z. z == x) ys ≡ 0
uncounted [] x out = refl
uncounted (y ∷ ys) x out = go (uncounted ys x (λ c. out (Contains-cons y x ys c))) (y == x) refl
  where
    go : count_by (λ z. z == x) ys ≡ 0 → (b : Bool) → (y == x) ≡ b → count_by (λ z. z == x) (y ∷ ys) ≡ 0
    go rest true e = absurd (out (subst (Contains (y ∷ ys)) (eqb-true y x e) (Contains-head y ys)))
    go rest false e = let here : once (y == x) ≡ 0 = ap once e in omega (arith, count_more x y ys, here, rest)

-- in a list without doubles each block stands once at most
pub distinct_once : (ys : List ℕ) → Distinct ys → (x : ℕ) → count_by (λ z. z == x) ys ≤ 1
distinct_once [] d x = omega arith
distinct_once (y ∷ ys) d x = go (distinct_once ys d.1 x) (y == x) refl
  where
    go : count_by (λ z. z == x) ys ≤ 1 → (b : Bool) → (y == x) ≡ b → count_by (λ z. z == x) (y ∷ ys) ≤ 1
    go rest true e = let here : once (y == x) ≡ 1 = ap once e in let none : count_by (λ z. z == x) ys ≡ 0 = uncounted ys x (λ c. d.0 (subst (Contains ys) (sym (eqb-true y x e)) c)) in omega (arith, count_more x y ys, here, none)
    go rest false e = let here : once (y == x) ≡ 0 = ap once e in omega (arith, count_more x y ys, here, rest)

-- and where each does so, it is one
pub once_distinct : (ys : List ℕ) → ((x : ℕ) → count_by (λ z. z == x) ys ≤ 1) → Distinct ys
once_distinct [] most = tt
once_distinct (y ∷ ys) most =
    (λ c. let here : once (y == y) ≡ 1 = ap once (eq-eqb y y refl) in omega (arith, most y, count_more y y ys, here, counted ys y c), once_distinct ys (λ x. omega (arith, most x, count_more x y ys)))

-- in another order it still is one
pub distinct_permuted : (xs ys : List ℕ) → IsPermutation xs ys → Distinct xs → Distinct ys
distinct_permuted xs ys p d = once_distinct ys (λ x. let same : count_by (λ z. z == x) ys ≡ count_by (λ z. z == x) xs = sum_by-IsPermutation (λ z. once (z == x)) xs ys p in omega (arith, distinct_once xs d x, same))

-- ---- in ascending order

-- no number is followed by itself
abbrev HasNoTwins : List ℕ → Type 0
HasNoTwins xs = (k : ℕ) → k + 1 < length xs → get_or xs k 0 ≡ get_or xs (k + 1) 0 → ⊥

-- two numbers in order
not_less : (x y : ℕ) → is_lt (nat_cmp y x) ≡ false → x ≤ y
not_less x y e = go (nat_lt y x) refl
  where
    go : (b : Bool) → nat_lt y x ≡ b → x ≤ y
    go true t = absurd (cc)
    go false t = ltb-false y x t

-- so a list in order rises at each step
rises : (xs : List ℕ) → IsSorted nat_cmp xs → HasNoTwins xs → (k : ℕ) → k + 1 < length xs → get_or xs k 0 < get_or xs (k + 1) 0
rises xs up apart k h = let le : get_or xs k 0 ≤ get_or xs (k + 1) 0 = not_less (get_or xs k 0) (get_or xs (k + 1) 0) (up k 0 (omega arith) h) in let ne : get_or xs k 0 ≡ get_or xs (k + 1) 0 → ⊥ = apart k h in omega (arith, le, ne)

-- a list that rises has the head below the rest
head_below : (x : ℕ) (xs : List ℕ) → ((k : ℕ) → k + 1 < length (x ∷ xs) → get_or (x ∷ xs) k 0 < get_or (x ∷ xs) (k + 1) 0) → (k : ℕ) → k < length xs → x < get_or xs k 0
head_below x xs up zero h = up 0 (omega arith)
head_below x xs up (suc k) h =
    let next : suc k + 1 ≡ suc (suc k) = omega arith in
    let step : get_or xs k 0 < get_or xs (suc k) 0 = subst (λ j. get_or xs k 0 < get_or (x ∷ xs) j 0) next (up (suc k) (omega arith)) in
    omega (arith, step, head_below x xs up k (omega arith))

-- so its numbers differ
rising_distinct : (xs : List ℕ) → ((k : ℕ) → k + 1 < length xs → get_or xs k 0 < get_or xs (k + 1) 0) → Distinct xs
rising_distinct [] up = tt
rising_distinct (x ∷ xs) up = (
  λ c. let above : x < get_or xs c.0 0 = head_below x xs up c.0 c.1 in let same : get_or xs c.0 0 ≡ x = get_or_default xs c.0 0 x c.1 ∙ c.2 in omega (arith, above, same),
  rising_distinct xs (λ k h. let next : suc k + 1 ≡ suc (k + 1) = omega arith in subst (λ j. get_or xs k 0 < get_or (x ∷ xs) j 0) next (up (suc k) (omega arith))),
)

-- a list in order is without doubles where no number is followed by itself
pub sorted_distinct : (xs : List ℕ) → IsSorted nat_cmp xs → HasNoTwins xs → Distinct xs
sorted_distinct xs up apart = rising_distinct xs (rises xs up apart)

-- and only there
pub distinct_apart : (xs : List ℕ) → Distinct xs → HasNoTwins xs
distinct_apart [] d k h same = absurd (omega arith)
distinct_apart (x ∷ xs) d zero h same = d.0 (subst (Contains xs) (sym same) (Contains-get_or xs 0 0 (omega arith)))
distinct_apart (x ∷ xs) d (suc k) h same =
    let next : suc k + 1 ≡ suc (k + 1) = omega arith in
    distinct_apart xs d.1 k (omega arith) (subst (λ j. get_or xs k 0 ≡ get_or (x ∷ xs) j 0) next same)

-- so numbers are without doubles where none is followed by itself once they are in order
pub twins_tell : (all xs sorted : List ℕ) (r : Bool) → xs ≡ all → IsPermutation xs sorted → IsSorted nat_cmp sorted → (r ≡ true ↔ HasNoTwins sorted) → (r ≡ true ↔ Distinct all)
twins_tell all xs sorted r is p up tells = (
  λ e. subst Distinct is (distinct_permuted sorted xs (IsPermutation-sym xs sorted p) (sorted_distinct sorted up (tells.0 e))),
  λ d. tells.1 (distinct_apart sorted (distinct_permuted xs sorted p (subst Distinct (sym is) d))),
)

-- ---- parts of lists

-- how often a block stands in two lists end to end
count_append : (x : ℕ) (xs ys : List ℕ) → count_by (λ z. z == x) (xs ++ ys) ≡ count_by (λ z. z == x) xs + count_by (λ z. z == x) ys
count_append x xs ys = sum_by-append (λ z. once (z == x)) xs ys

-- where two pairs of lists are joined side by side
count_pairs : (x : ℕ) (a b c d : List ℕ) → count_by (λ z. z == x) ((a ++ b) ++ (c ++ d)) ≡ count_by (λ z. z == x) (a ++ c) + count_by (λ z. z == x) (b ++ d)
count_pairs x a b c d = omega (arith, count_append x (a ++ b) (c ++ d), count_append x a b, count_append x c d, count_append x a c, count_append x b d)

-- without doubles, so is each pair
pub distinct_first : (a b c d : List ℕ) → Distinct ((a ++ b) ++ (c ++ d)) → Distinct (a ++ c)
distinct_first a b c d whole = once_distinct (a ++ c) (λ x. omega (arith, count_pairs x a b c d, distinct_once ((a ++ b) ++ (c ++ d)) whole x))

pub distinct_second : (a b c d : List ℕ) → Distinct ((a ++ b) ++ (c ++ d)) → Distinct (b ++ d)
distinct_second a b c d whole = once_distinct (b ++ d) (λ x. omega (arith, count_pairs x a b c d, distinct_once ((a ++ b) ++ (c ++ d)) whole x))

-- and no block is one of both
pub distinct_between : (a b c d : List ℕ) (x : ℕ) → Distinct ((a ++ b) ++ (c ++ d)) → is_in (a ++ c) x ≡ true → is_in (b ++ d) x ≡ true → ⊥
distinct_between a b c d x whole first second =
    omega (arith, count_pairs x a b c d, distinct_once ((a ++ b) ++ (c ++ d)) whole x, counted (a ++ c) x (Contains-in (a ++ c) x first), counted (b ++ d) x (Contains-in (b ++ d) x second))

-- the first of two lists
pub distinct_left : (xs ys : List ℕ) → Distinct (xs ++ ys) → Distinct xs
distinct_left xs ys whole = once_distinct xs (λ x. omega (arith, count_append x xs ys, distinct_once (xs ++ ys) whole x))

-- no block is in both
pub distinct_apart_lists : (xs ys : List ℕ) (x : ℕ) → Distinct (xs ++ ys) → is_in xs x ≡ true → is_in ys x ≡ false
distinct_apart_lists xs ys x whole first =
    not_so (is_in ys x) (λ second. omega (arith, count_append x xs ys, distinct_once (xs ++ ys) whole x, counted xs x (Contains-in xs x first), counted ys x (Contains-in ys x second)))
