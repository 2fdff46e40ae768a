-- Ascending lists: the positions of a level.
use Rattle.std.proofs.Common.{◌≡◌, ℕ, zero, suc, ◌/◌, ◌^◌, ◌<◌, ◌≤◌, inl, inr, List, [], ◌∷◌, refl, arith}
use Rattle.std.specs.Prelude.{Bool, true, false, ◌==◌, nat_le, if◌then◌else◌, Contains, map}
use Rattle.std.proofs.Math.Nat.{div-mul-le_self, div-zero}
use Rattle.std.proofs.lemmas.Bool.{eqb-false, leb-true, leb-false}
use Rattle.std.proofs.lemmas.Nat.{le-div}
use Rattle.qx_geom.proofs.ImagesAndFilters.{Contains-image}
use Rattle.qx_geom.proofs.Members.{Contains-cases, Contains-cons, Contains-head}
use Rattle.qx_geom.specs.Lists.{Distinct, IsAscending}
use Rattle.qx_geom.specs.Pointer.{per_block}
use Rattle.qx_geom.specs.Positions.{Shape, at_level, each_once, index_above, once_after}

-- no element is below one before it
IsRising : List ℕ → Type 0
IsRising [] = Unit {0}
IsRising (x ∷ xs) = ((y : ℕ) → Contains xs y → x ≤ y) × IsRising xs

-- no number of an ascending list stands twice
pub ascending_distinct : (xs : List ℕ) → IsAscending xs → Distinct xs
ascending_distinct [] a = tt
ascending_distinct (x ∷ xs) a = (λ c. let h : x < x = a.0 x c in absurd (omega (arith, h)), ascending_distinct xs a.1)

-- ascending lists with the same members are one
pub ascending_same : (xs ys : List ℕ) → IsAscending xs → IsAscending ys → ((x : ℕ) → Contains xs x → Contains ys x) → ((x : ℕ) → Contains ys x → Contains xs x) → xs ≡ ys
ascending_same [] [] a b to from = refl
ascending_same [] (y ∷ ys) a b to from = absurd (let c : Contains [] y = from y (Contains-head y ys) in omega (arith, c.1))
ascending_same (x ∷ xs) [] a b to from = absurd (let c : Contains [] x = to x (Contains-head x xs) in omega (arith, c.1))
ascending_same (x ∷ xs) (y ∷ ys) a b to from =
    let low : y ≤ x = least y x ys b.0 (to x (Contains-head x xs)) in
    let high : x ≤ y = least x y xs a.0 (from y (Contains-head y ys)) in
    let same : x ≡ y = omega arith in
    λ i. same i ∷ ascending_same xs ys a.1 b.1 (λ z c. later y z ys (to z (Contains-cons x z xs c)) (let h : x < z = a.0 z c in omega arith)) (λ z c. later x z xs (from z (Contains-cons y z ys c)) (let h : y < z = b.0 z c in omega arith)) i
  where
    least : (h z : ℕ) (zs : List ℕ) → ((w : ℕ) → Contains zs w → h < w) → Contains (h ∷ zs) z → h ≤ z
    least h z zs above c = elim (Contains-cases h z zs c) [ inl is ↦ omega arith | inr there ↦ let lt : h < z = above z there in omega arith ]

    later : (h z : ℕ) (zs : List ℕ) → Contains (h ∷ zs) z → h < z → Contains zs z
    later h z zs c lt = elim (Contains-cases h z zs c) [ inl is ↦ absurd (omega arith) | inr there ↦ there ]

-- a lesser or equal number that differs is less
pub below : (x y : ℕ) → x ≤ y → (x ≡ y → ⊥) → x < y
below x y le apart = elim (nat_le y x) as (λ b. nat_le y x ≡ b → x < y) [ true ↦ λ e. absurd (apart (omega (arith, le, leb-true y x e))) | false ↦ λ e. leb-false y x e ] refl

-- ---- the positions of a level

-- a greater number has no lesser quotient
pub div_rises : (x y d : ℕ) → x ≤ y → x / d ≤ y / d
div_rises x y zero h = omega (arith, div-zero x, div-zero y)
div_rises x y (suc d) h = le-div (x / suc d) y (suc d) (omega arith) (omega (arith, div-mul-le_self x (suc d), h))

-- the image of an ascending list by a function that rises
rising_image : (f : ℕ → ℕ) (xs : List ℕ) → ((x y : ℕ) → x ≤ y → f x ≤ f y) → IsAscending xs → IsRising (map f xs)
unfolding IsRising
rising_image f [] up a = tt
rising_image f (x ∷ xs) up a =
    (λ y c. let r : (i : ℕ) × Contains xs i × (f i ≡ y) = Contains-image f xs y c in let h : x < r.0 = a.0 r.0 r.1 in let le : f x ≤ f r.0 = up x r.0 (omega (arith, h)) in omega (arith, le, r.2), rising_image f xs up a.1)

-- a rising list with each number once ascends
once_ascends : (x : ℕ) (xs : List ℕ) → IsRising (x ∷ xs) → IsAscending (x ∷ once_after x xs)
unfolding IsRising
once_ascends x [] r = (λ y c. absurd (omega (arith, c.1)), tt)
once_ascends x (y ∷ ys) r = go (x == y) refl (λ h. once_ascends x ys h) (once_ascends y ys r.1)
  where
    go : (b : Bool) → (x == y) ≡ b → (IsRising (x ∷ ys) → IsAscending (x ∷ once_after x ys)) → IsAscending (y ∷ once_after y ys) → IsAscending (x ∷ (if b then once_after x ys else y ∷ once_after y ys))
    go true e same more = same (λ z c. r.0 z (Contains-cons y z ys c), r.1.1)
    go false e same more =
        let lt : x < y = below x y (r.0 y (Contains-head y ys)) (eqb-false x y e) in
        (λ z c. elim (Contains-cases y z (once_after y ys) c) [ inl is ↦ omega (arith, lt, is) | inr later ↦ let h : y < z = more.0 z later in omega (arith, lt, h) ], more)

-- the positions of a level ascend where the present leaves do
pub level_ascends : (blocksize k : ℕ) (s : Shape) → IsAscending s.present → IsAscending (at_level blocksize s k)
level_ascends blocksize k s a = go (nat_le k s.levels)
  where
    each : (xs : List ℕ) → IsRising xs → IsAscending (each_once xs)
    each [] r = tt
    each (x ∷ xs) r = once_ascends x xs r

    go : (b : Bool) → IsAscending (if b then each_once (map (index_above blocksize k) s.present) else [])
    go true = each (map (index_above blocksize k) s.present) (rising_image (index_above blocksize k) s.present (λ x y h. div_rises x y (per_block blocksize ^ k) h) a)
    go false = tt
