-- Ranges, and parts end to end, as ascending lists; ascending lists with the same members are one.
use Rattle.std.proofs.Common.{◌≡◌, ℕ, zero, suc, ◌+◌, ◌<◌, ◌≤◌, inl, inr, List, [], ◌∷◌, subst, arith}
use Rattle.std.specs.Prelude.{Contains, flat_map}
use Rattle.std.specs.List.{range_with_len}
use Rattle.std.proofs.lemmas.Bool.{cases_lt}
use Rattle.qx_geom.proofs.Members.{Contains-cases, Contains-cons, Contains-head}
use Rattle.qx_geom.specs.Lists.{IsAscending}
use Rattle.qx_nodes.proofs.MetLeaves.{ascending-append}
use Rattle.qx_view.proofs.AlikeLists.{flat_map_members}

-- a member of a range lies in it
pub in_range : (a n k : ℕ) → Contains (range_with_len a n) k → (a ≤ k) × (k < a + n)
in_range a zero k c = absurd (omega (arith, c.1))
in_range a (suc n) k c = elim (Contains-cases a k (range_with_len (a + 1) n) c) [
  | inl here ↦ (omega arith, omega arith)
  | inr there ↦ let r : (a + 1 ≤ k) × (k < a + 1 + n) = in_range (a + 1) n k there in (omega arith, omega arith)
]

-- and what lies in it is a member
pub range_has : (a n k : ℕ) → a ≤ k → k < a + n → Contains (range_with_len a n) k
range_has a zero k low high = absurd (omega arith)
range_has a (suc n) k low high = elim (cases_lt a k) [
  | inl above ↦ Contains-cons a k (range_with_len (a + 1) n) (range_has (a + 1) n k (omega arith) (omega arith))
  | inr same ↦ let here : a ≡ k = omega arith in subst (λ z. Contains (a ∷ range_with_len (a + 1) n) z) here (Contains-head a (range_with_len (a + 1) n))
]

-- a range ascends
pub range_ascends : (a n : ℕ) → IsAscending (range_with_len a n)
range_ascends a zero = tt
range_ascends a (suc n) = (λ y c. let r : (a + 1 ≤ y) × (y < a + 1 + n) = in_range (a + 1) n y c in omega (arith, r.0), range_ascends (a + 1) n)

-- parts end to end ascend where each does, and those of a greater number lie above those of a lesser one
pub flat_ascends : (f : ℕ → List ℕ) (xs : List ℕ) → IsAscending xs → ((i : ℕ) → IsAscending (f i)) → ((i j x y : ℕ) → i < j → Contains (f i) x → Contains (f j) y → x < y) → IsAscending (flat_map f xs)
flat_ascends f [] a each above = tt
flat_ascends f (i ∷ xs) a each above =
    ascending-append (f i) (flat_map f xs) (each i) (flat_ascends f xs a.1 each above)
    (λ x y c d. let at = flat_map_members f xs y d in above i at.0 x y (a.0 at.0 at.1) c at.2)
