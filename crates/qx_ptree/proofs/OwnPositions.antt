-- A position of a level: whether it is there, by the leaves below it, and whether it takes a fresh block.
use Rattle.std.proofs.Common.{◌≡◌, ℕ, suc, ◌+◌, ◌*◌, ◌<◌, ◌≤◌, inl, inr, List, [], ◌∷◌, refl, sym, ◌∙◌, ap, subst, arith}
use Rattle.std.specs.Prelude.{Bool, true, false, not, ◌&&◌, ◌||◌, ◌==◌, if◌then◌else◌, count_by, filter, map}
use Rattle.std.specs.List.{list_any}
use Rattle.std.proofs.lemmas.Bool.{cases_lt, eqb-true, le-ltb, lt-leb}
use Rattle.std.proofs.lemmas.List.Sums.{sum_by-cons}
use Rattle.qx_geom.proofs.AscendingLists.{level_ascends}
use Rattle.qx_geom.proofs.ImagesAndFilters.{Contains-in, any_image, filter_in, image_any, in_filter}
use Rattle.qx_geom.proofs.LeastTouch.{has_above, leaf_below, above_next, above_leaf}
use Rattle.qx_geom.proofs.PresentLeaves.{filter_ascends}
use Rattle.qx_geom.proofs.Truths.{and_left, and_right, not_so, same_truth}
use Rattle.qx_geom.specs.Lists.{IsAscending, is_in}
use Rattle.qx_geom.specs.Pointer.{per_block}
use Rattle.qx_geom.specs.Positions.{Shape, at_level, each_once, has_position, index_above}
use Rattle.qx_geom.specs.Touch.{changed_leaves, is_fresh, is_touched}
use Rattle.qx_ptree.specs.Alterations.{Alteration}
use Rattle.qx_ptree.specs.Parts.{fresh_positions, has_below, own_need}
use Rattle.qx_ptree.proofs.SumsBelow.{any_parts, any_up_to, one_if}

-- ---- which positions there are

-- a level of a node has the positions with a present leaf below them
pub had-below : (blocksize : ℕ) (s : Shape) (k j : ℕ) → k ≤ s.levels → has_position blocksize s k j ≡ has_below blocksize s.present k j
had-below blocksize s k j le =
    same_truth (has_position blocksize s k j) (has_below blocksize s.present k j)
    (λ h. let l = leaf_below blocksize s k j h in any_image (index_above blocksize k) j s.present l.1.0 l.1.1 l.1.2)
    (λ h. let l = image_any (index_above blocksize k) j s.present h in subst (λ x. has_position blocksize s k x ≡ true) l.2 (has_above blocksize s k l.0 le l.1))

-- and none stands above the node's levels
pub had-above : (blocksize : ℕ) (s : Shape) (k j : ℕ) → s.levels < k → has_position blocksize s k j ≡ false
had-above blocksize s k j lt = ap (λ t. is_in (if t then each_once (map (index_above blocksize k) s.present) else []) j) (lt-leb k s.levels lt)

-- nor where no present leaf lies below
pub had-none : (blocksize : ℕ) (s : Shape) (k j : ℕ) → has_below blocksize s.present k j ≡ false → has_position blocksize s k j ≡ false
had-none blocksize s k j none = elim (cases_lt s.levels k) [ inl lt ↦ had-above blocksize s k j lt | inr le ↦ had-below blocksize s k j le ∙ none ]

-- what lies below a block lies below one of those that it points to
pub below-up : (blocksize : ℕ) (leaves : List ℕ) (k j : ℕ) → 0 < per_block blocksize → has_below blocksize leaves (suc k) j ≡ any_up_to (per_block blocksize) (λ w. has_below blocksize leaves k (j * per_block blocksize + w))
below-up blocksize leaves k j some = any_parts (index_above blocksize k) (index_above blocksize (suc k)) (per_block blocksize) j leaves some (above_next blocksize k)

-- below a leaf lies the leaf alone
pub below-leaf : (blocksize : ℕ) (leaves : List ℕ) (i : ℕ) → has_below blocksize leaves 0 i ≡ is_in leaves i
below-leaf blocksize leaves i = λ t. list_any (λ x. above_leaf blocksize x t == i) leaves

-- ---- fresh positions

-- how often a number stands in an ascending list
count_one : (xs : List ℕ) (j : ℕ) → IsAscending xs → count_by (λ x. x == j) xs ≡ one_if (is_in xs j)
count_one [] j a = refl
count_one (x ∷ xs) j a = sum_by-cons (λ x. one_if (x == j)) x xs ∙ ap (λ n. one_if (x == j) + n) (count_one xs j a.1) ∙ go (x == j) refl
  where
    go : (b : Bool) → (x == j) ≡ b → one_if b + one_if (is_in xs j) ≡ one_if (b || is_in xs j)
    go true e = ap (λ t. 1 + one_if t) (not_so (is_in xs j) (λ m. let h : x < j = a.0 j (Contains-in xs j m) in absurd (omega (arith, h, eqb-true x j e))))
    go false e = omega arith

-- what is in a list that a test was put to
pub in_filter-is : (test : ℕ → Bool) (xs : List ℕ) (j : ℕ) → is_in (filter test xs) j ≡ (is_in xs j && test j)
in_filter-is test xs j =
    same_truth (is_in (filter test xs) j) (is_in xs j && test j)
    (λ h. let r = filter_in test xs j h in λ i. r.0 i && r.1 i)
    (λ h. in_filter test xs j (and_left (is_in xs j) (test j) h) (and_right (is_in xs j) (test j) h))

-- how many fresh blocks a position of a level takes
pub own-fresh : (a : Alteration) (k j : ℕ) → IsAscending a.new.present → k ≤ a.new.levels
    → count_by (λ x. x == j) (fresh_positions a k) ≡ own_need (has_position a.blocksize a.old k j) (a.private k j) (has_below a.blocksize (changed_leaves a.old a.new a.written) k j) (has_below a.blocksize a.new.present k j)
own-fresh a k j up le =
    count_one (fresh_positions a k) j (filter_ascends (is_fresh a.blocksize a.old a.new a.written a.private k) (at_level a.blocksize a.new k) (level_ascends a.blocksize k a.new up))
    ∙ ap one_if (in_filter-is (is_fresh a.blocksize a.old a.new a.written a.private k) (at_level a.blocksize a.new k) j)
    ∙ ap (λ t. one_if (t && is_fresh a.blocksize a.old a.new a.written a.private k j)) (had-below a.blocksize a.new k j le)
    ∙ ap (λ t. one_if (has_below a.blocksize a.new.present k j && t)) fresh
  where
    fresh : is_fresh a.blocksize a.old a.new a.written a.private k j ≡ (not (has_position a.blocksize a.old k j) || (has_below a.blocksize (changed_leaves a.old a.new a.written) k j && not (a.private k j)))
    fresh = elim (cases_lt a.old.levels k) [
      | inl lt ↦
          (λ i. not (had-above a.blocksize a.old k j lt i) || (is_touched a.blocksize a.old a.new a.written k j && not (a.private k j)))
          ∙ sym (λ i. not (had-above a.blocksize a.old k j lt i) || (has_below a.blocksize (changed_leaves a.old a.new a.written) k j && not (a.private k j)))
      | inr ge ↦ λ i. not (has_position a.blocksize a.old k j) || ((le-ltb a.old.levels k ge i || has_below a.blocksize (changed_leaves a.old a.new a.written) k j) && not (a.private k j))
    ]
