-- A node that stays as it is takes no block.
use Rattle.std.proofs.Common.{◌≡◌, ℕ, ◌+◌, ◌<◌, ◌≤◌, List, [], ◌∷◌, ◌++◌, refl, sym, ap, ◌∙◌, subst, arith}
use Rattle.std.specs.Prelude.{Bool, true, false, not, ◌&&◌, ◌||◌, ◌==◌, None, fold, length, nat_lt, sum_by}
use Rattle.std.specs.List.{list_any, range_with_len}
use Rattle.std.proofs.lemmas.Bool.{le-ltb, lt-ltb}
use Rattle.qx_geom.proofs.LeastTouch.{leaf_below}
use Rattle.qx_geom.proofs.ImagesAndFilters.{filter_all, filter_none}
use Rattle.qx_geom.specs.Lists.{is_in}
use Rattle.qx_geom.specs.Pointer.{ceil_div}
use Rattle.qx_geom.specs.Positions.{Shape, at_level, has_position, index_above, is_named, present_after, shape_of}
use Rattle.qx_geom.specs.Touch.{changed_leaves, fresh_at, is_fresh, is_touched, leaves_without, need_of, need_of_change}

-- numbers that are all 0 have the sum 0
sum_none : (f : ℕ → ℕ) (xs : List ℕ) → ((x : ℕ) → f x ≡ 0) → sum_by f xs ≡ 0
sum_none f [] none = refl
sum_none f (x ∷ xs) none = let start : 0 + f x ≡ 0 = omega (arith, none x) in ap (λ a. fold (λ b y. b + f y) a xs) start ∙ sum_none f xs none

-- no leaf is without itself
none_without : (s : Shape) → leaves_without s s ≡ []
none_without s = filter_none (λ i. not (is_in s.present i)) s.present (λ i m. ap not m)

-- no leaf changed
none_changed : (s : Shape) → changed_leaves s s [] ≡ []
none_changed s = ap (λ xs. xs ++ leaves_without s s) (none_without s) ∙ none_without s

-- none takes a fresh block
none_fresh : (blocksize : ℕ) (s : Shape) (private : ℕ → ℕ → Bool) (k : ℕ) → fresh_at blocksize s s [] private k ≡ []
none_fresh blocksize s private k = filter_none (is_fresh blocksize s s [] private k) (at_level blocksize s k) (λ j m. fails j m)
  where
    untouched : (j : ℕ) → has_position blocksize s k j ≡ true → is_touched blocksize s s [] k j ≡ false
    untouched j m =
        let le : k ≤ s.levels = (leaf_below blocksize s k j m).0 in
        subst (λ xs. (nat_lt s.levels k || list_any (λ i. index_above blocksize k i == j) xs) ≡ false) (sym (none_changed s)) (ap (λ b. b || false) (le-ltb s.levels k le))

    fails : (j : ℕ) → has_position blocksize s k j ≡ true → is_fresh blocksize s s [] private k j ≡ false
    fails j m = λ z. not (m z) || (untouched j m z && not (private k j))

-- a node whose shape stays and into which nothing is written needs no block
pub no_need : (blocksize : ℕ) (s : Shape) (private : ℕ → ℕ → Bool) → need_of blocksize s s [] private ≡ 0
unfolding need_of
no_need blocksize s private = sum_none (λ k. length (fresh_at blocksize s s [] private k)) (range_with_len 0 (s.levels + 1)) (λ k. ap length (none_fresh blocksize s private k))

-- the present leaves stay where they lie below the end and none is written or taken out
pub present_stays : (present : List ℕ) (leaves : ℕ) → ((i : ℕ) → is_in present i ≡ true → i < leaves) → present_after present leaves [] None ≡ present
unfolding present_after
present_stays present leaves within = filter_all (λ i. nat_lt i leaves && not (is_named None i)) present (λ i m. λ z. lt-ltb i leaves (within i m) z && true)

-- a change to the same size that writes nothing and takes nothing out needs no block
pub no_change_no_need : (blocksize size : ℕ) (present : List ℕ) (private : ℕ → ℕ → Bool) → ((i : ℕ) → is_in present i ≡ true → i < ceil_div size blocksize)
    → need_of_change blocksize (shape_of blocksize size present) size [] None private ≡ 0
no_change_no_need blocksize size present private within =
    ap (λ xs. need_of blocksize (shape_of blocksize size present) (shape_of blocksize size xs) [] private) (present_stays present (ceil_div size blocksize) within) ∙ no_need blocksize (shape_of blocksize size present) private
