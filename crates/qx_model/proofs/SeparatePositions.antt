-- No position of a tree is listed twice, where the present leaves ascend.
use Rattle.std.proofs.Common.{◌≡◌, ℕ, zero, suc, ◌+◌, List, [], ◌∷◌, length, refl, sym, ap, ◌∙◌, subst, arith}
use Rattle.std.specs.Prelude.{Option, Some, None, Contains, map, flat_map}
use Rattle.std.specs.List.{range_with_len}
use Rattle.qx_geom.specs.Lists.{Distinct, IsAscending}
use Rattle.qx_geom.specs.Positions.{Shape, at_level}
use Rattle.qx_geom.proofs.AscendingLists.{ascending_distinct, level_ascends}
use Rattle.qx_geom.proofs.DistinctElements.{Distinct-append, Distinct-map}
use Rattle.qx_geom.proofs.Members.{Contains-cons, Contains-head}
use Rattle.qx_model.specs.Tree.{Entry, Tree, entry_of}
use Rattle.qx_model.specs.Owners.{OfFurther, OfInode, OfInodes, OfLongfile, Owner}
use Rattle.qx_model.specs.TreePositions.{Position, PresentAscend, entry_shape, owners_of, positions_by, positions_in_node, positions_of, shape_in}
use Rattle.qx_model.specs.Whole.{IsWhole}
use Rattle.qx_model.proofs.ListMembers.{flat_map-Contains, map-Contains, range-Contains}
use Rattle.qx_model.proofs.TreeNodes.{from_listed}

-- ---- lists

-- parts of which no two have an element in common, end to end
Distinct-flat_map : {A B : Type 0} (f : A → List B) (xs : List A) → Distinct xs → ((x : A) → Contains xs x → Distinct (f x))
    → ((x y : A) (b : B) → Contains xs x → Contains xs y → Contains (f x) b → Contains (f y) b → x ≡ y) → Distinct (flat_map f xs)
Distinct-flat_map f [] d each apart = tt
Distinct-flat_map f (x ∷ xs) d each apart =
    Distinct-append (f x) (flat_map f xs) (each x (Contains-head x xs))
    (Distinct-flat_map f xs d.1 (λ y c. each y (Contains-cons x y xs c)) (λ y z b c e. apart y z b (Contains-cons x y xs c) (Contains-cons x z xs e)))
    (λ b here there. let at = flat_map-Contains f xs b there in
    d.0 (subst (λ z. Contains xs z) (sym (apart x at.0 b (Contains-head x xs) (Contains-cons x at.0 xs at.1) here at.2)) at.1))

-- the numbers of a range
range_distinct : (a n : ℕ) → Distinct (range_with_len a n)
range_distinct a zero = tt
range_distinct a (suc n) = (λ c. let r = range-Contains (a + 1) n a c in omega (arith, r.0), range_distinct (a + 1) n)

-- ---- positions

-- those of one node
node_distinct : (f : ℕ → List ℕ) (o : Owner) (s : Shape) → ((k : ℕ) → Distinct (f k)) → Distinct (positions_by f o s)
node_distinct f o s each =
    Distinct-flat_map part (range_with_len 0 (s.levels + 1)) (range_distinct 0 (s.levels + 1))
    (λ k c. Distinct-map (at k) (f k) (λ i j same. ap (λ (p : Position). p.index) same) (each k))
    (λ k j p c e a b. let x = map-Contains (at k) (f k) p a in let y = map-Contains (at j) (f j) p b in ap (λ (q : Position). q.level) (x.2 ∙ sym y.2))
  where
    at : ℕ → ℕ → Position
    at k j = record { owner = o; level = k; index = j }

    part : ℕ → List Position
    part k = map (at k) (f k)

-- no owner comes twice
owners_distinct : (t : Tree) → Distinct (owners_of t)
owners_distinct t = (no_longfile, Distinct-map (λ n. OfInode n) (range_with_len 1 (length t.inodes)) (λ n m same. one n m same) (range_distinct 1 (length t.inodes)))
  where
    one : (n m : ℕ) → OfInode n ≡ OfInode m → n ≡ m
    one n m same = cc

    no_longfile : Contains (map (λ n. OfInode n) (range_with_len 1 (length t.inodes))) OfLongfile → ⊥
    no_longfile c = let a = map-Contains (λ n. OfInode n) (range_with_len 1 (length t.inodes)) OfLongfile c in let is : OfInode a.0 ≡ OfLongfile = a.2 in absurd (cc)

-- all positions of a tree
pub positions_distinct : (blocksize : ℕ) (t : Tree) → PresentAscend blocksize t → Distinct (positions_of blocksize t)
positions_distinct blocksize t ascend =
    Distinct-flat_map node (owners_of t) (owners_distinct t)
    (λ o c. node_distinct (at_level blocksize (shape_in blocksize t o)) o (shape_in blocksize t o) (λ k. ascending_distinct (at_level blocksize (shape_in blocksize t o) k) (level_ascends blocksize k (shape_in blocksize t o) (ascend o))))
    (λ o q p c e a b. sym (from_listed (at_level blocksize (shape_in blocksize t o)) o (shape_in blocksize t o) p a).owner ∙ (from_listed (at_level blocksize (shape_in blocksize t q)) q (shape_in blocksize t q) p b).owner)
  where
    node : Owner → List Position
    node o = positions_in_node blocksize o (shape_in blocksize t o)

-- the present leaves of a whole tree ascend
whole_ascends : (blocksize : ℕ) (t : Tree) → IsWhole blocksize t → PresentAscend blocksize t
whole_ascends blocksize t w OfLongfile = w.longs.ascends
whole_ascends blocksize t w OfInodes = tt
whole_ascends blocksize t w (OfFurther k) = tt
whole_ascends blocksize t w (OfInode n) = go (entry_of t n) refl
  where
    go : (o : Option Entry) → entry_of t n ≡ o → IsAscending (entry_shape blocksize o).present
    go None is = tt
    go (Some e) is = (w.entries n e is).ascends

-- so no position of one is listed twice
pub whole_distinct : (blocksize : ℕ) (t : Tree) → IsWhole blocksize t → Distinct (positions_of blocksize t)
whole_distinct blocksize t w = positions_distinct blocksize t (whole_ascends blocksize t w)
