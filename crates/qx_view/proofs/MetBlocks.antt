-- The walk comes to the blocks that the tree holds, to each once, and to no other.
use Rattle.std.proofs.Common.{◌≡◌, ℕ, ◌↔◌, List, [], ◌∷◌, sym, subst}
use Rattle.std.specs.Prelude.{true, not, Contains, map}
use Rattle.qx_geom.proofs.ImagesAndFilters.{in_Contains, Contains-image}
use Rattle.qx_geom.proofs.Truths.{and_left, and_right, not_true, true_or_false}
use Rattle.qx_geom.specs.Lists.{Distinct, all_differ, is_in}
use Rattle.qx_model.specs.Tree.{Tree}
use Rattle.qx_nodes.specs.BlockMap.{BlockMap}
use Rattle.qx_nodes.specs.Content.{HasSize}
use Rattle.qx_nodes.specs.Visits.{Visit}
use Rattle.qx_view.proofs.AlikeLists.{members_map}
use Rattle.qx_view.proofs.ApartPositions.{all_placed, block_at, met_all, stands_placed, tree_is}
use Rattle.qx_view.proofs.OneTree.{tree_unique}
use Rattle.qx_view.proofs.TestsAndTree.{met_differ, no_test_fails, placed_stands}
use Rattle.qx_view.proofs.TreeFound.{tree_found}
use Rattle.qx_view.specs.Images.{Roots}
use Rattle.qx_model.specs.Owners.{Owner}
use Rattle.qx_view.specs.Reading.{IsHeld, IsTreeOf, StandsAt}
use Rattle.qx_view.specs.Usage.{met_blocks}

-- numbers that differ stand at one place each
pub differ_distinct : (xs : List ℕ) → all_differ xs ≡ true → Distinct xs
differ_distinct [] e = tt
differ_distinct (x ∷ xs) e = (
  λ c. true_or_false (is_in xs x) (in_Contains xs x c) (not_true (is_in xs x) (and_left (not (is_in xs x)) (all_differ xs) e)),
  differ_distinct xs (and_right (not (is_in xs x)) (all_differ xs) e),
)

-- a block that the walk meets is held
met_is_held : (m : BlockMap) (r : Roots) (t : Tree) (b : ℕ) → HasSize m → IsTreeOf m r t → Contains (met_blocks m r) b → IsHeld m r t b
met_is_held m r t b size is c =
    let x : (x : Owner × Visit) × Contains (all_placed m r) x × (block_at x ≡ b) = Contains-image block_at (all_placed m r) b (subst (λ z. Contains z b) (met_all m r) c) in
    (x.0.0, x.0.1, placed_stands m r t size is x.0 x.1, x.2)

-- and a held block is met
held_is_met : (m : BlockMap) (r : Roots) (t : Tree) (b : ℕ) → HasSize m → IsTreeOf m r t → IsHeld m r t b → Contains (met_blocks m r) b
held_is_met m r t b size is (o, v, at, e) =
    let none = no_test_fails m r t size is in
    let same : t ≡ tree_found m r = tree_unique m r t (tree_found m r) is (tree_is m r size none) in
    let placed : Contains (all_placed m r) (o, v) = stands_placed m r size none o v (subst (λ x. StandsAt m r x o v) same at) in
    subst (λ z. Contains z b) (sym (met_all m r)) (subst (λ z. Contains (map block_at (all_placed m r)) z) e (members_map block_at (all_placed m r) (o, v) placed))

-- the walk meets the held blocks
pub met_held : (m : BlockMap) (r : Roots) (t : Tree) (b : ℕ) → HasSize m → IsTreeOf m r t → Contains (met_blocks m r) b ↔ IsHeld m r t b
met_held m r t b size is = (met_is_held m r t b size is, held_is_met m r t b size is)

-- each of them once
pub met_distinct : (m : BlockMap) (r : Roots) (t : Tree) → HasSize m → IsTreeOf m r t → Distinct (met_blocks m r)
met_distinct m r t size is = differ_distinct (met_blocks m r) (met_differ m r t size is)
