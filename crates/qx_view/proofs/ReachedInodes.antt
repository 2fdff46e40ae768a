-- The walk comes to the reached inodes, to each once.
use Rattle.std.proofs.Common.{◌≡◌, ℕ, [], ◌∷◌, ◌+◌, subst}
use Rattle.std.specs.Prelude.{◌↔◌, Some, Contains}
use Rattle.qx_geom.proofs.ImagesAndFilters.{Contains-image}
use Rattle.qx_geom.specs.Lists.{Distinct}
use Rattle.qx_model.specs.Tree.{Entry, Reached, Tree, entry_of}
use Rattle.qx_nodes.specs.BlockMap.{BlockMap}
use Rattle.qx_view.proofs.MetBlocks.{differ_distinct}
use Rattle.qx_view.proofs.OuterNodes.{walked_has}
use Rattle.qx_view.proofs.RoomForPointers.{tree_sized}
use Rattle.qx_view.proofs.TestsFromTree.{TakenIn, queue_is, taken_differ, taken_in}
use Rattle.qx_view.specs.Images.{Roots, inode_places}
use Rattle.qx_view.specs.Reading.{IsTreeOf}
use Rattle.qx_view.specs.Walk.{Taken, taken_of, walked_inodes}

module _ (m : BlockMap) (r : Roots) (t : Tree) (is : IsTreeOf m r t) where
  -- an inode to which the walk comes is reached
  walked_reached : (n : ℕ) → Contains (walked_inodes m r) n → Reached t n
  walked_reached n c =
      let u : (x : Taken) × Contains (taken_of m r) x × (x.inode ≡ n) = Contains-image (λ x. x.inode) (taken_of m r) n c in
      let x : TakenIn m r t is u.0 = taken_in m r t is u.0 u.1 in
      is.rooted.reached n x.entry (subst (λ k. entry_of t k ≡ Some x.entry) u.2 x.at)

  -- and a reached one is come to
  reached_walked : (n : ℕ) → Reached t n → Contains (walked_inodes m r) n
  reached_walked n h = let e : (e : Entry) × (entry_of t n ≡ Some e) = is.rooted.closed n h in walked_has m r t (tree_sized m r t is) is n e.0 e.1

  -- the walk comes to these and to no other
  pub walked_are_reached : (n : ℕ) → Contains (walked_inodes m r) n ↔ Reached t n
  walked_are_reached n = (walked_reached n, reached_walked n)

  -- to each once
  pub walked_once : Distinct (walked_inodes m r)
  walked_once = differ_distinct (walked_inodes m r) (taken_differ m r (inode_places r + 1) ((1, 1) ∷ []) (1 ∷ []) (queue_is m r t is))
