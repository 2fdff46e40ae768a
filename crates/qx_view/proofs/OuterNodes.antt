-- The nodes outside the halves: the Longfile's, and those of the tree's inodes but for specials.
use Rattle.std.proofs.Common.{◌≡◌, ℕ, ap, ◌∙◌, subst}
use Rattle.std.specs.Prelude.{true, false, not, Some, Contains, map, filter}
use Rattle.qx_geom.proofs.Members.{Contains-cons, Contains-head}
use Rattle.qx_geom.specs.Lists.{is_in}
use Rattle.qx_geom.specs.declared.root.Root.{Root}
use Rattle.qx_model.specs.Tree.{Entry, Tree, entry_of, is_special_body}
use Rattle.qx_nodes.specs.BlockMap.{BlockMap}
use Rattle.qx_nodes.specs.Content.{HasSize}
use Rattle.qx_nodes.specs.Visits.{Visit, visits_of}
use Rattle.qx_view.proofs.AlikeLists.{members_filter, members_flat_map, members_map}
use Rattle.qx_view.proofs.ApartPositions.{tree_is}
use Rattle.qx_view.proofs.OneTree.{tree_unique}
use Rattle.qx_view.proofs.TestsAndTree.{no_test_fails}
use Rattle.qx_view.proofs.TestsFromTree.{special_here}
use Rattle.qx_view.proofs.TreeFound.{TakenWith, in_entry, parent_in, taken_with, tree_found}
use Rattle.qx_view.proofs.WalkEnds.{inodes}
use Rattle.qx_view.specs.Images.{Roots}
use Rattle.qx_view.specs.Reading.{IsTreeOf}
use Rattle.qx_view.specs.Sound.{is_special_inode, outer_blocks, outer_nodes}
use Rattle.qx_view.specs.Walk.{inode_root, taken_of, walked_inodes}

module _ (m : BlockMap) (r : Roots) (t : Tree) (size : HasSize m) (is : IsTreeOf m r t) where
  -- the walk comes to each inode of the tree
  pub walked_has : (n : ℕ) (e : Entry) → entry_of t n ≡ Some e → Contains (walked_inodes m r) n
  walked_has n e at =
      let same : t ≡ tree_found m r = tree_unique m r t (tree_found m r) is (tree_is m r size (no_test_fails m r t size is)) in
      let listed : is_in (inodes (taken_of m r)) n ≡ true = (in_entry m r n e (subst (λ x. entry_of x n ≡ Some e) same at)).0 in
      let u : TakenWith (taken_of m r) n (parent_in (taken_of m r) n) = taken_with (taken_of m r) n listed in
      subst (λ k. Contains (walked_inodes m r) k) u.inode (members_map (λ x. x.inode) (taken_of m r) u.it u.among)

  -- what a node outside the halves meets is one of the blocks outside
  pub outer_has : (node : Root) (v : Visit) → Contains (outer_nodes m r) node → Contains (visits_of m node) v → Contains (outer_blocks m r) v.block
  outer_has node v among c = members_flat_map (λ x. map (λ v. v.block) (visits_of m x)) (outer_nodes m r) node v.block among (members_map (λ v. v.block) (visits_of m node) v c)

  -- the Longfile's is outside
  pub longfile_outer : Contains (outer_nodes m r) r.longfile
  longfile_outer = Contains-head r.longfile (map (inode_root m r) (filter (λ n. not (is_special_inode m r n)) (walked_inodes m r)))

  -- and each node of an inode of the tree
  pub inode_outer : (n : ℕ) (e : Entry) → entry_of t n ≡ Some e → is_special_body e.body ≡ false → Contains (outer_nodes m r) (inode_root m r n)
  inode_outer n e at some =
      Contains-cons r.longfile (inode_root m r n) (map (inode_root m r) (filter (λ n. not (is_special_inode m r n)) (walked_inodes m r)))
      (members_map (inode_root m r) (filter (λ n. not (is_special_inode m r n)) (walked_inodes m r)) n
      (members_filter (λ n. not (is_special_inode m r n)) (walked_inodes m r) n (walked_has n e at) (ap (λ b. not b) (special_here m r t is n e at ∙ some))))
