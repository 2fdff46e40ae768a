-- The copy that an image has: its inodes by number, and its Longfile's node.
use Rattle.std.specs.Prelude.{◌≡◌, ℕ, zero, suc, ◌<◌, ◌≤◌, length, Option, Some, None, IsTrue, if◌then◌else◌, slice_get, Contains}
use Rattle.std.specs.List.{list_all}
use Rattle.qx_geom.specs.declared.root.Root.{Root}
use Rattle.qx_geom.specs.Lists.{is_in}
use Rattle.qx_nodes.specs.BlockMap.{BlockMap}
use Rattle.qx_nodes.specs.Content.{root_fits}
use Rattle.qx_nodes.specs.Visits.{Visit, visits_of}
use Rattle.qx_records.specs.declared.inode.Inode.{Inode}
use Rattle.qx_view.specs.Images.{Roots, inode_of, inode_places}
use Rattle.qx_view.specs.Walk.{walked_inodes}
use Rattle.qx_copies.specs.Copies.{BlockCopy, inode_at, node_in}
use Rattle.qx_copies.specs.Standing.{AreUndamaged}

-- each inode of the copy stands at its number in the Inode tree, which has as many places, and the Longfile's node is a root
pub record HasInodesAt (m : BlockMap) (r : Roots) (c : BlockCopy) : Type 0 where
  pub longfile : c.longfile ≡ r.longfile
  pub places : length c.inodes ≡ inode_places r
  pub inode : (n : ℕ) (i : Inode) → inode_at c.inodes n ≡ Some i → inode_of m r.inodes n ≡ i

-- the copy has the inodes to which the walk comes, and no other
pub record HasReached (m : BlockMap) (r : Roots) (c : BlockCopy) : Type 0 where
  pub longfile : c.longfile ≡ r.longfile
  pub places : length c.inodes ≡ inode_places r
  pub each : (n : ℕ) → 0 < n → n ≤ inode_places r → inode_at c.inodes n ≡ (if is_in (walked_inodes m r) n then Some (inode_of m r.inodes n) else None)

-- the nodes that a copy doesn't have: 0 is the Inode tree's, k + 1 a further root
abbrev pub further_nodes : Roots → ℕ → Option Root
further_nodes r zero = Some r.inodes
further_nodes r (suc k) = slice_get r.further k

-- these are within the bounds of root nodes, and no block stands at two positions of theirs, or in one of them and in a node of the copy
pub record LiesBeside (m : BlockMap) (r : Roots) (c : BlockCopy) : Type 0 where
  pub inodes_fit : IsTrue (root_fits m r.inodes)
  pub further_fit : IsTrue (list_all (root_fits m) r.further)
  pub undamaged : AreUndamaged m (further_nodes r)
  pub apart : (o q : ℕ) (a b : Root) (u v : Visit) → further_nodes r o ≡ Some a → node_in c q ≡ Some b → Contains (visits_of m a) u → Contains (visits_of m b) v → ¬ (u.block ≡ v.block)
