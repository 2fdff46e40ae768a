-- When an edit of the tree for which a state stood was made over its blocks.
use Rattle.std.specs.Prelude.{◌≡◌, ◌*◌, ◌≤◌, ℕ, suc, false, List, Some, IsTrue}
use Rattle.qx_geom.specs.declared.root.Root.{Root}
use Rattle.qx_records.specs.declared.inode.Inode.{Inode}
use Rattle.qx_blocks.specs.BlockState.{BlockState}
use Rattle.qx_ptree.specs.Trees.{block_map}
use Rattle.qx_batch.specs.declared.planned.Planned.{Planned}
use Rattle.qx_batch.specs.Nodes.{AreAllMet, AreLaid, Nodes}
use Rattle.qx_model.specs.Edits.{Edit}
use Rattle.qx_model.specs.Rooted.{IsRooted}
use Rattle.qx_model.specs.Tree.{Tree}
use Rattle.qx_model.specs.Whole.{AreUsed, IsWhole}
use Rattle.qx_view.specs.Sound.{has_tail}
use Rattle.qx_copies.specs.Copies.{contents_of, inode_at, node_in}
use Rattle.qx_copies.specs.Shown.{Shows}
use Rattle.qx_copies.specs.Standing.{IsOwnCopy, IsOwnInode}
use Rattle.qx_working.specs.declared.working.Working.{Working}
use Rattle.qx_working.specs.Links.{HasLinks}
use Rattle.qx_working.specs.Standing.{IsReadable, StandsForTree}
use Rattle.qx_working.specs.States.{copy_of}
use Rattle.qx_placing.specs.MovedNodes.{IsEdited, KeepsShared}
use Rattle.qx_placing.specs.PlannedEdits.{HasNodesOf}

-- the state stands for a tree, laid out as this project does, and the working tree holds no block that no node meets
pub record StandsForOwn (m : BlockState) (w : Working) (t : Tree) : Type 0 where
  pub tree : StandsForTree m w t
  pub own : IsTrue m.tells → IsOwnCopy (block_map w.order m) (copy_of w) t
  pub all_met : IsTrue m.tells → AreAllMet w.order m (node_in (copy_of w))

-- planned changes made the edit of the tree for which the state stood; it stands for the edited tree, and no block that another tree holds was written
pub record HasEdited (m n : BlockState) (w x : Working) (t : Tree) (e : Edit) : Type 0 where
  pub nodes : Nodes
  pub after : Nodes
  pub plans : List Planned
  pub order : x.order ≡ w.order
  pub edited : IsEdited w.order m n (copy_of w) (copy_of x) t nodes after plans e
  pub stands : StandsForOwn n x e.tree
  pub shared : KeepsShared m n
  pub shared_bytes : (b : ℕ) → IsTrue (m.holdings.held b) → m.holdings.private b ≡ false → n.bytes b ≡ m.bytes b

-- ---- what an operation has to show of its edit

-- a state that is changed has the nodes of the one before, and maybe others of nothing, as of an inode that is to come; they lie over the blocks
pub record BeginsAs (m : BlockState) (w v : Working) : Type 0 where
  pub order : v.order ≡ w.order
  pub laid : AreLaid w.order m (node_in (copy_of v))
  pub has : HasNodesOf (copy_of w) (node_in (copy_of v))

-- the last state has the nodes of the changed one, but maybe some of nothing, as of an inode that has gone; its inodes are as this project writes them, and nothing has a tail
pub record EndsAs (n : BlockState) (after x : Working) : Type 0 where
  pub order : x.order ≡ after.order
  pub has : HasNodesOf (copy_of x) (node_in (copy_of after))
  pub readable : IsReadable n x
  pub inodes : (k : ℕ) (i : Inode) → inode_at x.table.inodes k ≡ Some i → IsOwnInode i
  pub tails : (k : ℕ) (node : Root) → node_in (copy_of x) (suc k) ≡ Some node → has_tail (block_map x.order n) node ≡ false
  pub longfile : x.long.size ≤ n.holdings.count * n.holdings.size

-- it shows a tree that is sound by itself
pub record ShowsSound (n : BlockState) (x : Working) (u : Tree) : Type 0 where
  pub shows : Shows x.order n.holdings.size x.table.inodes (contents_of (block_map x.order n) (copy_of x)) u
  pub links : HasLinks x.links u
  pub rooted : IsRooted u
  pub whole : IsWhole n.holdings.size u
  pub used : AreUsed u
