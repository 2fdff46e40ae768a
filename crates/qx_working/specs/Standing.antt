-- When a working state can be read over blocks, and when it stands for a tree, and for the ids of its blocks.
use Rattle.std.specs.Prelude.{◌≡◌, ℕ, length, Some, IsTrue}
use Rattle.qx_geom.specs.declared.root.Root.{Root}
use Rattle.qx_blocks.specs.BlockState.{BlockState}
use Rattle.qx_ptree.specs.Trees.{IsWorking, block_map}
use Rattle.qx_batch.specs.Nodes.{AreAllMet}
use Rattle.qx_model.specs.Machine.{Copy}
use Rattle.qx_model.specs.Tree.{Tree}
use Rattle.qx_copies.specs.Copies.{node_in}
use Rattle.qx_copies.specs.Standing.{AreBounded, Represents, RepresentsIds}
use Rattle.qx_working.specs.declared.working.Working.{Working}
use Rattle.qx_working.specs.Links.{HasLinks}
use Rattle.qx_working.specs.States.{copy_of}

-- a state that can be read over blocks, told or not: its nodes are within the bounds, it has one order and a link for each inode; where bytes are told, each block that a node meets is one that the working tree holds
pub record IsReadable (m : BlockState) (w : Working) : Type 0 where
  pub bounded : AreBounded (block_map w.order m) (node_in (copy_of w))
  pub order : w.table.order ≡ w.order
  pub places : length w.links ≡ length w.table.inodes
  pub works : IsTrue m.tells → (o : ℕ) (node : Root) → node_in (copy_of w) o ≡ Some node → IsWorking w.order m node

-- where bytes are told: the copy stands for the tree, and the links are the tree's
pub record IsToldState (m : BlockState) (w : Working) (t : Tree) : Type 0 where
  pub represents : Represents (block_map w.order m) (copy_of w) t
  pub links : HasLinks w.links t

-- the state can be read, and stands for a tree
pub record StandsForTree (m : BlockState) (w : Working) (t : Tree) : Type 0 where
  pub readable : IsReadable m w
  pub told : IsTrue m.tells → IsToldState m w t

-- the state stands for a tree and ids, read as blocks, and the working tree holds no block that no node meets
pub record StandsForIds (m : BlockState) (w : Working) (k : Copy) (block : ℕ → ℕ) : Type 0 where
  pub tree : StandsForTree m w k.tree
  pub ids : IsTrue m.tells → RepresentsIds (block_map w.order m) (copy_of w) k block
  pub all_met : IsTrue m.tells → AreAllMet w.order m (node_in (copy_of w))
