-- The nodes of a state that can be read, and what is read of its directories where it stands for a tree.
use Rattle.std.proofs.Common.{◌≡◌, ℕ, zero, suc, ◌/◌, List, [], refl}
use Rattle.std.specs.Prelude.{position, Bool, Option, Some, None, Result, Ok, Err, IfOk, IsTrue, map, option_and_then}
use Rattle.qx_geom.specs.declared.root.Root.{Root}
use Rattle.qx_geom.specs.Lists.{each_below}
use Rattle.qx_nodes.specs.Content.{Reaches}
use Rattle.qx_records.specs.declared.inode.Inode.{Inode}
use Rattle.qx_records.specs.declared.kind.Kind.{Kind}
use Rattle.qx_records.specs.declared.kind.Kind.TheVariants as kinds
use Rattle.qx_records.specs.InodeRecord.{kind_of}
use Rattle.qx_blocks.specs.BlockState.{BlockState, IsConsistent}
use Rattle.qx_ptree.specs.Trees.{HasLevels, block_map}
use Rattle.qx_model.specs.Directories.{is_bare, is_unused}
use Rattle.qx_model.specs.Tree.{Tree, slots_of}
use Rattle.qx_copies.specs.Copies.{BlockCopy, inode_at, node_in, node_of_inode, node_of_kind}
use Rattle.qx_working.specs.declared.working.Working.{Working}
use Rattle.qx_working.specs.Standing.{IsReadable, StandsForTree}
use Rattle.qx_working.specs.States.{copy_of}
use Rattle.qx_working.proofs.LaidNodes.{levels_in}
use Rattle.qx_lookup.specs.declared.rows.FoundRow.{FoundRow}
use Rattle.qx_lookup.specs.Names.{IsRowNamed, directory_in, directory_of_kind}
use Rattle.qx_lookup.specs.Links.{IsBareFrom}
use Rattle.qx_lookup.specs.Rows.{IsFirstRow, slot_in}
use Rattle.qx_lookup.specs.UnusedRecords.{IsFirstOf, says_unused}
use Rattle.qx_lookup.proofs.BareRecords.{bare_listed}
use Rattle.qx_lookup.proofs.DirectoryRecords.{reaches}
use Rattle.qx_lookup.proofs.FreeRecords.{unused_listed}
use Rattle.qx_lookup.proofs.NamedRows.{row_listed}
use Rattle.qx_lookup.proofs.ToldDirectories.{no_slots, told_slots}

-- ---- nodes

-- a directory's node is its number's
pub directory_node : (c : BlockCopy) (d : ℕ) (node : Root) → directory_in c.inodes d ≡ Some node → node_in c d ≡ Some node
directory_node c zero node e = absurd (cc)
directory_node c (suc d) node e = go (inode_at c.inodes (suc d)) e
  where
    by_kind : (root : Root) (k : Option Kind) → directory_of_kind root k ≡ Some node → node_of_kind root k ≡ Some node
    by_kind root None e = absurd (cc)
    by_kind root (Some kinds.Directory) e = e
    by_kind root (Some kinds.File) e = absurd (cc)
    by_kind root (Some kinds.Link) e = absurd (cc)
    by_kind root (Some kinds.Special) e = absurd (cc)

    go : (x : Option Inode) → option_and_then (λ (i : Inode). directory_of_kind i.root (kind_of i.mode)) x ≡ Some node → option_and_then node_of_inode x ≡ Some node
    go None e = absurd (cc)
    go (Some i) e = by_kind i.root (kind_of i.mode) e

-- the levels of a node that can be read
pub node_levels : (m : BlockState) (w : Working) (o : ℕ) (node : Root) → IsReadable m w → node_in (copy_of w) o ≡ Some node → HasLevels m.holdings.size node
node_levels m w o node s there =
    let fit = levels_in node.size node.levels m.holdings.size (s.bounded.levels o node there) in
    record { most = fit.0; reached = fit.1 }

-- ---- directories

module _ (m : BlockState) (w : Working) (consistent : IsConsistent m) (tells : IsTrue m.tells) (t : Tree) (stands : StandsForTree m w t) where
  -- its Longfile's levels reach its size
  long_reaches : Reaches (block_map w.order m) w.long
  long_reaches = reaches w.order m w.long consistent.size (node_levels m w 0 w.long stands.readable refl)

  -- a directory's records say its slots
  pub slots_told : (d : ℕ) (node : Root) → directory_in w.table.inodes d ≡ Some node → each_below (node.size / 32) (slot_in (block_map w.order m) w.long node) ≡ map (λ s. Some s) (slots_of t d)
  slots_told d node is = told_slots (block_map w.order m) (copy_of w) t long_reaches (stands.told tells).represents.shows d node is

  -- what is no directory has none
  pub slots_none : (d : ℕ) → directory_in w.table.inodes d ≡ None → slots_of t d ≡ []
  slots_none d is = no_slots (block_map w.order m) (copy_of w) t long_reaches (stands.told tells).represents.shows d is

-- a row that was found is the tree's
pub row_told : {E : Type 0} (m new : BlockState) (w : Working) (d : ℕ) (node : Root) (name : List ℕ) (result : Result (Option FoundRow) E) → IsConsistent m → (IsTrue new.tells → IsTrue m.tells) → directory_in w.table.inodes d ≡ Some node
    → IfOk result (λ found. IsTrue new.tells → IsFirstRow (slot_in (block_map w.order m) w.long node) name 0 (node.size / 32) found)
    → IfOk result (λ found. IsTrue new.tells → (t : Tree) → StandsForTree m w t → IsRowNamed t d name found)
row_told m new w d node name (Ok found) consistent before is row = λ told t stands.
    row_listed (slot_in (block_map w.order m) w.long node) (node.size / 32) t d name (slots_told m w consistent (before told) t stands d node is) found (row told)
row_told m new w d node name (Err stop) consistent before is row = tt

-- so is whether a directory is bare
pub bare_told : {E : Type 0} (m new : BlockState) (w : Working) (d : ℕ) (node : Root) (result : Result Bool E) → IsConsistent m → (IsTrue new.tells → IsTrue m.tells) → directory_in w.table.inodes d ≡ Some node
    → IfOk result (λ bare. IsTrue new.tells → IsBareFrom (slot_in (block_map w.order m) w.long node) 0 (node.size / 32) bare)
    → IfOk result (λ bare. IsTrue new.tells → (t : Tree) → StandsForTree m w t → bare ≡ is_bare t d)
bare_told m new w d node (Ok bare) consistent before is said = λ told t stands.
    bare_listed (slot_in (block_map w.order m) w.long node) (node.size / 32) t d (slots_told m w consistent (before told) t stands d node is) bare (said told)
bare_told m new w d node (Err stop) consistent before is said = tt

-- and which record is the first unused one
pub unused_told : {E : Type 0} (m new : BlockState) (w : Working) (d : ℕ) (node : Root) (result : Result (Option ℕ) E) → IsConsistent m → (IsTrue new.tells → IsTrue m.tells) → directory_in w.table.inodes d ≡ Some node
    → IfOk result (λ found. IsTrue new.tells → (longfile : Root) → IsFirstOf (λ k. says_unused (slot_in (block_map w.order m) longfile node k)) 0 (node.size / 32) found)
    → IfOk result (λ found. IsTrue new.tells → (t : Tree) → StandsForTree m w t → found ≡ position is_unused (slots_of t d))
unused_told m new w d node (Ok found) consistent before is said = λ told t stands.
    unused_listed (slot_in (block_map w.order m) w.long node) (node.size / 32) t d (slots_told m w consistent (before told) t stands d node is) found (said told w.long)
unused_told m new w d node (Err stop) consistent before is said = tt
