-- When a tree is what blocks mean: a relation, by cases.
use Rattle.std.specs.Prelude.{◌≡◌, ℕ, ◌<◌, false, List, length, Option, Some, IsTrue, slice_get, Contains}
use Rattle.std.specs.List.{list_all}
use Rattle.qx_geom.specs.declared.root.Root.{Root}
use Rattle.qx_geom.specs.Lists.{each_below}
use Rattle.qx_nodes.specs.BlockMap.{BlockMap}
use Rattle.qx_nodes.specs.Leaves.{leaves_below}
use Rattle.qx_nodes.specs.LongNames.{long_name}
use Rattle.qx_nodes.specs.NodeContents.{node_content}
use Rattle.qx_nodes.specs.Visits.{Visit, visits_of, present_of}
use Rattle.qx_nodes.specs.Content.{levels_fit, root_fits}
use Rattle.qx_records.specs.NameRecord.{RawRecord}
use Rattle.qx_model.specs.Owners.{Owner, OfInodes, OfLongfile, OfFurther, OfInode}
use Rattle.qx_model.specs.Rooted.{IsRooted}
use Rattle.qx_model.specs.Tree.{Slot, Entry, Tree, entry_of, is_special_body}
use Rattle.qx_super.specs.Superblock.{Superblock}
use Rattle.qx_super.specs.Active.{active_super}
use Rattle.qx_view.specs.Entries.{IsEntryOf, Reader, slot_by, slots_in}
use Rattle.qx_view.specs.Images.{Roots, main_roots, image_blocks, inode_places, inode_of, has_inode}

-- ---- entries

-- how the nodes of an image are read, whose Longfile this is
abbrev pub reader_of : BlockMap → Root → Reader
reader_of m longfile = record { order = m.order; blocksize = m.size; names = long_name m longfile }

-- what a record says: none where it is bad, or where its long name is missing or has another checksum
abbrev pub slot_of : BlockMap → Root → RawRecord → Option Slot
slot_of m longfile raw = slot_by (long_name m longfile) raw

-- what all the records of a directory say
abbrev pub slots_read : BlockMap → Root → Root → List (Option Slot)
slots_read m longfile node = slots_in (reader_of m longfile) (node_content m node)

-- the entry of inode n: it has a place, its node's levels are within bounds, and it and its node's content are the entry
pub record IsEntry (m : BlockMap) (r : Roots) (n : ℕ) (e : Entry) : Type 0 where
  pub there : IsTrue (has_inode r.inodes n)
  pub positive : 0 < n
  pub levels : is_special_body e.body ≡ false → IsTrue (levels_fit m (inode_of m r.inodes n).root)
  pub is : IsEntryOf (reader_of m r.longfile) (inode_of m r.inodes n) (node_content m (inode_of m r.inodes n).root) e

-- ---- positions

-- the node of an owner; a special has none
abbrev pub HasNode : BlockMap → Roots → Tree → Owner → Root → Type 0
HasNode m r t OfInodes node = node ≡ r.inodes
HasNode m r t OfLongfile node = node ≡ r.longfile
HasNode m r t (OfFurther k) node = slice_get r.further k ≡ Some node
HasNode m r t (OfInode n) node = (e : Entry) × (entry_of t n ≡ Some e) × (is_special_body e.body ≡ false) × (node ≡ (inode_of m r.inodes n).root)

-- a block stands at this position of the owner's node
abbrev pub StandsAt : BlockMap → Roots → Tree → Owner → Visit → Type 0
StandsAt m r t o v = (node : Root) × HasNode m r t o node × Contains (visits_of m node) v

-- a pointer of the tree leads to the block
abbrev pub IsHeld : BlockMap → Roots → Tree → ℕ → Type 0
IsHeld m r t b = (o : Owner) × (v : Visit) × StandsAt m r t o v × (v.block ≡ b)

-- each pointer of the tree is a block's number
abbrev pub IsUndamaged : BlockMap → Roots → Tree → Type 0
IsUndamaged m r t = (o : Owner) (v : Visit) → StandsAt m r t o v → v.block < m.count

-- no block stands at two positions
abbrev pub IsApart : BlockMap → Roots → Tree → Type 0
IsApart m r t = (o p : Owner) (v w : Visit) → StandsAt m r t o v → StandsAt m r t p w → v.block ≡ w.block → (o ≡ p) × (v ≡ w)

-- ---- trees

-- t is the tree that begins at these roots
pub record IsTreeOf (m : BlockMap) (r : Roots) (t : Tree) : Type 0 where
  pub inodes_fit : IsTrue (root_fits m r.inodes)
  pub longfile_fits : IsTrue (root_fits m r.longfile)
  pub further_fit : IsTrue (list_all (root_fits m) r.further)
  pub rooted : IsRooted t
  pub places : length t.inodes ≡ inode_places r
  pub each : (n : ℕ) (e : Entry) → entry_of t n ≡ Some e → IsEntry m r n e
  pub undamaged : IsUndamaged m r t
  pub apart : IsApart m r t
  pub long_size : t.long_size ≡ r.longfile.size
  pub long_names : t.long_names ≡ each_below (leaves_below m r.longfile) (λ n. long_name m r.longfile n)
  pub long_present : t.long_present ≡ present_of m r.longfile

-- t is the tree of an image
abbrev pub IsTree : List ℕ → Tree → Type 0
IsTree img t = (s : Superblock) × (active_super img ≡ Some s) × IsTreeOf (image_blocks img s) (main_roots s) t
