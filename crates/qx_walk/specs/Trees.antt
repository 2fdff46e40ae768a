-- What the walk of the whole tree knows in the end.
use Rattle.std.specs.Prelude.{◌≡◌, ◌+◌, ◌*◌, ◌-◌, ◌<◌, ◌≤◌, ℕ, Bool, true, List, [], ◌∷◌, length, min, None, Some, Option, is_some, if◌then◌else◌}
use Rattle.qx_blockset.specs.Members.{has, limit_of}
use Rattle.qx_geom.specs.declared.root.Root.{Root}
use Rattle.qx_geom.specs.Lists.{first_below, is_in}
use Rattle.qx_nodes.specs.BlockMap.{BlockMap}
use Rattle.qx_pointers.specs.declared.source.Shape.{Shape}
use Rattle.qx_records.specs.declared.inode.Inode.{Inode}
use Rattle.qx_records.specs.declared.kind.Kind.{Kind}
use Rattle.qx_records.specs.declared.kind.Kind.TheVariants as kinds
use Rattle.qx_records.specs.InodeRecord.{kind_of}
use Rattle.qx_view.specs.Images.{Roots, inode_places, places_in}
use Rattle.qx_view.specs.Sound.{bad_long_name, fails_dots, fails_nodes, fails_tail}
use Rattle.qx_view.specs.Usage.{met_blocks}
use Rattle.qx_view.specs.Walk.{finding_of, walked_inodes}
use Rattle.qx_walk.specs.declared.state.Notes.{Notes}
use Rattle.qx_walk.specs.declared.state.RootNodes.{RootNodes}
use Rattle.qx_walk.specs.declared.state.Walked.{Walked}
use Rattle.qx_pointers.specs.Marks.{Marks}
use Rattle.qx_pointers.specs.Parts.{IsInReach}
use Rattle.qx_tables.specs.Tables.{HoldsInodes, inode_at, places_of}

-- the lesser of a number that may be there and another
abbrev pub sooner : Option ℕ → ℕ → Option ℕ
sooner None n = Some n
sooner (Some k) n = Some (min k n)

-- the same, if it is to be noted
abbrev pub note_if : Bool → ℕ → Option ℕ → Option ℕ
note_if p n o = if p then sooner o n else o

-- what is noted of these inodes, of the Longfile and of the Inode tree
pub record IsNoted (m : BlockMap) (r : Roots) (reached : List ℕ) (notes : Notes) : Type 0 where
  pub nodes : notes.nodes ≡ first_below (fails_nodes m r reached) (inode_places r + 1)
  pub dots : notes.nodes ≡ None → notes.dots ≡ first_below (fails_dots m r reached) (inode_places r + 1)
  pub tails : notes.tails ≡ first_below (fails_tail m r reached) (inode_places r + 1)

-- the tree that begins at these roots was walked, and no test failed
pub record IsWalked (m : BlockMap) (r : Roots) (w : Walked) : Type 0 where
  pub none : finding_of m r ≡ None
  pub met : Marks w.met (met_blocks m r)
  pub inodes : HoldsInodes m r.inodes w.table
  pub reached : (n : ℕ) → 0 < n → n ≤ inode_places r → has w.reached (n - 1) ≡ is_in (walked_inodes m r) n
  pub live : w.live ≡ length (walked_inodes m r)
  pub notes : IsNoted m r (walked_inodes m r) w.notes
  pub long : w.long ≡ bad_long_name m r (walked_inodes m r)

-- ---- whether the device tells or not

-- the sets of a walked tree have so many blocks, and its table's inodes
pub record HasLimits (count : ℕ) (w : Walked) : Type 0 where
  pub blocks : limit_of w.met ≡ count
  pub inodes : limit_of w.reached ≡ places_of w.table

-- the node of an inode of this kind is in reach of its levels, unless it is a special
abbrev pub HasNode : Shape → Root → Option Kind → Type 0
HasNode shape node None = Unit {0}
HasNode shape node (Some kinds.Directory) = IsInReach shape node
HasNode shape node (Some kinds.File) = IsInReach shape node
HasNode shape node (Some kinds.Link) = IsInReach shape node
HasNode shape node (Some kinds.Special) = Unit {0}

-- so it is of an inode's node, by the inode's kind
abbrev pub IsWalkedInode : Shape → Inode → Type 0
IsWalkedInode shape inode = HasNode shape inode.root (kind_of inode.mode)

-- an inode that was reached has a kind, and a node in reach where its kind has one
pub record IsReached (shape : Shape) (inode : Inode) : Type 0 where
  pub kind : is_some (kind_of inode.mode) ≡ true
  pub node : IsWalkedInode shape inode

-- what always holds of a tree that was walked from these root nodes: its table has the places of the Inode tree and the bytes of them, which lie within the volume; inode 1 is reached and a directory; each inode that is reached has a kind, and its node and the Longfile's are in reach
pub record HasBounds (shape : Shape) (roots : RootNodes) (w : Walked) : Type 0 where
  pub limits : HasLimits shape.count w
  pub places : places_of w.table ≡ places_in roots.inodes
  pub covered : places_of w.table * 128 ≤ length w.table.bytes.items
  pub inside : roots.inodes.size ≤ shape.count * shape.blocksize
  pub some : 0 < places_of w.table
  pub top : has w.reached 0 ≡ true
  pub directory : kind_of (inode_at w.table 1).mode ≡ Some kinds.Directory
  pub nodes : (n : ℕ) → 0 < n → n ≤ places_of w.table → has w.reached (n - 1) ≡ true
      → IsReached shape (inode_at w.table n)
  pub longfile : IsInReach shape roots.longfile
  pub names : roots.longfile.size ≤ shape.count * shape.blocksize

-- the roots of a tree that begins at these root nodes
abbrev pub roots_of : RootNodes → Roots
roots_of roots = record { inodes = roots.inodes; longfile = roots.longfile; further = roots.bitmap ∷ [] }
