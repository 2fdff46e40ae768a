-- What each step of the walk is given, and what it leaves, whether the device tells or not.
use Rattle.std.specs.Prelude.{◌≡◌, ◌+◌, ◌*◌, ◌/◌, ◌<◌, ◌≤◌, ℕ, true, All, List, Result, is_some}
use Rattle.qx_blockset.specs.Members.{count_of, limit_of}
use Rattle.qx_geom.specs.Lists.{is_in}
use Rattle.qx_outside.specs.Outside.{Outside}
use Rattle.qx_pointers.specs.declared.halt.Halt.{Halt}
use Rattle.qx_pointers.specs.declared.halt.Halt.TheVariants as halts
use Rattle.qx_pointers.specs.declared.source.Shape.{Shape}
use Rattle.qx_pointers.specs.Shown.{Fits, Looks}
use Rattle.qx_records.specs.InodeRecord.{kind_of}
use Rattle.qx_tables.specs.declared.listing.Listing.{Listing}
use Rattle.qx_tables.specs.declared.listing.Queued.{Queued}
use Rattle.qx_tables.specs.Tables.{AreInside, IsListing, inode_at, inodes_on, places_of, taken_in}
use Rattle.qx_walk.specs.declared.state.Ground.{Ground}
use Rattle.qx_walk.specs.declared.state.Seen.{Seen}
use Rattle.qx_walk.specs.declared.state.Way.{Way}
use Rattle.qx_walk.specs.Trees.{IsWalkedInode}

-- ---- the list

-- inode 1 is on the list, and each inode on it has a kind, and was listed by an inode of the table
pub record ListsInodes (ground : Ground) (l : Listing) : Type 0 where
  pub top : is_in (inodes_on l) 1 ≡ true
  pub kinds : All (λ (q : Queued). is_some (kind_of (inode_at ground.table q.inode).mode) ≡ true) l.queue.items
  pub parents : All (λ (q : Queued). (0 < q.parent) × (q.parent ≤ places_of ground.table)) l.queue.items

-- these inodes have nodes whose size is in reach
abbrev pub AreWalked : Ground → List Queued → Type 0
AreWalked ground queue = All (λ (q : Queued). IsWalkedInode ground.shape (inode_at ground.table q.inode)) queue

-- ---- records

-- records may be walked: the long names' leaves are blocks, the list is one of the table's inodes, and the device has room for all blocks
pub record IsReading (ground : Ground) (seen : Seen) (host : Outside) : Type 0 where
  pub inside : AreInside ground.shape.count seen.longs
  pub listing : IsListing (places_of ground.table) seen.listing
  pub listed : ListsInodes ground seen.listing
  pub fits : Fits ground.shape host

-- records were walked, with so many reads at most, and no inode was taken
pub record Lists {T : Type 0} (ground : Ground) (most : ℕ) (old new : Seen) (before after : Outside) (result : Result T Halt) : Type 0 where
  pub inside : AreInside ground.shape.count new.longs
  pub listing : IsListing (places_of ground.table) new.listing
  pub listed : ListsInodes ground new.listing
  pub next : new.listing.next ≡ old.listing.next
  pub taken : taken_in new.listing ≡ taken_in old.listing
  pub looks : Looks halts.Device 0 most before after result

-- how often a leaf with records is read at most: once, and for each record the leaf of a long name
abbrev pub leaf_reads : Shape → ℕ
leaf_reads shape = 1 + shape.blocksize / 32

-- ---- inodes

-- inodes may be walked
pub record IsUnderway (ground : Ground) (way : Way) (seen : Seen) (host : Outside) : Type 0 where
  pub met : limit_of way.met ≡ ground.shape.count
  pub inside : AreInside ground.shape.count seen.longs
  pub listing : IsListing (places_of ground.table) seen.listing
  pub listed : ListsInodes ground seen.listing
  pub fits : Fits ground.shape host

-- how often the walk reads at most: each block that was met as one of a node's and as a leaf with records, and for each inode that was taken one leaf more, for what lies past its size
abbrev pub reads_of : Shape → Way → Seen → ℕ
reads_of shape way seen = (1 + leaf_reads shape) * count_of way.met + seen.listing.next

-- inodes were walked, with so many reads more at most than what was met and taken explains
pub record Carries {T : Type 0} (ground : Ground) (more : ℕ) (old new : Way) (seen kept : Seen) (before after : Outside) (result : Result T Halt) : Type 0 where
  pub met : limit_of new.met ≡ ground.shape.count
  pub inside : AreInside ground.shape.count kept.longs
  pub listing : IsListing (places_of ground.table) kept.listing
  pub listed : ListsInodes ground kept.listing
  pub looks : Looks halts.Device (reads_of ground.shape old seen) (reads_of ground.shape new kept + more) before after result
