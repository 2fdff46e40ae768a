-- What the walk keeps of a volume: its inodes, the leaves of its Longfile, and the names of the directory under the walk.
use Rattle.std.specs.Prelude.{All, drop, ◌≡◌, ◌+◌, ◌*◌, ◌/◌, ◌%◌, ◌<◌, ◌≤◌, ◌^◌, ◌-◌, ◌&&◌, ◌⊎◌, ℕ, Bool, true, not, IsTrue, List, Contains, bytes_eq, count_by, length, map, min, nat_lt, Option, Some, slice_get, slice_index_or, slice_range, filter, take, if◌then◌else◌, ◌==◌}
use Rattle.std.specs.List.{HoldsAt, list_any}
use Rattle.qx_geom.specs.Layout.{is_block_size}
use Rattle.qx_geom.specs.declared.root.Root.{Root}
use Rattle.qx_nodes.specs.BlockMap.{BlockMap}
use Rattle.qx_nodes.specs.Content.{leaf_bytes, levels_fit}
use Rattle.qx_nodes.specs.Leaves.{leaves_below}
use Rattle.qx_nodes.specs.Visits.{Visit, present_of, visits_of}
use Rattle.qx_pointers.specs.declared.node.LeafPlace.{LeafPlace}
use Rattle.qx_blockset.specs.Members.{count_of, has, limit_of}
use Rattle.qx_geom.specs.Lists.{is_in}
use Rattle.qx_records.specs.declared.inode.Inode.{Inode}
use Rattle.qx_records.specs.InodeRecord.{inode_in}
use Rattle.qx_tables.specs.declared.listing.Listing.{Listing}
use Rattle.qx_tables.specs.declared.listing.Queued.{Queued}
use Rattle.qx_tables.specs.declared.long_names.LongLeaf.{LongLeaf}
use Rattle.qx_tables.specs.declared.long_names.LongNames.{LongNames}
use Rattle.qx_tables.specs.declared.names.Names.{Names}
use Rattle.qx_tables.specs.declared.table.InodeTable.{InodeTable}
use Rattle.qx_pointers.specs.Parts.{kept_leaves}

-- these are the present leaves of a node whose tests have passed
pub record AreLeaves (m : BlockMap) (node : Root) (leaves : List LeafPlace) : Type 0 where
  pub are : leaves ≡ kept_leaves true (visits_of m node)
  pub fits : IsTrue (levels_fit m node)
  pub undamaged : (v : Visit) → Contains (visits_of m node) v → v.block < m.count

-- ---- inodes

-- how many inodes a table has places for
abbrev pub places_of : InodeTable → ℕ
places_of table = if nat_lt (table.size / 128) (2 ^ 32) then table.size / 128 else 2 ^ 32 - 1

-- inode n of a table, as its bytes say
abbrev pub inode_at : InodeTable → ℕ → Inode
inode_at table n = inode_in table.order (slice_range table.bytes.items ((n - 1) * 128) ((n - 1) * 128 + 128))

-- the bytes of leaf i among those of all leaves, one after another
abbrev pub leaf_range : ℕ → List ℕ → ℕ → List ℕ
leaf_range blocksize bytes i = slice_range bytes (i * blocksize) (i * blocksize + blocksize)

-- leaf k of a list
abbrev pub leaf_in : List LeafPlace → ℕ → LeafPlace
leaf_in leaves k = slice_index_or leaves k (record { index = 0; block = 0 })

-- the second leaf stands right behind the first, in its node and on the device
abbrev pub is_behind : LeafPlace → LeafPlace → Bool
is_behind leaf next = (next.index == leaf.index + 1) && (next.block == leaf.block + 1)

-- so many leaves from a place on stand side by side, one at least
pub record IsRun (leaves : List LeafPlace) (from count : ℕ) : Type 0 where
  pub some : 0 < count
  pub inside : from + count ≤ length leaves
  pub each : (k : ℕ) → k + 1 < count → is_behind (leaf_in leaves (from + k)) (leaf_in leaves (from + k + 1)) ≡ true

-- number i is none of so many from this one on
abbrev pub IsApart : ℕ → ℕ → ℕ → Type 0
IsApart first count i = (i < first) ⊎ (first + count ≤ i)

-- a table has the leaves of this Inode tree
pub record HoldsInodes (m : BlockMap) (inodes : Root) (table : InodeTable) : Type 0 where
  pub sized : IsTrue (is_block_size m.size)
  pub order : table.order ≡ m.order
  pub size : table.size ≡ inodes.size
  pub leaves : (i : ℕ) → i < leaves_below m inodes → leaf_range m.size table.bytes.items i ≡ leaf_bytes m inodes i
  pub long : length table.bytes.items ≡ leaves_below m inodes * m.size

-- ---- long names

-- how often a leaf was named: never, once, or more than once
abbrev pub times_named : List ℕ → ℕ → ℕ
times_named numbers n = min 2 (count_by (λ k. k == n) numbers)

-- the present leaves of this Longfile, and how often each was named by these numbers
pub record HoldsNames (m : BlockMap) (longfile : Root) (numbers : List ℕ) (longs : LongNames) : Type 0 where
  pub size : longs.size ≡ longfile.size
  pub leaves : AreLeaves m longfile (map (λ (l : LongLeaf). l.place) longs.leaves.items)
  pub named : (k : ℕ) (l : LongLeaf) → slice_get longs.leaves.items k ≡ Some l → l.named ≡ times_named numbers l.place.index

-- the numbers of the leaves that it has
abbrev pub numbers_in : LongNames → List ℕ
numbers_in longs = map (λ (l : LongLeaf). l.place.index) longs.leaves.items

-- the leaf at place k has this number
abbrev pub IsPlaceOf : LongNames → ℕ → ℕ → Type 0
IsPlaceOf longs number = HoldsAt (λ (l : LongLeaf). l.place.index ≡ number) longs.leaves.items

-- their leaves are blocks
abbrev pub AreInside : ℕ → LongNames → Type 0
AreInside count longs = All (λ (l : LongLeaf). l.place.block < count) longs.leaves.items

-- the least present leaf that isn't among the numbers exactly once, or 0 where the size is no multiple of the block size
abbrev pub bad_number : BlockMap → Root → List ℕ → Option ℕ
bad_number m longfile numbers =
    if not (longfile.size % m.size == 0) then Some 0
    else slice_get (filter (λ n. not (count_by (λ k. k == n) numbers == 1)) (present_of m longfile)) 0

-- ---- the names of a directory

-- the names of a set, in their own order
abbrev pub names_in : Names → List (List ℕ)
names_in set = map (λ key. key.items) set.names.keys

-- the set has these names and no others
pub record HasNames (set : Names) (names : List (List ℕ)) : Type 0 where
  pub each : (name : List ℕ) → list_any (λ key. bytes_eq key name) (names_in set) ≡ list_any (λ other. bytes_eq other name) names

-- ---- inodes that are listed

-- an inode of the list and its parent
abbrev pub pair_of : Queued → ℕ × ℕ
pair_of q = (q.inode, q.parent)

-- the inodes of a list, in the order in which they were listed
abbrev pub inodes_on : Listing → List ℕ
inodes_on l = map (λ (q : Queued). q.inode) l.queue.items

-- those that were taken, with the directories that list them
abbrev pub taken_in : Listing → List Queued
taken_in l = take l.next l.queue.items

-- these inodes are still to be taken, in this order, and these were listed
pub record HasListed (left : List (ℕ × ℕ)) (listed : List ℕ) (l : Listing) : Type 0 where
  pub taken : l.next ≤ length l.queue.items
  pub queue : map pair_of (drop l.next l.queue.items) ≡ left
  pub each : (n : ℕ) → 0 < n → n ≤ limit_of l.listed → has l.listed (n - 1) ≡ is_in listed n

-- the list is one of so many inodes
pub record IsListing (places : ℕ) (l : Listing) : Type 0 where
  pub limit : limit_of l.listed ≡ places
  pub taken : l.next ≤ length l.queue.items
  pub queued : All (λ (q : Queued). (0 < q.inode) × (q.inode ≤ places)) l.queue.items
  pub counted : count_of l.listed ≡ length l.queue.items
  pub members : (n : ℕ) → 0 < n → n ≤ places → has l.listed (n - 1) ≡ is_in (inodes_on l) n
