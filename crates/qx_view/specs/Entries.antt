-- When an inode and the content of its node are an entry of a tree: a relation, by cases. Where blocks stand doesn't matter here, and long names are taken by their numbers.
use Rattle.std.specs.Prelude.{◌≡◌, ℕ, ◌+◌, ◌*◌, ◌/◌, ◌%◌, ◌<◌, List, [], map, Option, Some, None, if◌then◌else◌, slice_range}
use Rattle.qx_fields.specs.declared.order.Order.{Order}
use Rattle.qx_geom.specs.Lists.{each_below}
use Rattle.qx_nodes.specs.NodeContents.{NodeContent, bytes_in}
use Rattle.qx_records.specs.declared.inode.Inode.{Inode}
use Rattle.qx_records.specs.declared.kind.Kind.{Kind}
use Rattle.qx_records.specs.declared.kind.Kind.TheVariants as kinds
use Rattle.qx_records.specs.InodeRecord.{kind_of}
use Rattle.qx_records.specs.NameRecord.{RawRecord, Short, Long, Bad, raw_in}
use Rattle.qx_records.specs.NameRecord as records
use Rattle.qx_records.specs.NameSum.{sum_fits}
use Rattle.qx_model.specs.declared.attr.Attr.{Attr}
use Rattle.qx_model.specs.Tree.{Slot, Unused, Row, Body, Directory, File, Link, Special, Entry}

-- how a content is read: the order of numbers, the size of a block in bytes, and the long name of each number that has one
pub record Reader : Type 0 where
  pub order : Order
  pub blocksize : ℕ
  pub names : ℕ → Option (List ℕ)

-- ---- records

-- a long record, with the name that its leaf has
abbrev pub long_slot : ℕ → ℕ → ℕ → Option (List ℕ) → Option Slot
long_slot inode number sum None = None
long_slot inode number sum (Some name) = if sum_fits sum name then Some (Row inode name (Some number)) else None

-- what a record says: none where it is bad, or where its long name is missing or has another checksum
abbrev pub slot_by : (ℕ → Option (List ℕ)) → RawRecord → Option Slot
slot_by names records.Unused = Some Unused
slot_by names (Short inode name) = Some (Row inode name None)
slot_by names (Long inode number sum) = long_slot inode number sum (names number)
slot_by names (Bad count) = None

-- record k of a directory
abbrev pub record_in : Reader → NodeContent → ℕ → RawRecord
record_in r c k = raw_in r.order (slice_range (c.leaves (k * 32 / r.blocksize)) (k * 32 % r.blocksize) (k * 32 % r.blocksize + 32))

-- what all its records say
abbrev pub slots_in : Reader → NodeContent → List (Option Slot)
slots_in r c = each_below (c.size / 32) (λ k. slot_by r.names (record_in r c k))

-- ---- entries

-- what a content of a kind is; a special has none
abbrev pub IsBody : Reader → NodeContent → Kind → Body → Type 0
IsBody r c kinds.Directory (Directory slots parent) = slots_in r c ≡ map (λ s. Some s) slots
IsBody r c kinds.File (File content) = content ≡ bytes_in r.blocksize c
IsBody r c kinds.Link (Link target) = (target ≡ bytes_in r.blocksize c) × (0 < c.size) × (c.size < 1024)
IsBody r c kind body = ⊥

-- an entry of a kind has this content
pub record HasContent (r : Reader) (c : NodeContent) (kind : Kind) (e : Entry) : Type 0 where
  pub size : e.size ≡ c.size
  pub present : e.present ≡ c.present
  pub body : IsBody r c kind e.body

-- a special's entry
pub record IsNodeless (e : Entry) : Type 0 where
  pub size : e.size ≡ 0
  pub present : e.present ≡ []
  pub body : e.body ≡ Special

-- an entry of a kind, whose inode's node has this content, unless it is a special
abbrev pub Holds : Reader → NodeContent → Kind → Entry → Type 0
Holds r c kinds.Directory e = HasContent r c kinds.Directory e
Holds r c kinds.File e = HasContent r c kinds.File e
Holds r c kinds.Link e = HasContent r c kinds.Link e
Holds r c kinds.Special e = IsNodeless e

-- the attributes of an inode
abbrev pub attr_of : Inode → Attr
attr_of i = record { mode = i.mode; uid = i.uid; gid = i.gid; ftime = i.ftime; mtime = i.mtime; atime = i.atime; ctime = i.ctime }

-- an inode whose node has this content is this entry
pub record IsEntryOf (r : Reader) (i : Inode) (c : NodeContent) (e : Entry) : Type 0 where
  pub attr : e.attr ≡ attr_of i
  pub kind : Kind
  pub kind_is : kind_of e.attr.mode ≡ Some kind
  pub holds : Holds r c kind e
