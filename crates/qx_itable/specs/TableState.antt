-- The inodes of a volume by their numbers, and the leaves that they are on disk.
use Rattle.std.specs.Prelude.{ℕ, ◌+◌, ◌-◌, ◌*◌, ◌==◌, List, Option, Some, None, length, find, count_by, replicate, slice_index_or, slice_set, if◌then◌else◌, is_some, is_none}
use Rattle.std.specs.List.{flat_map, range_with_len}
use Rattle.qx_fields.specs.declared.order.Order.{Order}
use Rattle.qx_records.specs.declared.inode.Inode.{Inode}
use Rattle.qx_records.specs.WrittenInode.{inode_bytes}

-- the order of bytes in records, and the inodes of the numbers 1, 2, 3 and so on, each where it is live
pub record TableState : Type 0 where
  pub order : Order
  pub inodes : List (Option Inode)

-- an inode is live where its mode isn't 0
abbrev pub if_live : Inode → Option Inode
if_live inode = if inode.mode == 0 then None else Some inode

-- the inode of a number, where there is one that is live; numbers begin at 1
abbrev pub inode_of : TableState → ℕ → Option Inode
inode_of t n = slice_index_or t.inodes (n - 1) None

-- so many numbers without a live inode
abbrev pub blank_table : ℕ → Order → TableState
blank_table count order = record { order = order; inodes = replicate count None }

-- number n has this inode, or none where it isn't live
abbrev pub with_inode : TableState → ℕ → Inode → TableState
with_inode t n inode = record t { inodes = slice_set t.inodes (n - 1) (if_live inode) }

-- number n has no live inode
abbrev pub without_inode : TableState → ℕ → TableState
without_inode t n = record t { inodes = slice_set t.inodes (n - 1) None }

-- 1 for a live inode, 0 for none
abbrev pub one_if_live : Option Inode → ℕ
one_if_live found = if is_some found then 1 else 0

-- how many inodes are live
abbrev pub live_in : TableState → ℕ
live_in t = count_by is_some t.inodes

-- the first number without a live inode
abbrev pub first_free_in : TableState → Option ℕ
first_free_in t = find (λ n. is_none (inode_of t n)) (range_with_len 1 (length t.inodes))

-- the record of a number: that of its inode, or 128 bytes 0 where none is live
abbrev pub record_bytes : Order → Option Inode → List ℕ
record_bytes order None = replicate 128 0
record_bytes order (Some inode) = inode_bytes order inode

-- a leaf of so many records: those of its numbers, the ones past the table's last among them
abbrev pub leaf_of : TableState → ℕ → ℕ → List ℕ
leaf_of t count leaf = flat_map (λ n. record_bytes t.order (inode_of t n)) (range_with_len (leaf * count + 1) count)
