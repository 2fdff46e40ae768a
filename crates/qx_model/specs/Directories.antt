-- Directories and the names in them.
use Rattle.std.specs.Prelude.{ℕ, zero, suc, Bool, true, false, List, [], ◌∷◌, length, count_by, position, Option, Some, None, option_and_then, is_some, is_none, slice_get, slice_set, bytes_eq, unwrap_or}
use Rattle.std.specs.List.{list_all}
use Rattle.std.specs.Option.{option_map_or}
use Rattle.qx_geom.specs.Lists.{is_in}
use Rattle.qx_model.specs.Tree.{Body, Directory, Entry, File, Link, Row, Slot, Special, Tree, Unused, entry_of, is_special_body, named_by, slots_of}

-- the tree with this at inode n
abbrev pub with_entry : Tree → ℕ → Option Entry → Tree
with_entry t zero e = t
with_entry t (suc n) e = record t { inodes = slice_set t.inodes n e }

-- how many inodes are live
abbrev pub live_count : Tree → ℕ
live_count t = count_by (λ e. is_some e) t.inodes

-- inode n is live
abbrev pub is_live : Tree → ℕ → Bool
is_live t n = is_some (entry_of t n)

-- ---- kinds

-- the parent that a directory has; none of anything else
abbrev pub parent_of_body : Body → Option ℕ
parent_of_body (Directory slots parent) = Some parent
parent_of_body (File content) = None
parent_of_body (Link target) = None
parent_of_body Special = None

-- the parent of directory d
abbrev pub parent_of : Tree → ℕ → Option ℕ
parent_of t d = option_and_then (λ (e : Entry). parent_of_body e.body) (entry_of t d)

-- inode n is a directory
abbrev pub is_directory : Tree → ℕ → Bool
is_directory t n = is_some (parent_of t n)

-- inode n is a special
abbrev pub is_special : Tree → ℕ → Bool
is_special t n = option_map_or (λ (e : Entry). is_special_body e.body) (entry_of t n) false

-- ---- names

-- a slot is no row
abbrev pub is_unused : Slot → Bool
is_unused Unused = true
is_unused (Row n name long) = false

-- a slot is a row with this name
abbrev pub has_name : List ℕ → Slot → Bool
has_name name Unused = false
has_name name (Row n other long) = bytes_eq other name

-- the inode that a row names, `.` and `..` among the rows
abbrev pub inode_of_slot : Slot → Option ℕ
inode_of_slot Unused = None
inode_of_slot (Row n name long) = Some n

-- the long-name number of a row
abbrev pub long_of_slot : Slot → Option ℕ
long_of_slot Unused = None
long_of_slot (Row n name long) = long

-- the first record of directory d that has the name
abbrev pub record_of : Tree → ℕ → List ℕ → Option ℕ
record_of t d name = position (has_name name) (slots_of t d)

-- record k of directory d, unused past its end
abbrev pub slot_at : Tree → ℕ → ℕ → Slot
slot_at t d k = unwrap_or (slice_get (slots_of t d) k) Unused

-- the inode that has the name in directory d
abbrev pub inode_named : Tree → ℕ → List ℕ → Option ℕ
inode_named t d name = option_and_then (λ k. inode_of_slot (slot_at t d k)) (record_of t d name)

-- a directory has no row but `.` and `..`
abbrev pub is_bare : Tree → ℕ → Bool
is_bare t d = list_all (λ slot. is_none (named_by slot)) (slots_of t d)

-- ---- above a directory

-- directory d, its parent and so on, so many at most
abbrev pub directories_above : Tree → ℕ → ℕ → List ℕ
directories_above t zero d = []
directories_above t (suc more) d = d ∷ elim (parent_of t d) [ Some p ↦ directories_above t more p | None ↦ [] ]

-- directory d is n or lies below it
abbrev pub is_within : Tree → ℕ → ℕ → Bool
is_within t n d = is_in (directories_above t (length t.inodes) d) n
