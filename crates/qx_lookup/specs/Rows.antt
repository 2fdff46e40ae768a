-- The row of a directory that has a name: the first one, over the records as they stand.
use Rattle.std.specs.Prelude.{◌≡◌, ℕ, ◌+◌, ◌*◌, ◌/◌, ◌≤◌, ◌<◌, min, Bool, true, false, List, Option, Some, None, bytes_eq}
use Rattle.qx_fields.specs.declared.order.Order.{Order}
use Rattle.qx_geom.specs.declared.root.Root.{Root}
use Rattle.qx_nodes.specs.BlockMap.{BlockMap}
use Rattle.qx_nodes.specs.LongNames.{long_name}
use Rattle.qx_nodes.specs.NodeContents.{node_content}
use Rattle.qx_records.specs.NameRecord as records
use Rattle.qx_records.specs.NameSum.{sum_fits}
use Rattle.qx_records.specs.Slots.{record_at}
use Rattle.qx_dir.specs.declared.block.Found.{Found}
use Rattle.qx_dir.specs.declared.block.Found.TheVariants as founds
use Rattle.qx_dir.specs.Rows.{NoneMayHave}
use Rattle.qx_model.specs.Tree.{Row, Slot}
use Rattle.qx_model.specs.Directories.{has_name}
use Rattle.qx_view.specs.Entries.{record_in, slot_by}
use Rattle.qx_view.specs.Reading.{reader_of}
use Rattle.qx_lookup.specs.declared.rows.FoundRow.{FoundRow}

-- ---- what records say

-- what record k of a directory says, its long names by the Longfile; none where it is bad or its long name is
abbrev pub slot_in : BlockMap → Root → Root → ℕ → Option Slot
slot_in m longfile node k = slot_by (long_name m longfile) (record_in (reader_of m longfile) (node_content m node) k)

-- what record k of a block says
abbrev pub slot_in_block : Order → (ℕ → Option (List ℕ)) → List ℕ → ℕ → Option Slot
slot_in_block order names block k = slot_by names (record_at order block k).raw

-- where the records of a leaf end: with the leaf, or with the directory's size
abbrev pub records_end : ℕ → ℕ → ℕ → ℕ
records_end blocksize size index = min ((index + 1) * (blocksize / 32)) (size / 32)

-- ---- names

-- a long name, if there is one, is this one
abbrev pub is_name : List ℕ → Option (List ℕ) → Bool
is_name name None = false
is_name name (Some other) = bytes_eq other name

-- what a record says, if it says something, is a row with this name
abbrev pub is_row : List ℕ → Option Slot → Bool
is_row name None = false
is_row name (Some slot) = has_name name slot

-- none of the records from one on, before another, is a row with the name
abbrev pub NoneHas : (ℕ → Option Slot) → List ℕ → ℕ → ℕ → Type 0
NoneHas slots name from to = (k : ℕ) → from ≤ k → k < to → is_row name (slots k) ≡ false

-- of these records the first that is a row with the name is this one, or none is
abbrev pub IsFirstRow : (ℕ → Option Slot) → List ℕ → ℕ → ℕ → Option FoundRow → Type 0
IsFirstRow slots name from to None = NoneHas slots name from to
IsFirstRow slots name from to (Some row) = (row.record < to) × (slots row.record ≡ Some (Row row.inode name row.long)) × NoneHas slots name from row.record

-- ---- one block

-- what is found of a name among the records of a block from one on, before another: the first that has it, or has a long name with its checksum
abbrev pub IsFoundAs : Order → List ℕ → List ℕ → ℕ → ℕ → Found → Type 0
IsFoundAs order block name from to founds.None = NoneMayHave order block from to name
IsFoundAs order block name from to (founds.Name place inode) = ((record_at order block place).raw ≡ records.Short inode name) × NoneMayHave order block from place name
IsFoundAs order block name from to (founds.Maybe place inode number) =
    ((sum : ℕ) × ((record_at order block place).raw ≡ records.Long inode number sum) × (sum_fits sum name ≡ true)) × NoneMayHave order block from place name

-- what is found lies between them
abbrev pub IsFoundIn : ℕ → ℕ → Found → Type 0
IsFoundIn from to founds.None = Unit {0}
IsFoundIn from to (founds.Name place inode) = (from ≤ place) × (place < to)
IsFoundIn from to (founds.Maybe place inode number) = (from ≤ place) × (place < to)
