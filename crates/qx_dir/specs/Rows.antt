-- The rows of a block of a directory: found by name, listed and written.
use Rattle.std.specs.Prelude.{◌≡◌, ℕ, ◌-◌, ◌<◌, ◌≤◌, Bool, false, not, List, Option, filter, find, length, map, option_map, unwrap_or, bytes_eq, nat_le, if◌then◌else◌}
use Rattle.std.specs.List.{range_with_len}
use Rattle.qx_fields.specs.declared.order.Order.{Order}
use Rattle.qx_records.specs.NameRecord.{RawRecord}
use Rattle.qx_records.specs.NameRecord as raws
use Rattle.qx_records.specs.NameSum.{name_sum_of, sum_fits}
use Rattle.qx_records.specs.Slots.{PlacedRecord, is_in_use, record_at, records_in}
use Rattle.qx_records.specs.WrittenNames.{short_bytes, long_bytes}
use Rattle.qx_dir.specs.declared.block.Found.{Found}
use Rattle.qx_dir.specs.declared.block.Found.TheVariants as founds

-- a record is a row that may have the name: it has this short name, or a long one with one of the name's two checksums
abbrev pub may_have : List ℕ → RawRecord → Bool
may_have name raws.Unused = false
may_have name (raws.Short inode other) = bytes_eq other name
may_have name (raws.Long inode number sum) = sum_fits sum name
may_have name (raws.Bad count) = false

-- what a row at a place is found as
abbrev pub found_as : ℕ → RawRecord → Found
found_as place raws.Unused = founds.None
found_as place (raws.Short inode name) = founds.Name place inode
found_as place (raws.Long inode number sum) = founds.Maybe place inode number
found_as place (raws.Bad count) = founds.None

-- the records of a block from a place on and before another
unfoldable pub records_between : Order → List ℕ → ℕ → ℕ → List PlacedRecord
records_between order block from to = map (record_at order block) (range_with_len from (to - from))

-- the first row among them that may have the name
abbrev pub found_from : Order → List ℕ → ℕ → ℕ → List ℕ → Found
found_from order block from to name =
    unwrap_or (option_map (λ item. found_as item.place item.raw) (find (λ item. may_have name item.raw) (records_between order block from to))) founds.None

-- none of the records from a place on and before another may have the name
abbrev pub NoneMayHave : Order → List ℕ → ℕ → ℕ → List ℕ → Type 0
NoneMayHave order block from to name = (k : ℕ) → from ≤ k → k < to → may_have name (record_at order block k).raw ≡ false

-- the place of the first record that is not in use
abbrev pub first_unused_in : Order → List ℕ → Option ℕ
first_unused_in order block = option_map (λ item. item.place) (find (λ item. not (is_in_use item)) (records_in order block))

-- the places of the records that are in use, in their order
abbrev pub places_of : List PlacedRecord → List ℕ
places_of records = map (λ item. item.place) (filter is_in_use records)

-- the row that a name is written as: a short one where it has at most 27 bytes, and else a long one with its number and its checksum of unsigned bytes
abbrev pub row_of : ℕ → List ℕ → ℕ → RawRecord
row_of inode name number = if nat_le (length name) 27 then raws.Short inode name else raws.Long inode number (name_sum_of name)

-- its 32 bytes
abbrev pub row_bytes : Order → ℕ → List ℕ → ℕ → List ℕ
row_bytes order inode name number = if nat_le (length name) 27 then short_bytes order inode name else long_bytes order inode number (name_sum_of name)
