-- The rows of a block of a directory but `.` and `..`.
use Rattle.std.specs.Prelude.{ℕ, Bool, false, ◌&&◌, ◌==◌, List, [], ◌∷◌, Option, Some, None, filter_map, if◌then◌else◌}
use Rattle.qx_fields.specs.declared.order.Order.{Order}
use Rattle.qx_records.specs.NameRecord as raws
use Rattle.qx_records.specs.Slots.{PlacedRecord, records_in}
use Rattle.qx_dir.specs.declared.listing.Entry.{Entry}
use Rattle.qx_dir.specs.declared.listing.EntryName.{EntryName}
use Rattle.qx_dir.specs.declared.listing.EntryName.TheVariants as names

-- the name of a row: its own bytes, or the number of a long one
pub data RowName : Type 0 where
  Short : (name : List ℕ) → RowName
  Long : (number : ℕ) → RowName

-- a row of a block: which record it is, the inode that it names, and its name
pub record PlacedEntry : Type 0 where
  pub place : ℕ
  pub inode : ℕ
  pub name : RowName

-- a name is `.` or `..`
abbrev pub is_dots : List ℕ → Bool
is_dots [] = false
is_dots (a ∷ []) = a == 46
is_dots (a ∷ b ∷ []) = (a == 46) && (b == 46)
is_dots (a ∷ b ∷ c ∷ rest) = false

-- the row that a record at a place is, unless it is none, or has the name `.` or `..` itself
abbrev pub row_at : ℕ → raws.RawRecord → Option PlacedEntry
row_at place raws.Unused = None
row_at place (raws.Short inode name) = if is_dots name then None else Some (record { place = place; inode = inode; name = Short name })
row_at place (raws.Long inode number sum) = Some (record { place = place; inode = inode; name = Long number })
row_at place (raws.Bad count) = None

-- that of a record of a block
abbrev pub entry_in : PlacedRecord → Option PlacedEntry
entry_in item = row_at item.place item.raw

-- those of some records, in their order
abbrev pub entries_of : List PlacedRecord → List PlacedEntry
entries_of records = filter_map entry_in records

-- those of a block
abbrev pub entries_in : Order → List ℕ → List PlacedEntry
entries_in order block = entries_of (records_in order block)

-- the name that an item has
abbrev pub name_of : EntryName → RowName
name_of (names.Short name) = Short name.now
name_of (names.Long number) = Long number

-- what an item says
abbrev pub said_of : Entry → PlacedEntry
said_of item = record { place = item.place; inode = item.inode; name = name_of item.name }
