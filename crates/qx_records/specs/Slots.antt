-- The directory records of a block of bytes, as a reader that lends their names gives them.
use Rattle.std.specs.Prelude.{ℕ, Bool, true, false, ◌+◌, ◌-◌, ◌*◌, ◌/◌, List, length, map, slice_range}
use Rattle.std.specs.List.{range_with_len}
use Rattle.std.specs.Borrow.{Bor}
use Rattle.qx_fields.specs.declared.order.Order.{Order}
use Rattle.qx_records.specs.Lent.{IsLentFrom}
use Rattle.qx_records.specs.NameRecord.{RawRecord, raw_in}
use Rattle.qx_records.specs.NameRecord as raws
use Rattle.qx_records.specs.declared.directory.Slot.{Slot}
use Rattle.qx_records.specs.declared.directory.Slot.TheVariants as slots
use Rattle.qx_records.specs.declared.directory.Record.{Record}

-- what a slot says, with the bytes of its name
abbrev pub raw_of_slot : Slot → RawRecord
raw_of_slot slots.Unused = raws.Unused
raw_of_slot (slots.Short inode name) = raws.Short inode name.now
raw_of_slot (slots.Long inode number sum) = raws.Long inode number sum
raw_of_slot (slots.Bad count) = raws.Bad count

-- the inode and the length of a record aren't 0
abbrev pub is_used : RawRecord → Bool
is_used raws.Unused = false
is_used (raws.Short inode name) = true
is_used (raws.Long inode number sum) = true
is_used (raws.Bad count) = true

-- a record of a block: which it is, and what it says
pub record PlacedRecord : Type 0 where
  pub place : ℕ
  pub raw : RawRecord

-- what an item of the records of a block says
abbrev pub placed_of : Record → PlacedRecord
placed_of item = record { place = item.place; raw = raw_of_slot item.slot }

-- the record of a block at a place, counted in records
abbrev pub record_at : Order → List ℕ → ℕ → PlacedRecord
record_at order block place = record { place = place; raw = raw_in order (slice_range block (place * 32) (place * 32 + 32)) }

-- those from a place on
unfoldable pub records_from : Order → List ℕ → ℕ → List PlacedRecord
records_from order block place = map (record_at order block) (range_with_len place (length block / 32 - place))

-- all of them
abbrev pub records_in : Order → List ℕ → List PlacedRecord
records_in order block = records_from order block 0

-- a slot's name, if it has one, is the block's own bytes behind the length of the record that begins here
abbrev pub LendsName : Bor (List ℕ) → ℕ → Slot → Type 0
LendsName block begin (slots.Short inode name) = IsLentFrom block (begin + 5) name
LendsName block begin slots.Unused = Unit {0}
LendsName block begin (slots.Long inode number sum) = Unit {0}
LendsName block begin (slots.Bad count) = Unit {0}

-- a record is in use: it is a row, or has a length that means nothing
abbrev pub is_in_use : PlacedRecord → Bool
is_in_use item = is_used item.raw
