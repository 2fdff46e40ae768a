-- Rows that are neither `.` nor `..`, over the records as they stand.
use Rattle.std.specs.Prelude.{◌≡◌, ℕ, ◌≤◌, ◌<◌, Bool, true, false, not, ◌&&◌, List, Option, Some, None, is_some, if◌then◌else◌}
use Rattle.qx_records.specs.NameRecord.{RawRecord, Short, Long, Bad}
use Rattle.qx_records.specs.NameRecord as records
use Rattle.qx_records.specs.NameSum.{sum_fits}
use Rattle.qx_model.specs.Tree.{Slot, is_dots, named_by}
use Rattle.qx_lookup.specs.declared.bare.Said.{Said}
use Rattle.qx_lookup.specs.declared.bare.Said.TheVariants as saids

-- what a record says, if it says something, is a row that is neither `.` nor `..`
abbrev pub says_link : Option Slot → Bool
says_link None = false
says_link (Some slot) = is_some (named_by slot)

-- whether none of the records from one on, before another, says so
abbrev pub IsBareFrom : (ℕ → Option Slot) → ℕ → ℕ → Bool → Type 0
IsBareFrom slots from to true = (k : ℕ) → from ≤ k → k < to → says_link (slots k) ≡ false
IsBareFrom slots from to false = (k : ℕ) × (from ≤ k) × (k < to) × (says_link (slots k) ≡ true)

-- what a record says by itself
abbrev pub said_of : RawRecord → Said
said_of records.Unused = saids.Nothing
said_of (Short inode name) = if is_dots name then saids.Nothing else saids.Link
said_of (Long inode number sum) = saids.Long number sum
said_of (Bad count) = saids.Nothing

-- a long name, if there is one, has this checksum and is neither `.` nor `..`
abbrev pub is_long_link : ℕ → Option (List ℕ) → Bool
is_long_link sum None = false
is_long_link sum (Some name) = sum_fits sum name && not (is_dots name)

-- what a record says is such a row, by the long names
abbrev pub is_link_said : (ℕ → Option (List ℕ)) → Said → Bool
is_link_said names saids.Nothing = false
is_link_said names saids.Link = true
is_link_said names (saids.Long number sum) = is_long_link sum (names number)
