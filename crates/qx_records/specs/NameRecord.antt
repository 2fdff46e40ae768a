-- What 32 bytes say as a directory record, and what a leaf says as a long name.
use Rattle.std.specs.Prelude.{ℕ, ◌+◌, ◌||◌, ◌&&◌, not, List, Option, Some, None, nat_le, ◌==◌, slice_index, slice_range, if◌then◌else◌}
use Rattle.qx_fields.specs.declared.order.Order.{Order}
use Rattle.qx_fields.specs.Number.{field}

-- a directory record: unused, a row with its name, a row whose name is a long one with a number and a checksum, or of a bad length
pub data RawRecord : Type 0 where
  Unused : RawRecord
  Short : (inode : ℕ) (name : List ℕ) → RawRecord
  Long : (inode number sum : ℕ) → RawRecord
  Bad : (count : ℕ) → RawRecord

-- the record that 32 bytes are
unfoldable pub raw_in : Order → List ℕ → RawRecord
raw_in order bytes =
    let inode = field order 4 bytes 0 in
    let count = slice_index bytes 4 in
    if (inode == 0) || (count == 0) then Unused
    else if nat_le count 27 then Short inode (slice_range bytes 5 (5 + count))
    else if count == 255 then Long inode (field order 4 bytes 8) (field order 4 bytes 12)
    else Bad count

-- the long name that a leaf has, unless its length is none of 1 to 510
unfoldable pub long_name_in : Order → List ℕ → Option (List ℕ)
long_name_in order bytes =
    let count = field order 2 bytes 0 in
    if not (count == 0) && nat_le count 510 then Some (slice_range bytes 2 (2 + count)) else None
