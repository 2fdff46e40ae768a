-- One record of a directory's content becomes another.
use Rattle.std.specs.Prelude.{◌≡◌, ◌≢◌, ℕ, ◌+◌, ◌*◌, ◌/◌, ◌%◌, ◌<◌, ◌≤◌, [], ◌∷◌, None, nat_lt, if◌then◌else◌, slice_range}
use Rattle.qx_fields.specs.declared.order.Order.{Order}
use Rattle.qx_geom.specs.Pointer.{ceil_div}
use Rattle.qx_geom.specs.Positions.{present_after}
use Rattle.qx_nodes.specs.NodeContents.{NodeContent}
use Rattle.qx_records.specs.NameRecord.{RawRecord, Short, Long, Bad, raw_in}
use Rattle.qx_records.specs.NameRecord as raws
use Rattle.qx_model.specs.Edits.{leaf_of_record}

-- record k of a directory's content
abbrev pub record_of : Order → ℕ → NodeContent → ℕ → RawRecord
record_of order blocksize c k = raw_in order (slice_range (c.leaves (k * 32 / blocksize)) (k * 32 % blocksize) (k * 32 % blocksize + 32))

-- the size once record k is there: a leaf more where it stands past the end
abbrev pub size_with_record : ℕ → ℕ → ℕ → ℕ
size_with_record blocksize k size = if nat_lt (k * 32) size then size else size + blocksize

-- record k of a directory's content says this, and its leaf is written; each other record says what it did, and in a leaf more nothing
pub record SetsRecord (order : Order) (blocksize k : ℕ) (raw : RawRecord) (a b : NodeContent) : Type 0 where
  pub size : b.size ≡ size_with_record blocksize k a.size
  pub present : b.present ≡ present_after a.present (ceil_div (size_with_record blocksize k a.size) blocksize) (leaf_of_record blocksize k ∷ []) None
  pub here : record_of order blocksize b k ≡ raw
  pub others : (j : ℕ) → j ≢ k → j * 32 < a.size → record_of order blocksize b j ≡ record_of order blocksize a j
  pub behind : (j : ℕ) → j ≢ k → a.size ≤ j * 32 → j * 32 < size_with_record blocksize k a.size → record_of order blocksize b j ≡ raws.Unused

-- a row by the same name that names inode n
abbrev pub raw_naming : ℕ → RawRecord → RawRecord
raw_naming n raws.Unused = raws.Unused
raw_naming n (Short old name) = Short n name
raw_naming n (Long old number sum) = Long n number sum
raw_naming n (Bad count) = Bad count
