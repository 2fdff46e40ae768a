-- The records of a block, one after another.
use Rattle.std.proofs.Common.{Bor, ◌≡◌, ℕ, suc, ◌+◌, ◌-◌, ◌*◌, ◌/◌, ◌<◌, ◌≤◌, ◌≢◌, ◌⊎◌, Option, Some, option_map, get_or, List, [], ◌∷◌, length, map, drop, ap, ◌∙◌, arith, length-take, length-drop}
use Rattle.std.specs.Prelude.{slice_range, slice_get}
use Rattle.std.specs.List.{range_with_len, replace_range}
use Rattle.std.proofs.lemmas.List.FromFn.{length-range_with_len, get_or-range_with_len, length-map-range_with_len}
use Rattle.std.proofs.lemmas.Option.{slice_get-map, slice_get-get_or}
use Rattle.qx_bytes.specs.Ranges.{put_at}
use Rattle.qx_bytes.proofs.Puts.{range_range, range_put_same, range_put_apart}
use Rattle.qx_fields.specs.declared.order.Order.{Order}
use Rattle.qx_records.specs.declared.directory.Slot.{Slot}
use Rattle.qx_records.specs.declared.directory.Slot.TheVariants as slots
use Rattle.qx_records.specs.NameRecord.{raw_in}
use Rattle.qx_records.specs.Slots.{record_at, records_from, records_in, LendsName}

-- the next record, and those behind it
pub records_from-more : (order : Order) (block : List ℕ) (place : ℕ) → place < length block / 32 → records_from order block place ≡ record_at order block place ∷ records_from order block (place + 1)
unfolding records_from
records_from-more order block place within =
    let behind = length block / 32 - (place + 1) in
    let one_more : length block / 32 - place ≡ suc behind = omega arith in
    ap (λ (n : ℕ). map (record_at order block) (range_with_len place n)) one_more

-- behind the last there is none
pub records_from-end : (order : Order) (block : List ℕ) (place : ℕ) → length block / 32 ≤ place → records_from order block place ≡ []
unfolding records_from
records_from-end order block place past =
    let none : length block / 32 - place ≡ 0 = omega arith in
    ap (λ (n : ℕ). map (record_at order block) (range_with_len place n)) none

-- one for each place
pub length-records_from : (order : Order) (block : List ℕ) (place : ℕ) → length (records_from order block place) ≡ length block / 32 - place
unfolding records_from
length-records_from order block place =
    length-map-range_with_len (record_at order block) place (length block / 32 - place)

pub length-records_in : (order : Order) (block : List ℕ) → length (records_in order block) ≡ length block / 32
length-records_in order block = omega (arith, length-records_from order block 0)

-- each in its place
pub slice_get-records_in : (order : Order) (block : List ℕ) (place : ℕ) → place < length block / 32 → slice_get (records_in order block) place ≡ Some (record_at order block place)
unfolding records_from
slice_get-records_in order block place within =
    let n = length block / 32 - 0 in
    let places = range_with_len 0 n in
    let short : place < length places = omega (arith, length-range_with_len 0 n) in
    let there : get_or places place 0 ≡ place = omega (arith, get_or-range_with_len 0 n place 0 (omega arith)) in
    slice_get-map (record_at order block) places place
    ∙ ap (λ (o : Option ℕ). option_map (record_at order block) o) (slice_get-get_or places place 0 short)
    ∙ ap (λ (k : ℕ). Some (record_at order block k)) there

-- the bytes of a place lie before or behind those of another
before_or_behind : (place other : ℕ) → other ≢ place → (other * 32 + 32 ≤ place * 32) ⊎ (place * 32 + 32 ≤ other * 32)
before_or_behind place other apart = grind arith

module _ (order : Order) (block bytes : List ℕ) (place : ℕ) (whole : length bytes ≡ 32) (within : place * 32 + 32 ≤ length block) where
  -- the record that was put
  pub record_at-put_at : record_at order (put_at block (place * 32) bytes) place ≡ record { place = place; raw = raw_in order bytes }
  record_at-put_at =
      ap (λ (n : ℕ). record { place = place; raw = raw_in order (slice_range (replace_range block (place * 32) (place * 32 + n) bytes) (place * 32) (place * 32 + 32)) }) whole
      ∙ ap (λ (l : List ℕ). record { place = place; raw = raw_in order l }) (range_put_same block bytes (place * 32) 32 whole (omega arith))

  -- another
  pub record_at-put_at-other : (other : ℕ) → other ≢ place → record_at order (put_at block (place * 32) bytes) other ≡ record_at order block other
  record_at-put_at-other other apart =
      ap (λ (n : ℕ). record { place = other; raw = raw_in order (slice_range (replace_range block (place * 32) (place * 32 + n) bytes) (other * 32) (other * 32 + 32)) }) whole
      ∙ ap (λ (l : List ℕ). record { place = other; raw = raw_in order l })
      (range_put_apart block bytes (place * 32) 32 (other * 32) 32 whole (before_or_behind place other apart) (omega arith))

-- a name that is lent from the 32 bytes of a record is lent from the block
pub LendsName-range : (block range : Bor (List ℕ)) (begin : ℕ) (slot : Slot) → begin + 32 ≤ length block.now → range.ref_ptr.0 ≡ block.ref_ptr.0 → range.ref_ptr.1 ≡ block.ref_ptr.1 + begin → range.now ≡ slice_range block.now begin (begin + 32) → LendsName range 0 slot → LendsName block begin slot
LendsName-range block range begin slots.Unused within memory address bytes lent = tt
LendsName-range block range begin (slots.Short inode name) within memory address bytes lent =
    let count = length name.now in
    let whole : length range.now ≡ 32 = ap (λ (l : List ℕ). length l) bytes ∙ (let e : length (slice_range block.now begin (begin + 32)) ≡ 32 = omega (arith, length-take (begin + 32 - begin) (drop begin block.now), length-drop begin block.now) in e) in
    let taken : count ≡ length (slice_range range.now 5 (5 + count)) = ap (λ (l : List ℕ). length l) lent.bytes in
    let short : 5 + count ≤ 32 = omega (arith, length-take (5 + count - 5) (drop 5 range.now), length-drop 5 range.now) in
    record {
      memory = lent.memory ∙ memory;
      address = omega (arith, lent.address, address);
      bytes = lent.bytes
          ∙ ap (λ (l : List ℕ). slice_range l 5 (5 + count)) bytes
          ∙ range_range block.now begin (begin + 32) 5 (5 + count) (omega arith)
          ∙ ap (λ (to : ℕ). slice_range block.now (begin + 5) to) (let e : begin + (5 + count) ≡ begin + 5 + count = omega arith in e);
    }
LendsName-range block range begin (slots.Long inode number sum) within memory address bytes lent = tt
LendsName-range block range begin (slots.Bad count) within memory address bytes lent = tt
