-- The records of a block in which one is written.
use Rattle.std.proofs.Common.{◌≡◌, ℕ, ◌+◌, ◌-◌, ◌*◌, ◌/◌, ◌<◌, ◌≤◌, inl, inr, List, ◌++◌, length, get_or, set, take, drop, sym, ◌∙◌, ap, subst, arith, append_assoc, drop-drop}
use Rattle.std.specs.List.{replace_range}
use Rattle.std.proofs.lemmas.Bool.{cases_eq}
use Rattle.std.proofs.lemmas.List.{ext_get_or, get_or-set_same, get_or-set_other, length-set}
use Rattle.std.proofs.lemmas.List.FromFn.{get_or-map-range_with_len}
use Rattle.qx_bytes.specs.Ranges.{put_at}
use Rattle.qx_bytes.proofs.Puts.{length_put}
use Rattle.qx_fields.specs.declared.order.Order.{Order}
use Rattle.qx_records.specs.NameRecord.{raw_in}
use Rattle.qx_records.specs.Slots.{PlacedRecord, record_at, records_from, records_in}
use Rattle.qx_records.proofs.RecordLists.{record_at-put_at, record_at-put_at-other, length-records_in}

-- each record is at its place
get_or-records_in : (order : Order) (block : List ℕ) (place : ℕ) (d : PlacedRecord) → place < length block / 32 → get_or (records_in order block) place d ≡ record_at order block place
unfolding records_from
get_or-records_in order block place d within = get_or-map-range_with_len (record_at order block) 0 (length block / 32 - 0) place place d (omega arith) (omega arith)

-- a block with other bytes for one record has that record and the others
pub records-written : (order : Order) (block bytes : List ℕ) (place : ℕ) → length bytes ≡ 32 → place < length block / 32
    → records_in order (put_at block (place * 32) bytes) ≡ set (records_in order block) place (record { place = place; raw = raw_in order bytes })
records-written order block bytes place whole within =
    let new : List ℕ = put_at block (place * 32) bytes in
    let fits : place * 32 + 32 ≤ length block = omega arith in
    let long : length new ≡ length block = ap (λ n. length (replace_range block (place * 32) (place * 32 + n) bytes)) whole ∙ length_put block bytes (place * 32) 32 whole fits in
    let count : length (records_in order new) ≡ length block / 32 = length-records_in order new ∙ ap (λ n. n / 32) long in
    let there : PlacedRecord = record { place = place; raw = raw_in order bytes } in
    ext_get_or there (records_in order new) (set (records_in order block) place there) (count ∙ sym (length-set (records_in order block) place there ∙ length-records_in order block))
    (λ q h. let low : q < length block / 32 = subst (λ n. q < n) count h in
    let seen : get_or (records_in order new) q there ≡ record_at order new q = get_or-records_in order new q there (subst (λ n. q < n / 32) (sym long) low) in
    elim (cases_eq q place) [
      | inl e ↦ seen ∙ ap (record_at order new) e ∙ record_at-put_at order block bytes place whole fits
          ∙ sym (ap (λ k. get_or (set (records_in order block) place there) k there) e ∙ get_or-set_same (records_in order block) place there there (rw (length-records_in order block) within))
      | inr apart ↦ seen ∙ record_at-put_at-other order block bytes place whole fits q apart
          ∙ sym (get_or-set_other (records_in order block) place q there there apart ∙ get_or-records_in order block q there low)
    ])

-- a part of as many bytes, written over a block
pub part-written : (block part : List ℕ) (at : ℕ) → length part ≡ 32 → take at block ++ (part ++ drop (at + 32 - at) (drop at block)) ≡ put_at block at part
part-written block part at whole =
    let behind : at + (at + 32 - at) ≡ at + length part = omega arith in
    sym (append_assoc (take at block) part (drop (at + 32 - at) (drop at block)))
    ∙ ap (λ rest. (take at block ++ part) ++ rest) (drop-drop (at + 32 - at) at block ∙ ap (λ n. drop n block) behind)
