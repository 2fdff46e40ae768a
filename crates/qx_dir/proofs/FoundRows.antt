-- The first row that may have a name.
use Rattle.std.proofs.Common.{◌≡◌, ℕ, suc, ◌+◌, ◌-◌, ◌*◌, ◌<◌, ◌≤◌, Bool, true, false, List, [], ◌∷◌, map, find, refl, sym, ◌∙◌, ap, arith, Option, Some, None, if◌then◌else◌}
use Rattle.std.specs.Prelude.{slice_range, option_map, unwrap_or}
use Rattle.std.specs.List.{range_with_len}
use Rattle.qx_fields.specs.declared.order.Order.{Order}
use Rattle.qx_records.specs.NameRecord.{RawRecord, raw_in}
use Rattle.qx_records.specs.Slots.{PlacedRecord, record_at}
use Rattle.qx_dir.specs.declared.block.Found.{Found}
use Rattle.qx_dir.specs.declared.block.Found.TheVariants as founds
use Rattle.qx_dir.specs.Rows.{may_have, found_as, found_from, records_between}

-- the next record, and those behind it
records_between-more : (order : Order) (block : List ℕ) (place to : ℕ) → place < to → records_between order block place to ≡ record_at order block place ∷ records_between order block (place + 1) to
unfolding records_between
records_between-more order block place to within =
    let one_more : to - place ≡ suc (to - (place + 1)) = omega arith in
    ap (λ n. map (record_at order block) (range_with_len place n)) one_more

-- behind the last there is none
records_between-end : (order : Order) (block : List ℕ) (place to : ℕ) → to ≤ place → records_between order block place to ≡ []
unfolding records_between
records_between-end order block place to past =
    let none : to - place ≡ 0 = omega arith in
    ap (λ n. map (record_at order block) (range_with_len place n)) none

-- what is found among these records
abbrev found_among : List ℕ → List PlacedRecord → Found
found_among name records = unwrap_or (option_map (λ item. found_as item.place item.raw) (find (λ item. may_have name item.raw) records)) founds.None

-- what a record is found as, where it may have the name
abbrev pub found_at : List ℕ → ℕ → RawRecord → Option Found
found_at name place raw = if may_have name raw then Some (found_as place raw) else None

module _ (order : Order) (block name : List ℕ) (place to : ℕ) (raw : RawRecord) (is : raw ≡ raw_in order (slice_range block (place * 32) (place * 32 + 32))) (within : place < to) where
  -- the record at the place, and those behind it
  next : found_from order block place to name ≡ (if may_have name raw then found_as place raw else found_from order block (place + 1) to name)
  next =
      ap (found_among name) (records_between-more order block place to within)
      ∙ ap (λ r. found_among name (record { place = place; raw = r } ∷ records_between order block (place + 1) to)) (sym is)
      ∙ first (may_have name raw) where
        first : (t : Bool) → unwrap_or (option_map (λ item. found_as item.place item.raw) (if t then Some (record { place = place; raw = raw }) else find (λ item. may_have name item.raw) (records_between order block (place + 1) to))) founds.None
            ≡ (if t then found_as place raw else found_from order block (place + 1) to name)
        first true = refl
        first false = refl

  -- the record may have the name
  pub found-here : (found : Found) → Some found ≡ found_at name place raw → found ≡ found_from order block place to name
  found-here found here = here_in (may_have name raw) here ∙ sym next where
    here_in : (t : Bool) → Some found ≡ (if t then Some (found_as place raw) else None) → found ≡ (if t then found_as place raw else found_from order block (place + 1) to name)
    here_in true e = cc
    here_in false e = cc

  -- it hasn't the name
  pub found-behind : None ≡ found_at name place raw → found_from order block (place + 1) to name ≡ found_from order block place to name
  found-behind none = behind_in (may_have name raw) none ∙ sym next where
    behind_in : (t : Bool) → None ≡ (if t then Some (found_as place raw) else None) → found_from order block (place + 1) to name ≡ (if t then found_as place raw else found_from order block (place + 1) to name)
    behind_in true e = cc
    behind_in false e = refl

-- behind the last record nothing is found
pub found-nowhere : (order : Order) (block name : List ℕ) (place to : ℕ) → to ≤ place → found_from order block place to name ≡ founds.None
found-nowhere order block name place to past = ap (found_among name) (records_between-end order block place to past)
