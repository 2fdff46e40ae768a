-- What is found in a block says which of its records has a name.
use Rattle.std.proofs.Common.{◌≡◌, ℕ, ◌+◌, ◌<◌, List, inl, inr, refl, ◌∙◌, ap, subst, arith, sym}
use Rattle.std.specs.Prelude.{◌⊎◌, Bool, true, false, Option, Some, None, bytes_eq, if◌then◌else◌}
use Rattle.std.proofs.lemmas.Bool.{cases_eq, cases_lt}
use Rattle.std.proofs.lemmas.Slice.Eq.{bytes_eq-Decides}
use Rattle.qx_fields.specs.declared.order.Order.{Order}
use Rattle.qx_geom.proofs.Truths.{not_so, true_or_false}
use Rattle.qx_records.specs.NameRecord.{RawRecord, Short, Long, Bad}
use Rattle.qx_records.specs.NameRecord as records
use Rattle.qx_records.specs.NameSum.{sum_fits}
use Rattle.qx_records.specs.Slots.{record_at}
use Rattle.qx_dir.specs.declared.block.Found.TheVariants as founds
use Rattle.qx_dir.specs.Rows.{NoneMayHave, may_have}
use Rattle.qx_model.specs.Tree.{Row}
use Rattle.qx_view.specs.Entries.{long_slot, slot_by}
use Rattle.qx_lookup.specs.Rows.{IsFirstRow, IsFoundAs, NoneHas, is_name, is_row, slot_in_block}

-- ---- what records say

-- a long record that can't have the name
long_out : (name : List ℕ) (inode number sum : ℕ) (other : Option (List ℕ)) → (sum_fits sum name ≡ false) ⊎ (is_name name other ≡ false) → is_row name (long_slot inode number sum other) ≡ false
long_out name inode number sum None out = refl
long_out name inode number sum (Some other) out = by_sum (sum_fits sum other) refl
  where
    by_sum : (t : Bool) → sum_fits sum other ≡ t → is_row name (if t then Some (Row inode other (Some number)) else None) ≡ false
    by_sum false e = refl
    by_sum true e = not_so (bytes_eq other name) (λ h. elim out [
      | inl sums ↦ true_or_false (sum_fits sum name) (subst (λ x. sum_fits sum x ≡ true) ((bytes_eq-Decides other name).0 h) e) sums
      | inr names ↦ true_or_false (bytes_eq other name) h names
    ])

-- a record that can't have the name is no row with it
may_not : (names : ℕ → Option (List ℕ)) (name : List ℕ) (raw : RawRecord) → may_have name raw ≡ false → is_row name (slot_by names raw) ≡ false
may_not names name records.Unused out = refl
may_not names name (Short inode other) out = out
may_not names name (Long inode number sum) out = long_out name inode number sum (names number) (inl out)
may_not names name (Bad count) out = refl

-- nor is a long one whose name is another
other_name : (names : ℕ → Option (List ℕ)) (name : List ℕ) (inode number sum : ℕ) → is_name name (names number) ≡ false → is_row name (slot_by names (Long inode number sum)) ≡ false
other_name names name inode number sum out = long_out name inode number sum (names number) (inr out)

-- one whose name it is, is
that_name : (names : ℕ → Option (List ℕ)) (name : List ℕ) (inode number sum : ℕ) → is_name name (names number) ≡ true → sum_fits sum name ≡ true → slot_by names (Long inode number sum) ≡ Some (Row inode name (Some number))
that_name names name inode number sum same fits = go (names number) same
  where
    go : (o : Option (List ℕ)) → is_name name o ≡ true → long_slot inode number sum o ≡ Some (Row inode name (Some number))
    go None e = absurd (cc)
    go (Some other) e = ap (λ o. if sum_fits sum o then Some (Row inode o (Some number)) else None) ((bytes_eq-Decides other name).0 e) ∙ ap (λ t. if t then Some (Row inode name (Some number)) else None) fits

-- ---- on the way through a block

module _ (order : Order) (names : ℕ → Option (List ℕ)) (block name : List ℕ) (from : ℕ) (so_far : NoneHas (slot_in_block order names block) name 0 from) where
  -- records that can't have the name behind those that haven't
  none_on : (to : ℕ) → NoneMayHave order block from to name → NoneHas (slot_in_block order names block) name 0 to
  none_on to may k least low = elim (cases_lt k from) [
    | inl before ↦ so_far k least before
    | inr later ↦ may_not names name (record_at order block k).raw (may k later low)
  ]

  -- nothing is found
  pub found_nothing : (count : ℕ) → IsFoundAs order block name from count founds.None → IsFirstRow (slot_in_block order names block) name 0 count None
  found_nothing count found = none_on count found

  -- a short name is
  pub found_short : (count place inode : ℕ) → place < count → IsFoundAs order block name from count (founds.Name place inode)
      → IsFirstRow (slot_in_block order names block) name 0 count (Some (record { «record» = place; inode = inode; long = None }))
  found_short count place inode low found = (low, ap (slot_by names) found.0, none_on place found.1)

  -- a long one is
  pub found_long : (count place inode number : ℕ) → place < count → IsFoundAs order block name from count (founds.Maybe place inode number) → is_name name (names number) ≡ true
      → IsFirstRow (slot_in_block order names block) name 0 count (Some (record { «record» = place; inode = inode; long = Some number }))
  found_long count place inode number low found same =
      let (sum, is, fits) = found.0 in
      (low, ap (slot_by names) is ∙ that_name names name inode number sum same fits, none_on place found.1)

  -- a long one is another
  pub found_other : (count place inode number : ℕ) → IsFoundAs order block name from count (founds.Maybe place inode number) → is_name name (names number) ≡ false → NoneHas (slot_in_block order names block) name 0 (place + 1)
  found_other count place inode number found out k least low = elim (cases_eq k place) [
    | inl is ↦
        let (sum, raw, fits) = found.0 in
        subst (λ j. is_row name (slot_in_block order names block j) ≡ false) (sym is) (ap (λ x. is_row name (slot_by names x)) raw ∙ other_name names name inode number sum out)
    | inr differ ↦ none_on place found.1 k least (omega (arith, low, differ))
  ]
