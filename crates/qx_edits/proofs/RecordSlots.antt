-- The slots that a directory's records say once one is set.
use Rattle.std.proofs.Common.{◌≡◌, ◌≢◌, ℕ, suc, ◌+◌, ◌*◌, ◌-◌, ◌/◌, ◌<◌, ◌≤◌, ◌⊎◌, List, [], ◌∷◌, ◌++◌, length, inl, inr, refl, sym, ◌∙◌, ap, subst, arith}
use Rattle.std.specs.Prelude.{Bool, true, false, ◌||◌, not, nat_le, nat_lt, ◌==◌, Option, Some, None, replicate, slice_get, slice_set, unwrap_or, if◌then◌else◌}
use Rattle.std.specs.List.{position_or_len}
use Rattle.std.proofs.lemmas.Bool.{cases_eq, cases_lt, eq-eqb, lt-ltb, ltb-false, ltb-true}
use Rattle.std.proofs.lemmas.Bool.Decides.{leb_tells}
use Rattle.std.proofs.lemmas.List.{length-append, length-replicate, length-set}
use Rattle.std.proofs.lemmas.Option.{slice_get-get_or, slice_get_past, unwrap_or-slice_get}
use Rattle.qx_fields.specs.declared.order.Order.{Order}
use Rattle.qx_geom.specs.Pointer.{ceil_div}
use Rattle.qx_geom.specs.Positions.{present_after}
use Rattle.qx_nodes.specs.NodeContents.{NodeContent}
use Rattle.qx_records.specs.NameRecord.{RawRecord, Short, Long, Bad}
use Rattle.qx_records.specs.NameRecord as raws
use Rattle.qx_records.specs.NameSum.{name_sum_of, name_sum_signed_of, sum_fits}
use Rattle.qx_dir.specs.Rows.{row_of}
use Rattle.qx_model.specs.Directories.{is_unused}
use Rattle.qx_model.specs.Edits.{leaf_of_record, pointed, slots_with}
use Rattle.qx_model.specs.Tree.{Row, Slot, Unused}
use Rattle.qx_model.specs.Whole.{HoldsRecords}
use Rattle.qx_model.proofs.AddedRows.{set_at, set_at-other, set_at-same}
use Rattle.qx_model.proofs.Outlines.{slot_in}
use Rattle.qx_model.proofs.WholeRows.{multiple}
use Rattle.qx_view.specs.Entries.{long_slot, slot_by}
use Rattle.qx_edits.specs.RecordEdits.{SetsRecord, raw_naming, record_of, size_with_record}

-- a slot that is there
pub there_in : (xs : List Slot) (j : ℕ) → j < length xs → slice_get xs j ≡ Some (slot_in xs j)
there_in xs j low = slice_get-get_or xs j Unused low ∙ ap (λ s. Some s) (sym (unwrap_or-slice_get xs j Unused))

-- ---- sizes

below_size : (k n : ℕ) → k < n → nat_lt (k * 32) (32 * n) ≡ true
below_size k n low = lt-ltb (k * 32) (32 * n) (omega arith)

size_below : (blocksize k n : ℕ) → k < n → size_with_record blocksize k (32 * n) ≡ 32 * n
size_below blocksize k n low = ap (λ b. if b then 32 * n else 32 * n + blocksize) (below_size k n low)

size_behind : (blocksize k n : ℕ) → n ≤ k → size_with_record blocksize k (32 * n) ≡ 32 * n + blocksize
size_behind blocksize k n past = go (nat_lt (k * 32) (32 * n)) refl
  where
    go : (b : Bool) → nat_lt (k * 32) (32 * n) ≡ b → (if b then 32 * n else 32 * n + blocksize) ≡ 32 * n + blocksize
    go true e = let low = ltb-true (k * 32) (32 * n) e in absurd (omega (arith, low, past))
    go false e = refl

-- slots of which one that is there is set
pub size_set : (blocksize k : ℕ) (xs : List Slot) (row : Slot) → k < length xs → 32 * length (slice_set xs k row) ≡ size_with_record blocksize k (32 * length xs)
size_set blocksize k xs row low = ap (λ n. 32 * n) (length-set xs k row) ∙ sym (size_below blocksize k (length xs) low)

-- slots with a row more
pub size_added : (blocksize : ℕ) (xs : List Slot) (row : Slot) → HoldsRecords blocksize → 32 * length (slots_with blocksize xs row) ≡ size_with_record blocksize (position_or_len is_unused xs) (32 * length xs)
size_added blocksize xs row holds = go (nat_lt (position_or_len is_unused xs) (length xs)) refl
  where
    go : (b : Bool) → nat_lt (position_or_len is_unused xs) (length xs) ≡ b
        → 32 * length (if b then slice_set xs (position_or_len is_unused xs) row else xs ++ row ∷ replicate (blocksize / 32 - 1) Unused) ≡ size_with_record blocksize (position_or_len is_unused xs) (32 * length xs)
    go true e = size_set blocksize (position_or_len is_unused xs) xs row (ltb-true (position_or_len is_unused xs) (length xs) e)
    go false e =
        let past = ltb-false (position_or_len is_unused xs) (length xs) e in
        let two = holds.two in
        let long : length (xs ++ row ∷ replicate (blocksize / 32 - 1) Unused) ≡ length xs + suc (blocksize / 32 - 1) = length-append xs (row ∷ replicate (blocksize / 32 - 1) Unused) ∙ ap (λ n. length xs + suc n) (length-replicate (blocksize / 32 - 1) Unused) in
        omega (arith, long, two, multiple blocksize 32 holds.whole) ∙ sym (size_behind blocksize (position_or_len is_unused xs) (length xs) past)

-- ---- records

module _ (order : Order) (blocksize k : ℕ) (names : ℕ → Option (List ℕ)) (xs ys : List Slot) (raw : RawRecord) (row : Slot) (a b : NodeContent) (long : a.size ≡ 32 * length xs)
    (was : (j : ℕ) → j < length xs → slot_by names (record_of order blocksize a j) ≡ slice_get xs j) (sets : SetsRecord order blocksize k raw a b) (says : slot_by names raw ≡ Some row)
    (size : 32 * length ys ≡ size_with_record blocksize k (32 * length xs)) (slots : (j : ℕ) → slot_in ys j ≡ set_at k row (slot_in xs) j) where
  -- the size is that of the new slots
  pub set_size : b.size ≡ 32 * length ys
  set_size = sets.size ∙ ap (size_with_record blocksize k) long ∙ sym size

  -- the present leaves
  pub set_present : b.present ≡ present_after a.present (ceil_div (32 * length ys) blocksize) (leaf_of_record blocksize k ∷ []) None
  set_present = sets.present ∙ ap (λ n. present_after a.present (ceil_div n blocksize) (leaf_of_record blocksize k ∷ []) None) (ap (size_with_record blocksize k) long ∙ sym size)

  -- and each record says its slot
  pub set_slots : (j : ℕ) → j < length ys → slot_by names (record_of order blocksize b j) ≡ slice_get ys j
  set_slots j low = elim (cases_eq j k) [
    | inl is ↦ subst (λ m. slot_by names (record_of order blocksize b m) ≡ Some (slot_in ys m)) (sym is) (ap (slot_by names) sets.here ∙ says ∙ ap (λ s. Some s) (sym (slots k ∙ set_at-same k row (slot_in xs)))) ∙ sym (there_in ys j low)
    | inr ne ↦ other ne (cases_lt j (length xs)) ∙ ap (λ s. Some s) (sym (slots j ∙ set_at-other k row (slot_in xs) j ne)) ∙ sym (there_in ys j low)
  ]
    where
      other : j ≢ k → (j < length xs) ⊎ (length xs ≤ j) → slot_by names (record_of order blocksize b j) ≡ Some (slot_in xs j)
      other ne (inl below) = ap (slot_by names) (sets.others j ne (omega (arith, below, long))) ∙ was j below ∙ there_in xs j below
      other ne (inr past) =
          let wide : j * 32 < size_with_record blocksize k a.size = subst (λ n. j * 32 < size_with_record blocksize k n) (sym long) (subst (λ n. j * 32 < n) size (omega (arith, low))) in
          ap (slot_by names) (sets.behind j ne (omega (arith, past, long)) wide) ∙ ap (λ o. Some (unwrap_or o Unused)) (sym (slice_get_past xs j past))

-- ---- what a record says

-- one that names another inode
pub naming_says : (names : ℕ → Option (List ℕ)) (n : ℕ) (raw : RawRecord) (s : Slot) → slot_by names raw ≡ Some s → slot_by names (raw_naming n raw) ≡ Some (pointed n s)
naming_says names n raws.Unused s h = let is : Unused ≡ s = cc in ap (λ x. Some (pointed n x)) is
naming_says names n (Short old name) s h = let is : Row old name None ≡ s = cc in ap (λ x. Some (pointed n x)) is
naming_says names n (Bad count) s h = absurd (cc)
naming_says names n (Long old number sum) s h = found (names number) h
  where
    found : (o : Option (List ℕ)) → long_slot old number sum o ≡ Some s → long_slot n number sum o ≡ Some (pointed n s)
    found None h = absurd (cc)
    found (Some name) h = fits (sum_fits sum name) h
      where
        fits : (b : Bool) → (if b then Some (Row old name (Some number)) else None) ≡ Some s → (if b then Some (Row n name (Some number)) else None) ≡ Some (pointed n s)
        fits true h = let is : Row old name (Some number) ≡ s = cc in ap (λ x. Some (pointed n x)) is
        fits false h = absurd (cc)

-- the number that a name of this length gets
abbrev pub long_by : ℕ → List ℕ → Option ℕ
long_by number name = if nat_lt 27 (length name) then Some number else None

-- a new row
pub row_says : (names : ℕ → Option (List ℕ)) (n number : ℕ) (name : List ℕ) → ((k : ℕ) → long_by number name ≡ Some k → names k ≡ Some name) → slot_by names (row_of n name number) ≡ Some (Row n name (long_by number name))
row_says names n number name named = by (nat_le (length name) 27) (nat_lt 27 (length name)) (opposite (length name)) named
  where
    opposite : (m : ℕ) → nat_le m 27 ≡ not (nat_lt 27 m)
    opposite m = elim (leb_tells m 27) [
      | inl low ↦ elim (leb_tells 28 m) [ inl high ↦ absurd (omega (arith, low.1, high.1)) | inr no_high ↦ low.0 ∙ ap not (sym no_high.0) ]
      | inr no_low ↦ elim (leb_tells 28 m) [ inl high ↦ no_low.0 ∙ ap not (sym high.0) | inr no_high ↦ absurd (omega (arith, no_low.1, no_high.1)) ]
    ]

    by : (b c : Bool) → b ≡ not c → ((k : ℕ) → (if c then Some number else None) ≡ Some k → names k ≡ Some name)
        → slot_by names (if b then Short n name else Long n number (name_sum_of name)) ≡ Some (Row n name (if c then Some number else None))
    by true false same named = refl
    by false true same named = ap (long_slot n number (name_sum_of name)) (named number refl) ∙ ap (λ (t : Bool). if t || (name_sum_of name == name_sum_signed_of name) then Some (Row n name (Some number)) else None) (eq-eqb (name_sum_of name) (name_sum_of name) refl)
    by true true same named = absurd (cc)
    by false false same named = absurd (cc)
