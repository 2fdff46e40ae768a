-- What is found is the first row that may have the name, and the first such row is found.
use Rattle.std.proofs.Common.{◌≡◌, ◌↔◌, ℕ, zero, suc, ◌+◌, ◌-◌, ◌<◌, ◌≤◌, inl, inr, Bool, true, false, List, refl, sym, ◌∙◌, ap, subst, arith, Some, None, if◌then◌else◌}
use Rattle.std.proofs.lemmas.Bool.{cases_eq, cases_lt}
use Rattle.std.proofs.lemmas.Slice.Eq.{bytes_eq-Decides}
use Rattle.qx_fields.specs.declared.order.Order.{Order}
use Rattle.qx_records.specs.NameRecord.{RawRecord}
use Rattle.qx_records.specs.NameRecord as raws
use Rattle.qx_records.specs.NameSum.{sum_fits}
use Rattle.qx_records.specs.Slots.{record_at}
use Rattle.qx_dir.specs.declared.block.Found.{Found}
use Rattle.qx_dir.specs.declared.block.Found.TheVariants as founds
use Rattle.qx_dir.specs.Rows.{NoneMayHave, found_as, found_from, may_have}
use Rattle.qx_dir.proofs.FoundRows.{found-behind, found-here, found-nowhere}

-- the facts of a short row that is found
abbrev pub IsName : Order → List ℕ → List ℕ → ℕ → ℕ → ℕ → ℕ → Type 0
IsName order block name from to place inode = (from ≤ place) × (place < to) × ((record_at order block place).raw ≡ raws.Short inode name) × NoneMayHave order block from place name

-- those of a long one
abbrev pub IsMaybe : Order → List ℕ → List ℕ → ℕ → ℕ → ℕ → ℕ → ℕ → Type 0
IsMaybe order block name from to place inode number =
    (from ≤ place) × (place < to) × ((sum : ℕ) × ((record_at order block place).raw ≡ raws.Long inode number sum) × (sum_fits sum name ≡ true)) × NoneMayHave order block from place name

-- those of whatever is found
abbrev IsFound : Order → List ℕ → List ℕ → ℕ → ℕ → Found → Type 0
IsFound order block name from to founds.None = NoneMayHave order block from to name
IsFound order block name from to (founds.Name place inode) = IsName order block name from to place inode
IsFound order block name from to (founds.Maybe place inode number) = IsMaybe order block name from to place inode number

module _ (order : Order) (block name : List ℕ) where
  -- what the record at a place may have
  abbrev may_at : ℕ → Bool
  may_at k = may_have name (record_at order block k).raw

  -- a record that has it is found
  seen : (place to : ℕ) → place < to → may_at place ≡ true → found_as place (record_at order block place).raw ≡ found_from order block place to name
  seen place to within may =
      found-here order block name place to (record_at order block place).raw refl within (found_as place (record_at order block place).raw)
      (sym (ap (λ t. if t then Some (found_as place (record_at order block place).raw) else None) may))

  -- one that hasn't is passed
  passed : (place to : ℕ) → place < to → may_at place ≡ false → found_from order block (place + 1) to name ≡ found_from order block place to name
  passed place to within out =
      found-behind order block name place to (record_at order block place).raw refl within
      (sym (ap (λ t. if t then Some (found_as place (record_at order block place).raw) else None) out))

  -- as are so many of them
  all_passed : (n from place to : ℕ) → place - from ≡ n → from ≤ place → place ≤ to → NoneMayHave order block from place name → found_from order block place to name ≡ found_from order block from to name
  all_passed zero from place to e low high none = ap (λ k. found_from order block k to name) (let same : place ≡ from = omega (arith, e) in same)
  all_passed (suc n) from place to e low high none =
      all_passed n (from + 1) place to (omega (arith, e)) (omega (arith, e)) high (λ k later before. none k (omega arith) before)
      ∙ passed from to (omega (arith, e)) (none from (omega arith) (omega (arith, e)))

  -- one more that hasn't it, before those that haven't
  one_more : (from to : ℕ) → may_at from ≡ false → NoneMayHave order block (from + 1) to name → NoneMayHave order block from to name
  one_more from to out none k low high = elim (cases_eq k from) [
    | inl is ↦ subst (λ j. may_at j ≡ false) (sym is) out
    | inr differ ↦ none k (omega arith) high
  ]

  earlier : (from to : ℕ) (found : Found) → may_at from ≡ false → IsFound order block name (from + 1) to found → IsFound order block name from to found
  earlier from to founds.None out f = one_more from to out f
  earlier from to (founds.Name place inode) out f = (omega (arith, f.0), f.1, f.2, one_more from place out f.3)
  earlier from to (founds.Maybe place inode number) out f = (omega (arith, f.0), f.1, f.2, one_more from place out f.3)

  -- the first record has it
  here : (from to : ℕ) (raw : RawRecord) → (record_at order block from).raw ≡ raw → from < to → may_have name raw ≡ true → IsFound order block name from to (found_as from raw)
  here from to raws.Unused is within may = absurd (cc)
  here from to (raws.Short inode other) is within may = (omega arith, within, is ∙ ap (λ x. raws.Short inode x) ((bytes_eq-Decides other name).0 may), λ k low high. absurd (omega arith))
  here from to (raws.Long inode number sum) is within may = (omega arith, within, (sum, is, may), λ k low high. absurd (omega arith))
  here from to (raws.Bad count) is within may = absurd (cc)

  -- what is found has these facts
  facts : (n from to : ℕ) → to - from ≡ n → IsFound order block name from to (found_from order block from to name)
  facts zero from to e = subst (IsFound order block name from to) (sym (found-nowhere order block name from to (omega (arith, e)))) (λ k low high. absurd (omega (arith, e)))
  facts (suc n) from to e = by_test (facts n (from + 1) to (omega (arith, e))) (may_at from) refl
    where
      by_test : IsFound order block name (from + 1) to (found_from order block (from + 1) to name) → (t : Bool) → may_at from ≡ t → IsFound order block name from to (found_from order block from to name)
      by_test behind true may = subst (IsFound order block name from to) (seen from to (omega (arith, e)) may) (here from to (record_at order block from).raw refl (omega (arith, e)) may)
      by_test behind false out = subst (IsFound order block name from to) (passed from to (omega (arith, e)) out) (earlier from to (found_from order block (from + 1) to name) out behind)

  -- the first row that may have the name is found
  first_found : (from to place : ℕ) (raw : RawRecord) → from ≤ place → place < to → (record_at order block place).raw ≡ raw → may_have name raw ≡ true → NoneMayHave order block from place name → found_from order block from to name ≡ found_as place raw
  first_found from to place raw low high is may none =
      sym (all_passed (place - from) from place to refl low (omega arith) none) ∙ sym (seen place to high (ap (may_have name) is ∙ may)) ∙ ap (found_as place) is

-- ---- the clauses of the law

pub found_none : (order : Order) (block name : List ℕ) (from to : ℕ) → found_from order block from to name ≡ founds.None ↔ NoneMayHave order block from to name
found_none order block name from to = (
  λ e. subst (IsFound order block name from to) e (facts order block name (to - from) from to refl),
  λ none. elim (cases_lt to from) [
    | inl past ↦ found-nowhere order block name from to (omega arith)
    | inr low ↦ sym (all_passed order block name (to - from) from to to refl low (omega arith) none) ∙ found-nowhere order block name to to (omega arith)
  ],
)

pub found_name : (order : Order) (block name : List ℕ) (from to place inode : ℕ) → found_from order block from to name ≡ founds.Name place inode ↔ IsName order block name from to place inode
found_name order block name from to place inode = (
  λ e. subst (IsFound order block name from to) e (facts order block name (to - from) from to refl),
  λ f. first_found order block name from to place (raws.Short inode name) f.0 f.1 f.2 ((bytes_eq-Decides name name).1 refl) f.3,
)

pub found_maybe : (order : Order) (block name : List ℕ) (from to place inode number : ℕ) → found_from order block from to name ≡ founds.Maybe place inode number ↔ IsMaybe order block name from to place inode number
found_maybe order block name from to place inode number = (
  λ e. subst (IsFound order block name from to) e (facts order block name (to - from) from to refl),
  λ f. first_found order block name from to place (raws.Long inode number f.2.0) f.0 f.1 f.2.1 f.2.2 f.3,
)
