use Rattle.std.proofs.Common.{rules, ◌≡◌, ℕ, ◌<◌, ◌≤◌, inl, inr, List, [], ◌∷◌, length, get_or, nat_lt, true, ap, ◌∙◌, arith}
use Rattle.std.proofs.lemmas.Bool.{cases_eq, lt-ltb, ltb-true, ltb-false}
use Rattle.std.proofs.lemmas.List.{length-map}
use Rattle.std.proofs.lemmas.List.Sorted.{IsPartitionPoint-from_clause}
use Rattle.qx_patch.specs.declared.patch.Entry.{Entry}
use Rattle.qx_patch.specs.PatchView.{IsAscending, numbers_of}
use Rattle.qx_patch.proofs.OrderedEntries.{number-at}
use Rattle.qx_patch.proofs.patch.first_from.Goals as goal

-- numbers that ascend are cut once by a bound
cut-once : (entries : List Entry) (b : ℕ) → IsAscending (numbers_of entries) → (i j : ℕ) (d : Entry) → i ≤ j → j < length entries
    → nat_lt (get_or entries j d).block b ≡ true → nat_lt (get_or entries i d).block b ≡ true
cut-once entries b ascending i j d le low test = elim (cases_eq i j) [
  | inl same ↦ ap (λ k. nat_lt (get_or entries k d).block b) same ∙ test
  | inr differ ↦
      let less : i < j = omega arith in
      let rises : get_or (numbers_of entries) i 0 < get_or (numbers_of entries) j 0 = ascending.rises i j less (rw (length-map, length-map) low) in
      lt-ltb _ _ (omega (arith, rises, number-at entries i d (omega arith), number-at entries j d low, ltb-true (get_or entries j d).block b test))
]

-- an entry, where there is one
some-entry : (entries : List Entry) → 0 < length entries → Entry
some-entry [] some = absurd (omega arith)
some-entry (entry ∷ entries) some = entry

pub returns-clause-below : goal.returns-clause-below
returns-clause-below c =
    let point = IsPartitionPoint-from_clause (λ entry. nat_lt entry.block c.args.b) _ _ c.partition_point.ensures.partitioned (cut-once c.args.entries.now.items c.args.b c.requires) (λ a r q k. search rules) in
    λ k below.
    let low : k < length c.args.entries.now.items = omega (arith, c.partition_point.ensures.bound) in
    let d : Entry = some-entry c.args.entries.now.items (omega arith) in
    omega (arith, number-at c.args.entries.now.items k d low, ltb-true (get_or c.args.entries.now.items k d).block c.args.b (point.0 k d (omega arith) below))

pub returns-clause-above : goal.returns-clause-above
returns-clause-above c =
    let point = IsPartitionPoint-from_clause (λ entry. nat_lt entry.block c.args.b) _ _ c.partition_point.ensures.partitioned (cut-once c.args.entries.now.items c.args.b c.requires) (λ a r q k. search rules) in
    λ k above low.
    let d : Entry = some-entry c.args.entries.now.items (omega arith) in
    omega (arith, number-at c.args.entries.now.items k d low, ltb-false (get_or c.args.entries.now.items k d).block c.args.b (point.1 k d above low))
