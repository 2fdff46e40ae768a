-- The first records of a block are those of the block.
use Rattle.std.proofs.Common.{◌≡◌, ℕ, ◌+◌, ◌-◌, ◌*◌, ◌/◌, ◌<◌, ◌≤◌, List, length, take, drop, sym, ◌∙◌, ap, subst, arith}
use Rattle.std.specs.Prelude.{slice_range}
use Rattle.std.proofs.lemmas.List.{drop-take, length-take-le, take-take}
use Rattle.qx_fields.specs.declared.order.Order.{Order}
use Rattle.qx_records.specs.NameRecord.{raw_in}
use Rattle.qx_records.specs.Slots.{record_at}
use Rattle.qx_dir.specs.declared.block.Found.{Found}
use Rattle.qx_dir.specs.declared.block.Found.TheVariants as founds
use Rattle.qx_dir.specs.Rows.{NoneMayHave, found_from, may_have}
use Rattle.qx_dir.proofs.FirstRows.{found_maybe, found_name, found_none}
use Rattle.qx_lookup.specs.Rows.{IsFoundAs, IsFoundIn}

-- a piece of the first bytes
part_slice : (n at : ℕ) (bytes : List ℕ) → at + 32 ≤ n → slice_range (take n bytes) at (at + 32) ≡ slice_range bytes at (at + 32)
part_slice n at bytes low =
    let split : n ≡ at + (n - at) = omega (arith, low) in
    let wide : at + 32 - at ≤ n - at = omega (arith, low) in
    ap (λ k. take (at + 32 - at) (drop at (take k bytes))) split ∙ ap (take (at + 32 - at)) (drop-take at (n - at) bytes) ∙ take-take (at + 32 - at) (n - at) (drop at bytes) wide

module _ (order : Order) (bytes part name : List ℕ) (to : ℕ) (is : part ≡ take (32 * to) bytes) (long : 32 * to ≤ length bytes) where
  -- how many records it has
  pub records_to : length part / 32 ≡ to
  records_to = let all : length part ≡ 32 * to = ap length is ∙ length-take-le (32 * to) bytes long in omega (arith, all)

  -- each is the block's
  pub same_record : (k : ℕ) → k < to → (record_at order part k).raw ≡ (record_at order bytes k).raw
  same_record k low =
      ap (λ bs. raw_in order (slice_range bs (k * 32) (k * 32 + 32))) is ∙ ap (raw_in order) (part_slice (32 * to) (k * 32) bytes (omega (arith, low)))

  -- so none has the name in the block either
  none_has : (from last : ℕ) → last ≤ to → NoneMayHave order part from last name → NoneMayHave order bytes from last name
  none_has from last most none k least low = ap (may_have name) (sym (same_record k (omega (arith, low, most)))) ∙ none k least low

  -- what is found among them
  pub found_as : (from : ℕ) (found : Found) → found ≡ found_from order part from (length part / 32) name → IsFoundAs order bytes name from to found
  found_as from founds.None is_found =
      none_has from to (omega arith) (subst (λ n. NoneMayHave order part from n name) records_to ((found_none order part name from (length part / 32)).0 (sym is_found)))
  found_as from (founds.Name place inode) is_found =
      let f = (found_name order part name from (length part / 32) place inode).0 (sym is_found) in
      let low : place < to = subst (λ n. place < n) records_to f.1 in
      (sym (same_record place low) ∙ f.2, none_has from place (omega (arith, low)) f.3)
  found_as from (founds.Maybe place inode number) is_found =
      let f = (found_maybe order part name from (length part / 32) place inode number).0 (sym is_found) in
      let low : place < to = subst (λ n. place < n) records_to f.1 in
      ((f.2.0, sym (same_record place low) ∙ f.2.1, f.2.2), none_has from place (omega (arith, low)) f.3)

  -- and where
  pub found_in : (from : ℕ) (found : Found) → found ≡ found_from order part from (length part / 32) name → IsFoundIn from to found
  found_in from founds.None is_found = tt
  found_in from (founds.Name place inode) is_found =
      let f = (found_name order part name from (length part / 32) place inode).0 (sym is_found) in (f.0, subst (λ n. place < n) records_to f.1)
  found_in from (founds.Maybe place inode number) is_found =
      let f = (found_maybe order part name from (length part / 32) place inode number).0 (sym is_found) in (f.0, subst (λ n. place < n) records_to f.1)
