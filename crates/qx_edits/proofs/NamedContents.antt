-- The long names of a tree once the Longfile's content gets a name, or loses one.
use Rattle.std.proofs.Common.{◌≡◌, ℕ, ◌+◌, ◌*◌, ◌<◌, ◌≤◌, List, length, inl, inr, refl, sym, ◌∙◌, ap, subst, arith}
use Rattle.std.specs.Prelude.{Bool, true, false, max, nat_lt, Option, Some, None, slice_get, slice_set, if◌then◌else◌}
use Rattle.std.proofs.lemmas.Bool.{cases_eq}
use Rattle.std.proofs.lemmas.List.{length-set}
use Rattle.std.proofs.lemmas.List.FromFn.{length-map-range_with_len}
use Rattle.qx_fields.specs.declared.order.Order.{Order}
use Rattle.qx_geom.specs.Lists.{each_below, is_in}
use Rattle.qx_geom.specs.Pointer.{ceil_div}
use Rattle.qx_nodes.specs.LongNames.{name_in}
use Rattle.qx_nodes.specs.NodeContents.{NodeContent}
use Rattle.qx_records.specs.NameRecord.{long_name_in}
use Rattle.qx_model.specs.Edits.{absent_number, with_place}
use Rattle.qx_model.specs.Tree.{Tree}
use Rattle.qx_model.specs.Whole.{HasWholeNames}
use Rattle.qx_model.proofs.Outlines.{get-set_at, get-set_other}
use Rattle.qx_model.proofs.WholeNames.{named_whole, number_room, place_at, place_beside, place_long}
use Rattle.qx_model.proofs.WholeRows.{ceil_multiple}
use Rattle.qx_edits.specs.NameEdits.{AddsName, DropsName}
use Rattle.qx_edits.proofs.ListedElements.{given_at, listed_by}

-- a number whose leaf isn't present has no name
pub name_absent : (order : Order) (blocksize : ℕ) (c : NodeContent) (q : ℕ) → is_in c.present q ≡ false → name_in order blocksize c q ≡ None
name_absent order blocksize c q out = ap (λ (p : Bool). if nat_lt (q * blocksize) c.size then (if p then long_name_in order (c.leaves q) else None) else None) out ∙ both (nat_lt (q * blocksize) c.size)
  where
    both : (b : Bool) → (if b then (let none : Option (List ℕ) = None in none) else None) ≡ None
    both true = refl
    both false = refl

module _ (order : Order) (blocksize : ℕ) (t : Tree) (a b : NodeContent) (pos : 0 < blocksize) (longs : HasWholeNames blocksize t) (size : t.long_size ≡ a.size)
    (names : t.long_names ≡ each_below (ceil_div a.size blocksize) (name_in order blocksize a)) where
  -- as many names as leaves
  names_count : length t.long_names ≡ ceil_div a.size blocksize
  names_count = ap length names ∙ length-map-range_with_len (name_in order blocksize a) 0 (ceil_div a.size blocksize)

  name_was : (i : ℕ) → i < length t.long_names → slice_get t.long_names i ≡ Some (name_in order blocksize a i)
  name_was i low = ap (λ xs. slice_get xs i) names ∙ given_at (ceil_div a.size blocksize) (name_in order blocksize a) i (let count = names_count in omega (arith, low, count))

  -- a name is added at the least number that is free
  pub added_names : (name : List ℕ) → AddsName order blocksize (absent_number t) name a b → with_place t.long_names (absent_number t) (Some name) ≡ each_below (ceil_div b.size blocksize) (name_in order blocksize b)
  added_names name adds = listed_by (ceil_div b.size blocksize) (name_in order blocksize b) (with_place t.long_names (absent_number t) (Some name)) (sym count) each
    where
      room : absent_number t ≤ length t.long_names
      room = number_room blocksize t longs name

      count : ceil_div b.size blocksize ≡ length (with_place t.long_names (absent_number t) (Some name))
      count =
          let w = named_whole blocksize t longs name in
          ap (λ n. ceil_div n blocksize) (adds.size ∙ ap (λ n. max n ((absent_number t + 1) * blocksize)) (sym size) ∙ w.whole)
          ∙ ceil_multiple (length (with_place t.long_names (absent_number t) (Some name))) blocksize pos

      each : (i : ℕ) → i < ceil_div b.size blocksize → slice_get (with_place t.long_names (absent_number t) (Some name)) i ≡ Some (name_in order blocksize b i)
      each i low = elim (cases_eq i (absent_number t)) [
        | inl is ↦ subst (λ j. slice_get (with_place t.long_names (absent_number t) (Some name)) j ≡ Some (name_in order blocksize b j)) (sym is)
            (place_at t.long_names (absent_number t) (Some name) room ∙ ap (λ o. Some o) (sym adds.here))
        | inr ne ↦
            let long = place_long t.long_names (absent_number t) (Some name) room in
            let within : i < length t.long_names = omega (arith, low, count, long, room, ne) in
            place_beside t.long_names (absent_number t) (Some name) room i ne ∙ name_was i within ∙ ap (λ o. Some o) (sym (adds.others i ne))
      ]

  -- a name goes
  pub dropped_names : (q : ℕ) → DropsName order blocksize q a b → is_in b.present q ≡ false → slice_set t.long_names q None ≡ each_below (ceil_div b.size blocksize) (name_in order blocksize b)
  dropped_names q drops out = listed_by (ceil_div b.size blocksize) (name_in order blocksize b) (slice_set t.long_names q None) count each
    where
      count : length (slice_set t.long_names q None) ≡ ceil_div b.size blocksize
      count = length-set t.long_names q None ∙ names_count ∙ ap (λ n. ceil_div n blocksize) (sym drops.size)

      each : (i : ℕ) → i < ceil_div b.size blocksize → slice_get (slice_set t.long_names q None) i ≡ Some (name_in order blocksize b i)
      each i low =
          let same = length-set t.long_names q None in
          let within : i < length t.long_names = omega (arith, low, count, same) in
          elim (cases_eq i q) [
            | inl is ↦ subst (λ j. j < length t.long_names → slice_get (slice_set t.long_names q None) j ≡ Some (name_in order blocksize b j)) (sym is)
                (λ h. get-set_at t.long_names q None h ∙ ap (λ o. Some o) (sym (name_absent order blocksize b q out))) within
            | inr ne ↦ get-set_other t.long_names q i None (λ z. ne (sym z)) ∙ name_was i within ∙ ap (λ o. Some o) (sym (drops.others i ne))
          ]
