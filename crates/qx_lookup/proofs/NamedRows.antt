-- The first row with a name among records is that of the slots that they say.
use Rattle.std.proofs.Common.{◌≡◌, ℕ, ◌<◌, ◌≤◌, List, [], ◌∷◌, length, get_or, refl, sym, ◌∙◌, ap, arith}
use Rattle.std.specs.Prelude.{Bool, true, false, Option, Some, None, map, position, slice_get, unwrap_or, nat_lt, if◌then◌else◌}
use Rattle.std.specs.List.{position_or_len}
use Rattle.std.proofs.lemmas.Bool.{lt-ltb, ltb-true}
use Rattle.std.proofs.lemmas.List.Sums.{position_or_len_is}
use Rattle.std.proofs.lemmas.Option.{get_or_from_slice_get, slice_get-get_or, slice_get_within}
use Rattle.std.proofs.lemmas.Slice.Eq.{bytes_eq-Decides}
use Rattle.qx_geom.specs.Lists.{each_below}
use Rattle.qx_geom.proofs.Truths.{not_so}
use Rattle.qx_model.specs.Tree.{Row, Slot, Tree, Unused, slots_of}
use Rattle.qx_model.specs.Directories.{has_name}
use Rattle.qx_copies.proofs.ShownNames.{listed_count, listed_slot}
use Rattle.qx_lookup.specs.declared.rows.FoundRow.{FoundRow}
use Rattle.qx_lookup.specs.Names.{IsRowNamed}
use Rattle.qx_lookup.specs.Rows.{IsFirstRow, NoneHas, is_row}

-- ---- the first place that passes

-- is that which passes, where none before it does
pub position_is : {A : Type 0} (p : A → Bool) (xs : List A) (k : ℕ) (x : A) → slice_get xs k ≡ Some x → p x ≡ true → ((j : ℕ) (y : A) → j < k → slice_get xs j ≡ Some y → p y ≡ false) → position p xs ≡ Some k
position_is p xs k x at passes before =
    let low : k < length xs = slice_get_within xs k x at in
    let first : position_or_len p xs ≡ k = position_or_len_is p xs k x (omega (arith, low)) (λ j less. before j (get_or xs j x) less (slice_get-get_or xs j x (omega (arith, less, low)))) (λ w. ap p (get_or_from_slice_get xs k x x at) ∙ passes) in
    ap (λ n. if nat_lt n (length xs) then Some n else None) first ∙ ap (λ b. if b then Some k else None) (lt-ltb k (length xs) low)

-- there is none where none passes
pub position_none : {A : Type 0} (p : A → Bool) (xs : List A) → ((j : ℕ) (y : A) → slice_get xs j ≡ Some y → p y ≡ false) → position p xs ≡ None
position_none p [] none = refl
position_none p (x ∷ xs) none =
    let n : ℕ = length (x ∷ xs) in
    let all : position_or_len p (x ∷ xs) ≡ n = position_or_len_is p (x ∷ xs) n x (omega arith) (λ j less. none j (get_or (x ∷ xs) j x) (slice_get-get_or (x ∷ xs) j x less)) (λ w. absurd (omega (arith, w))) in
    ap (λ k. if nat_lt k n then Some k else None) all ∙ ap (λ b. if b then Some n else None) (not_so (nat_lt n n) (λ w. absurd (let less : n < n = ltb-true n n w in omega (arith, less))))

-- ---- the slots of a directory

module _ (f : ℕ → Option Slot) (n : ℕ) (t : Tree) (d : ℕ) (name : List ℕ) (listed : each_below n f ≡ map (λ s. Some s) (slots_of t d)) where
  -- a record that is no row with the name is no slot with it
  none_at : (last : ℕ) → NoneHas f name 0 last → last ≤ n → (j : ℕ) (y : Slot) → j < last → slice_get (slots_of t d) j ≡ Some y → has_name name y ≡ false
  none_at last none most j y low at = sym (ap (is_row name) (listed_slot n f (slots_of t d) listed j (omega (arith, low, most)) ∙ at)) ∙ none j (omega arith) low

  -- what was found among the records is the tree's row
  pub row_listed : (found : Option FoundRow) → IsFirstRow f name 0 n found → IsRowNamed t d name found
  row_listed None none = position_none (has_name name) (slots_of t d) (λ j y at. none_at n none (omega arith) j y (let low : j < length (slots_of t d) = slice_get_within (slots_of t d) j y at in omega (arith, low, listed_count n f (slots_of t d) listed)) at)
  row_listed (Some row) (low, is, none) =
      let at : slice_get (slots_of t d) row.«record» ≡ Some (Row row.inode name row.long) = sym (listed_slot n f (slots_of t d) listed row.«record» low) ∙ is in (
        position_is (has_name name) (slots_of t d) row.«record» (Row row.inode name row.long) at ((bytes_eq-Decides name name).1 refl) (none_at row.«record» none (omega (arith, low))),
        ap (λ o. unwrap_or o Unused) at,
      )

-- where a directory has no slots, no row has the name
pub no_row_listed : (t : Tree) (d : ℕ) (name : List ℕ) → slots_of t d ≡ [] → IsRowNamed t d name None
no_row_listed t d name none = ap (position (has_name name)) none
