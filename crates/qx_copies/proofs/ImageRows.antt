-- What rows and long names are by their records and leaves.
use Rattle.std.proofs.Common.{◌≡◌, ℕ, ◌*◌, ◌≤◌, ◌<◌, List, length, refl, sym, ◌∙◌, ap, arith}
use Rattle.std.specs.Prelude.{Bool, true, false, nat_lt, Option, Some, None, is_some, unwrap_or, slice_get, if◌then◌else◌}
use Rattle.std.specs.Option.{option_flatten}
use Rattle.std.proofs.lemmas.List.FromFn.{get_or-map-range_with_len, length-map-range_with_len}
use Rattle.std.proofs.lemmas.Option.{slice_get-get_or, slice_get_past}
use Rattle.std.proofs.lemmas.Slice.Eq.{bytes_eq-Decides}
use Rattle.qx_geom.specs.declared.root.Root.{Root}
use Rattle.qx_geom.specs.Lists.{each_below, is_in}
use Rattle.qx_model.specs.Tree.{Row, Slot, Unused}
use Rattle.qx_nodes.proofs.NamesOfLeaves.{name_by_content}
use Rattle.qx_nodes.specs.BlockMap.{BlockMap}
use Rattle.qx_nodes.specs.Content.{Reaches}
use Rattle.qx_nodes.specs.LongNames.{long_name}
use Rattle.qx_nodes.specs.NodeContents.{node_content}
use Rattle.qx_nodes.specs.Visits.{present_of}
use Rattle.qx_records.specs.NameRecord.{Bad, Long, RawRecord, Short, long_name_in}
use Rattle.qx_records.specs.NameRecord as records
use Rattle.qx_records.specs.NameSum.{sum_fits}
use Rattle.qx_view.specs.Entries.{long_slot, slot_by}
use Rattle.qx_view.specs.Sound.{is_short}

-- ---- records

-- a short record with a name, by the test
pub short_is : (raw : RawRecord) (name : List ℕ) → is_short raw name ≡ true → (i : ℕ) × (raw ≡ Short i name)
short_is records.Unused name e = absurd (cc)
short_is (Short i other) name e = (i, ap (λ x. Short i x) ((bytes_eq-Decides other name).0 e))
short_is (Long i number sum) name e = absurd (cc)
short_is (Bad count) name e = absurd (cc)

-- a row with a number is a long record's, whose number has the name
pub row_long : (names : ℕ → Option (List ℕ)) (raw : RawRecord) (inode number : ℕ) (name : List ℕ) → slot_by names raw ≡ Some (Row inode name (Some number)) → names number ≡ Some name
row_long names records.Unused inode number name e = absurd (cc)
row_long names (Short i other) inode number name e = absurd (cc)
row_long names (Bad count) inode number name e = absurd (cc)
row_long names (Long i other sum) inode number name e = by_name (names other) refl e
  where
    by_sum : (b : Bool) (found : List ℕ) → names other ≡ Some found → (if b then Some (Row i found (Some other)) else None) ≡ Some (Row inode name (Some number)) → names number ≡ Some name
    by_sum true found at e =
        let row : Row i found (Some other) ≡ Row inode name (Some number) = cc in
        let same : other ≡ number = cc in
        let name_is : found ≡ name = cc in
        ap names (sym same) ∙ at ∙ ap (λ x. Some x) name_is
    by_sum false found at e = absurd (cc)

    by_name : (o : Option (List ℕ)) → names other ≡ o → long_slot i other sum o ≡ Some (Row inode name (Some number)) → names number ≡ Some name
    by_name None at e = absurd (cc)
    by_name (Some found) at e = by_sum (sum_fits sum found) found at e

-- ---- lists of options

-- what stands at a place of a list below a bound
pub at_place : {A : Type 0} (n : ℕ) (f : ℕ → Option A) (k : ℕ) → k < n → option_flatten (slice_get (each_below n f) k) ≡ f k
at_place n f k low =
    let long : length (each_below n f) ≡ n = length-map-range_with_len f 0 n in
    ap (λ o. option_flatten o) (slice_get-get_or (each_below n f) k None (omega (arith, long, low))) ∙ get_or-map-range_with_len f 0 n k k None low (omega arith)

-- and past it
pub past_place : {A : Type 0} (n : ℕ) (f : ℕ → Option A) (k : ℕ) → n ≤ k → option_flatten (slice_get (each_below n f) k) ≡ None
past_place n f k past = let long : length (each_below n f) ≡ n = length-map-range_with_len f 0 n in ap (λ o. option_flatten o) (slice_get_past (each_below n f) k (omega (arith, long, past)))

-- what is there is something
pub some_is : {A : Type 0} (o : Option A) → is_some o ≡ true → (x : A) × (o ≡ Some x)
some_is None e = absurd (cc)
some_is (Some x) e = (x, refl)

-- a row at a place of slots is one of them
pub row_in : (slots : List Slot) (k : ℕ) (s : Slot) → ¬ (s ≡ Unused) → unwrap_or (slice_get slots k) Unused ≡ s → slice_get slots k ≡ Some s
row_in slots k s row e = go (slice_get slots k) refl e
  where
    go : (o : Option Slot) → slice_get slots k ≡ o → unwrap_or o Unused ≡ s → o ≡ Some s
    go None at e = absurd (row (sym e))
    go (Some x) at e = ap (λ z. Some z) e

-- a row isn't unused
pub row_used : (inode : ℕ) (name : List ℕ) (long : Option ℕ) → ¬ (Row inode name long ≡ Unused)
row_used inode name long e = absurd (cc)

-- ---- names

-- a name is of a present leaf
pub name_present : (m : BlockMap) (longfile : Root) (n : ℕ) (name : List ℕ) → Reaches m longfile → long_name m longfile n ≡ Some name → is_in (present_of m longfile) n ≡ true
name_present m longfile n name r e = by_size (nat_lt (n * m.size) longfile.size) (name_by_content m longfile n r ∙ e)
  where
    by_present : (b : Bool) → (if b then long_name_in m.order (let c = node_content m longfile in c.leaves n) else None) ≡ Some name → b ≡ true
    by_present true h = refl
    by_present false h = absurd (cc)

    by_size : (b : Bool) → (if b then (if is_in (present_of m longfile) n then long_name_in m.order (let c = node_content m longfile in c.leaves n) else None) else None) ≡ Some name → is_in (present_of m longfile) n ≡ true
    by_size true h = by_present (is_in (present_of m longfile) n) h
    by_size false h = absurd (cc)
