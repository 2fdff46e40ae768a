-- The records of a directory by its leaves: those of a present leaf are its block's, and those in a hole say nothing.
use Rattle.std.proofs.Common.{◌≡◌, ℕ, ◌+◌, ◌-◌, ◌*◌, ◌/◌, ◌%◌, ◌<◌, ◌≤◌, List, inl, inr, refl, sym, ◌∙◌, ap, subst, arith}
use Rattle.std.specs.Prelude.{Bool, Contains, Option, Some, None, is_some, true, false, slice_range}
use Rattle.std.proofs.lemmas.Bool.{cases_lt}
use Rattle.std.proofs.lemmas.Nat.{div-add-mod', div-mul-add, le-div}
use Rattle.std.proofs.Math.Nat.{div-lt_iff_lt-mul}
use Rattle.qx_fields.specs.declared.order.Order.{Order}
use Rattle.qx_geom.specs.declared.root.Root.{Root}
use Rattle.qx_geom.specs.Lists.{is_in}
use Rattle.qx_geom.specs.Pointer.{ceil_div}
use Rattle.qx_geom.proofs.ImagesAndFilters.{in_Contains}
use Rattle.qx_geom.proofs.LevelCounts.{ceil_div-below}
use Rattle.qx_geom.proofs.Truths.{true_or_false}
use Rattle.qx_nodes.specs.BlockMap.{BlockMap}
use Rattle.qx_nodes.specs.Content.{Reaches, bytes_at_leaf, leaf_bytes}
use Rattle.qx_nodes.specs.LongNames.{long_name}
use Rattle.qx_nodes.specs.Visits.{present_of, visits_of}
use Rattle.qx_nodes.proofs.AbsentLeaves.{absent_bytes}
use Rattle.qx_nodes.proofs.ContentLocality.{lies_below}
use Rattle.qx_nodes.proofs.MetLeaves.{node_leaf_found}
use Rattle.qx_nodes.proofs.ZeroBytes.{slice_zeros}
use Rattle.qx_records.specs.NameRecord.{raw_in}
use Rattle.qx_model.specs.Tree.{Slot, Unused}
use Rattle.qx_view.specs.Entries.{slot_by}
use Rattle.qx_view.proofs.HoleRecords.{raw_zeros}
use Rattle.qx_blocks.specs.BlockState.{BlockState, IsBlockSize, IsConsistent}
use Rattle.qx_ptree.specs.declared.present.Leaf.{Leaf}
use Rattle.qx_ptree.specs.Present.{IsNextPresent}
use Rattle.qx_ptree.specs.Trees.{HasLevels, IsWorking, block_map}
use Rattle.qx_ptree.proofs.PointerCounts.{size_positive, words_positive}
use Rattle.qx_ptree.proofs.WorkingPaths.{works_below}
use Rattle.qx_lookup.specs.declared.rows.FoundRow.{FoundRow}
use Rattle.qx_lookup.specs.Rows.{IsFirstRow, NoneHas, is_row, records_end, slot_in, slot_in_block}

-- ---- where records lie

-- blocks have whole records
pub whole_records : (size : ℕ) → IsBlockSize size → size ≡ size / 32 * 32
whole_records size k = elim k [
  | inl is ↦ rw is refl
  | inr k ↦ elim k [ inl is ↦ rw is refl | inr k ↦ elim k [ inl is ↦ rw is refl | inr is ↦ rw is refl ] ]
]

-- where record k of a leaf begins
places : (leaf many k size : ℕ) → size ≡ many * 32 → (leaf * many + k) * 32 ≡ leaf * size + k * 32
places leaf many k size whole = subst (λ x. (leaf * many + k) * 32 ≡ leaf * x + k * 32) (sym whole) (grind arith)

-- what it says
pub slot_of_leaf : (m : BlockMap) (longfile node : Root) (leaf k : ℕ) → IsBlockSize m.size → k < m.size / 32
    → slot_in m longfile node (leaf * (m.size / 32) + k) ≡ slot_in_block m.order (long_name m longfile) (leaf_bytes m node leaf) k
slot_of_leaf m longfile node leaf k sized low =
    let whole : m.size ≡ m.size / 32 * 32 = whole_records m.size sized in
    let at : (leaf * (m.size / 32) + k) * 32 ≡ leaf * m.size + k * 32 = places leaf (m.size / 32) k m.size whole in
    let small : k * 32 < m.size = omega (arith, whole, low) in
    let div : (leaf * (m.size / 32) + k) * 32 / m.size ≡ leaf = ap (λ x. x / m.size) at ∙ div-mul-add leaf m.size (k * 32) small in
    let rest : (leaf * (m.size / 32) + k) * 32 % m.size ≡ k * 32 =
    (let q : (leaf * (m.size / 32) + k) * 32 / m.size * m.size + (leaf * (m.size / 32) + k) * 32 % m.size ≡ (leaf * (m.size / 32) + k) * 32 = div-add-mod' ((leaf * (m.size / 32) + k) * 32) m.size in
    let d : (leaf * (m.size / 32) + k) * 32 / m.size * m.size ≡ leaf * m.size = ap (λ x. x * m.size) div in
    omega (arith, q, d, at)) in
    (λ i. slot_by (long_name m longfile) (raw_in m.order (slice_range (leaf_bytes m node (div i)) (rest i) (rest i + 32))))

-- the leaf of a record that comes behind those before a leaf
leaf_least : (size from k : ℕ) → IsBlockSize size → from * (size / 32) ≤ k → from ≤ k * 32 / size
leaf_least size from k sized least =
    let whole : size ≡ size / 32 * 32 = whole_records size sized in
    let at : (from * (size / 32) + 0) * 32 ≡ from * size + 0 * 32 = places from (size / 32) 0 size whole in
    le-div from (k * 32) size (size_positive size sized) (omega (arith, at, least))

-- and of one before those of another
leaf_most : (size to k : ℕ) → IsBlockSize size → k < to * (size / 32) → k * 32 / size < to
leaf_most size to k sized low =
    let whole : size ≡ size / 32 * 32 = whole_records size sized in
    let at : (to * (size / 32) + 0) * 32 ≡ to * size + 0 * 32 = places to (size / 32) 0 size whole in
    (div-lt_iff_lt-mul (size_positive size sized)).1 (omega (arith, at, low))

-- a leaf below a size begins with a record below it
pub leaf_begins : (size bytes index : ℕ) → IsBlockSize size → index < ceil_div bytes size → index * (size / 32) ≤ bytes / 32
leaf_begins size bytes index sized below =
    let whole : size ≡ size / 32 * 32 = whole_records size sized in
    let at : (index * (size / 32) + 0) * 32 ≡ index * size + 0 * 32 = places index (size / 32) 0 size whole in
    let low : index * size < bytes = ceil_div-below bytes size index (size_positive size sized) below in
    omega (arith, at, low)

-- ---- holes

-- a record that lies in no present leaf is unused
pub hole_unused : (m : BlockMap) (longfile node : Root) (k : ℕ) → Reaches m node → k < node.size / 32 → is_in (present_of m node) (k * 32 / m.size) ≡ false → slot_in m longfile node k ≡ Some Unused
hole_unused m longfile node k r low out =
    let z = slice_zeros m.size (k * 32 % m.size) (k * 32 % m.size + 32) in
    ap (λ bs. slot_by (long_name m longfile) (raw_in m.order (slice_range bs (k * 32 % m.size) (k * 32 % m.size + 32))))
    (absent_bytes m node (k * 32 / m.size) (lies_below m node (k * 32) r (omega (arith, low))) (λ there. true_or_false (is_in (present_of m node) (k * 32 / m.size)) (in_Contains (present_of m node) (k * 32 / m.size) there) out))
    ∙ ap (λ bs. slot_by (long_name m longfile) (raw_in m.order bs)) z.1
    ∙ ap (slot_by (long_name m longfile)) (raw_zeros m.order z.0)

-- a node's levels reach its size
pub reaches : (order : Order) (m : BlockState) (node : Root) → IsBlockSize m.holdings.size → HasLevels m.holdings.size node → Reaches (block_map order m) node
reaches order m node sized levels = record {
  size = size_positive m.holdings.size sized;
  words = words_positive m.holdings.size sized;
  reached = levels.reached;
}

-- ---- leaf after leaf

-- no record below the size that lies before a leaf passes a test
abbrev pub NoneBefore : BlockMap → Root → Root → (Option Slot → Bool) → ℕ → Type 0
NoneBefore m longfile node test leaf = (k : ℕ) → k < leaf * (m.size / 32) → k < node.size / 32 → test (slot_in m longfile node k) ≡ false

module _ (m : BlockMap) (longfile node : Root) (test : Option Slot → Bool) (fails : test (Some Unused) ≡ false) (from : ℕ) (sized : IsBlockSize m.size) (r : Reaches m node) (none : NoneBefore m longfile node test from) where
  -- behind the last present leaf none does, where unused ones don't
  pub none_behind : IsNextPresent m node from None → (k : ℕ) → k < node.size / 32 → test (slot_in m longfile node k) ≡ false
  none_behind absent k low = elim (cases_lt k (from * (m.size / 32))) [
    | inl before ↦ none k before low
    | inr later ↦ ap test (hole_unused m longfile node k r low (absent (k * 32 / m.size) (leaf_least m.size from k sized later))) ∙ fails
  ]

  -- nor before the next present leaf
  pub none_up_to : (leaf : Leaf) → IsNextPresent m node from (Some leaf) → NoneBefore m longfile node test leaf.index
  none_up_to leaf next k early low = elim (cases_lt k (from * (m.size / 32))) [
    | inl before ↦ none k before low
    | inr later ↦ ap test (hole_unused m longfile node k r low (next.1 (k * 32 / m.size) (leaf_least m.size from k sized later) (leaf_most m.size leaf.index k sized early))) ∙ fails
  ]

-- nor in it, where none in it does
pub none_in_leaf : (m : BlockMap) (longfile node : Root) (test : Option Slot → Bool) (index : ℕ) → NoneBefore m longfile node test index
    → ((k : ℕ) → index * (m.size / 32) ≤ k → k < records_end m.size node.size index → test (slot_in m longfile node k) ≡ false) → NoneBefore m longfile node test (index + 1)
none_in_leaf m longfile node test index none found k early low = elim (cases_lt k (index * (m.size / 32))) [
  | inl before ↦ none k before low
  | inr later ↦ found k later (omega (arith, early, low))
]

-- the first in it is the first
first_in_leaf : (m : BlockMap) (longfile node : Root) (name : List ℕ) (index : ℕ) (row : FoundRow) → NoneBefore m longfile node (is_row name) index
    → IsFirstRow (slot_in m longfile node) name (index * (m.size / 32)) (records_end m.size node.size index) (Some row) → IsFirstRow (slot_in m longfile node) name 0 (node.size / 32) (Some row)
first_in_leaf m longfile node name index row none found = (
  omega (arith, found.0),
  found.1,
  λ k least low. elim (cases_lt k (index * (m.size / 32))) [
    | inl before ↦ none k before (omega (arith, low, found.0))
    | inr later ↦ found.2 k later low
  ],
)

-- what is found in the next present leaf is the first row
pub found_in_leaf : (m : BlockMap) (longfile node : Root) (name : List ℕ) (index : ℕ) (found : Option FoundRow) → is_some found ≡ true → NoneBefore m longfile node (is_row name) index
    → IsFirstRow (slot_in m longfile node) name (index * (m.size / 32)) (records_end m.size node.size index) found → IsFirstRow (slot_in m longfile node) name 0 (node.size / 32) found
found_in_leaf m longfile node name index None is none found = absurd (cc)
found_in_leaf m longfile node name index (Some row) is none found = first_in_leaf m longfile node name index row none found

-- where nothing is, none lies before the leaf behind it
pub not_in_leaf : (m : BlockMap) (longfile node : Root) (name : List ℕ) (index : ℕ) (found : Option FoundRow) → is_some found ≡ false → NoneBefore m longfile node (is_row name) index
    → IsFirstRow (slot_in m longfile node) name (index * (m.size / 32)) (records_end m.size node.size index) found → NoneBefore m longfile node (is_row name) (index + 1)
not_in_leaf m longfile node name index None is none found = none_in_leaf m longfile node (is_row name) index none found
not_in_leaf m longfile node name index (Some row) is none found = absurd (cc)

-- ---- one leaf

-- a record of a present leaf is its block's
pub slot_of_present : (order : Order) (m : BlockState) (longfile node : Root) (index block k : ℕ) → IsConsistent m → IsWorking order m node
    → Contains (visits_of (block_map order m) node) (record { level = 0; index = index; block = block }) → k < m.holdings.size / 32
    → slot_in (block_map order m) longfile node (index * (m.holdings.size / 32) + k) ≡ slot_in_block order (long_name (block_map order m) longfile) (m.bytes block) k
slot_of_present order m longfile node index block k s works met low =
    let t : BlockMap = block_map order m in
    let bytes : leaf_bytes t node index ≡ m.bytes block = ap (bytes_at_leaf t) (node_leaf_found t node (record { level = 0; index = index; block = block }) (words_positive m.holdings.size s.size) met refl (works_below m block s (works (record { level = 0; index = index; block = block }) met))) in
    slot_of_leaf t longfile node index k s.size low ∙ ap (λ bs. slot_in_block order (long_name t longfile) bs k) bytes

-- a row of a block as one of the directory
abbrev pub moved : ℕ → Option FoundRow → Option FoundRow
moved first None = None
moved first (Some row) = Some (record row { «record» = first + row.«record» })

-- what is found among the first records of a present leaf's block is found among those of the directory
pub row_of_leaf : (order : Order) (m : BlockState) (longfile node : Root) (index block count : ℕ) (name : List ℕ) (found : Option FoundRow) → IsConsistent m → IsWorking order m node
    → Contains (visits_of (block_map order m) node) (record { level = 0; index = index; block = block }) → 32 * count ≤ m.holdings.size
    → IsFirstRow (slot_in_block order (long_name (block_map order m) longfile) (m.bytes block)) name 0 count found
    → IsFirstRow (slot_in (block_map order m) longfile node) name (index * (m.holdings.size / 32)) (index * (m.holdings.size / 32) + count) (moved (index * (m.holdings.size / 32)) found)
row_of_leaf order m longfile node index block count name found s works met few row = go found row
  where
    t : BlockMap
    t = block_map order m

    many : ℕ
    many = m.holdings.size / 32

    slot : (k : ℕ) → k < count → slot_in t longfile node (index * many + k) ≡ slot_in_block order (long_name t longfile) (m.bytes block) k
    slot k low = slot_of_present order m longfile node index block k s works met (omega (arith, low, few))

    none : (last : ℕ) → last ≤ count → NoneHas (slot_in_block order (long_name t longfile) (m.bytes block)) name 0 last → NoneHas (slot_in t longfile node) name (index * many) (index * many + last)
    none last most h k least low =
        let at : index * many + (k - index * many) ≡ k = omega (arith, least) in
        let small : k - index * many < last = omega (arith, least, low) in
        subst (λ j. is_row name (slot_in t longfile node j) ≡ false) at (ap (is_row name) (slot (k - index * many) (omega (arith, small, most))) ∙ h (k - index * many) (omega arith) small)

    go : (f : Option FoundRow) → IsFirstRow (slot_in_block order (long_name t longfile) (m.bytes block)) name 0 count f → IsFirstRow (slot_in t longfile node) name (index * many) (index * many + count) (moved (index * many) f)
    go None h = none count (omega arith) h
    go (Some x) h = (omega (arith, h.0), slot x.«record» h.0 ∙ h.1, none x.«record» (omega (arith, h.0)) h.2)

-- so it is, where these records are all of the leaf's below the directory's size
pub rows_of_leaf : (order : Order) (m : BlockState) (longfile node : Root) (index block first end count : ℕ) (name : List ℕ) (found : Option FoundRow) → IsConsistent m → IsWorking order m node
    → Contains (visits_of (block_map order m) node) (record { level = 0; index = index; block = block }) → first ≡ index * (m.holdings.size / 32) → end ≡ records_end m.holdings.size node.size index → first ≤ end
    → count ≡ end - first → 32 * count ≤ m.holdings.size → IsFirstRow (slot_in_block order (long_name (block_map order m) longfile) (m.bytes block)) name 0 count found
    → IsFirstRow (slot_in (block_map order m) longfile node) name (index * (m.holdings.size / 32)) (records_end m.holdings.size node.size index) (moved first found)
rows_of_leaf order m longfile node index block first end count name found s works met begins ends some all few row =
    let whole : index * (m.holdings.size / 32) + count ≡ records_end m.holdings.size node.size index = omega (arith, all, some, begins) ∙ ends in
    subst (λ k. IsFirstRow (slot_in (block_map order m) longfile node) name (index * (m.holdings.size / 32)) (records_end m.holdings.size node.size index) (moved k found)) (sym begins)
    (subst (λ k. IsFirstRow (slot_in (block_map order m) longfile node) name (index * (m.holdings.size / 32)) k (moved (index * (m.holdings.size / 32)) found)) whole
    (row_of_leaf order m longfile node index block count name found s works met few row))

-- ---- as seen from the blocks before

-- the next present leaf
pub seen_next : (order : Order) (first mid : BlockState) (node : Root) (from : ℕ) (result found : Option Leaf) → mid ≡ first → result ≡ found → IsNextPresent (block_map order mid) node from result → IsNextPresent (block_map order first) node from found
seen_next order first mid node from result found kept is h =
    subst (λ (x : BlockState). IsNextPresent (block_map order x) node from found) kept (subst (λ f. IsNextPresent (block_map order mid) node from f) is h)

-- the first row of a leaf
pub seen_row : (order : Order) (first mid : BlockState) (longfile node : Root) (name : List ℕ) (index : ℕ) (found : Option FoundRow) → mid ≡ first
    → IsFirstRow (slot_in (block_map order mid) longfile node) name (index * (mid.holdings.size / 32)) (records_end mid.holdings.size node.size index) found
    → IsFirstRow (slot_in (block_map order first) longfile node) name (index * (first.holdings.size / 32)) (records_end first.holdings.size node.size index) found
seen_row order first mid longfile node name index found kept h =
    subst (λ (x : BlockState). IsFirstRow (slot_in (block_map order x) longfile node) name (index * (x.holdings.size / 32)) (records_end x.holdings.size node.size index) found) kept h
