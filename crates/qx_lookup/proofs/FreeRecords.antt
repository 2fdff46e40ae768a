-- The first unused record: in a block, in a leaf, in a hole, and in the slots of a directory.
use Rattle.std.proofs.Common.{◌≡◌, ℕ, zero, suc, ◌+◌, ◌-◌, ◌*◌, ◌/◌, ◌<◌, ◌≤◌, inl, inr, List, [], length, refl, sym, ◌∙◌, ap, subst, arith}
use Rattle.std.specs.Prelude.{Bool, true, false, not, Contains, Option, Some, None, find, is_some, map, take, IfSome, option_map, position, slice_get, if◌then◌else◌}
use Rattle.std.specs.List.{range_with_len}
use Rattle.std.proofs.lemmas.Bool.{cases_eq, cases_lt}
use Rattle.std.proofs.lemmas.Option.{slice_get_within}
use Rattle.qx_fields.specs.declared.order.Order.{Order}
use Rattle.qx_geom.specs.declared.root.Root.{Root}
use Rattle.qx_geom.specs.Lists.{each_below, is_in}
use Rattle.qx_nodes.specs.BlockMap.{BlockMap}
use Rattle.qx_nodes.specs.Content.{Reaches}
use Rattle.qx_nodes.specs.LongNames.{long_name}
use Rattle.qx_nodes.specs.Visits.{present_of, visits_of}
use Rattle.qx_records.specs.NameRecord.{RawRecord, Short, Long, Bad}
use Rattle.qx_records.specs.NameRecord as records
use Rattle.qx_records.specs.NameSum.{sum_fits}
use Rattle.qx_records.specs.Slots.{is_in_use, is_used, record_at, records_from}
use Rattle.qx_dir.specs.Rows.{first_unused_in}
use Rattle.qx_model.specs.Directories.{is_unused}
use Rattle.qx_model.specs.Tree.{Row, Slot, Tree, slots_of}
use Rattle.qx_view.specs.Entries.{long_slot, slot_by}
use Rattle.qx_blocks.specs.BlockState.{BlockState, IsBlockSize, IsConsistent}
use Rattle.qx_ptree.specs.Trees.{IsWorking, block_map}
use Rattle.qx_copies.proofs.ShownNames.{listed_count, listed_slot}
use Rattle.qx_lookup.specs.Rows.{records_end, slot_in}
use Rattle.qx_lookup.specs.UnusedRecords.{IsFirstOf, says_unused}
use Rattle.qx_lookup.proofs.DirectoryRecords.{NoneBefore, hole_unused, none_in_leaf, slot_of_present}
use Rattle.qx_lookup.proofs.LeafRecords.{first_of_leaf}
use Rattle.qx_lookup.proofs.NamedRows.{position_is, position_none}
use Rattle.qx_lookup.proofs.PartRecords.{same_record, records_to}

-- ---- one block

-- a record says that it is unused exactly where it is
unused_said : (names : ℕ → Option (List ℕ)) (raw : RawRecord) → says_unused (slot_by names raw) ≡ not (is_used raw)
unused_said names records.Unused = refl
unused_said names (Short inode name) = refl
unused_said names (Bad count) = refl
unused_said names (Long inode number sum) = by_name (names number)
  where
    by_sum : (b : Bool) (name : List ℕ) → says_unused (if b then Some (Row inode name (Some number)) else None) ≡ false
    by_sum true name = refl
    by_sum false name = refl

    by_name : (o : Option (List ℕ)) → says_unused (long_slot inode number sum o) ≡ false
    by_name None = refl
    by_name (Some name) = by_sum (sum_fits sum name) name

module _ (order : Order) (part : List ℕ) where
  -- a record of some bytes is unused
  abbrev pub free_at : ℕ → Bool
  free_at k = not (is_used (record_at order part k).raw)

  -- one more before them
  one_more : (a to : ℕ) (o : Option ℕ) → free_at a ≡ false → IsFirstOf free_at (a + 1) to o → IsFirstOf free_at a to o
  one_more a to None out h = λ k low high. elim (cases_eq k a) [
    | inl is ↦ subst (λ j. free_at j ≡ false) (sym is) out
    | inr differ ↦ h k (omega (arith, low, differ)) high
  ]
  one_more a to (Some n) out h = (
    omega (arith, h.0),
    h.1,
    h.2,
    λ k low high. elim (cases_eq k a) [
      | inl is ↦ subst (λ j. free_at j ≡ false) (sym is) out
      | inr differ ↦ h.3 k (omega (arith, low, differ)) high
    ],
  )

  -- what a search finds is the first
  search_first : (a n : ℕ) → IsFirstOf free_at a (a + n) (option_map (λ item. item.place) (find (λ item. not (is_in_use item)) (map (record_at order part) (range_with_len a n))))
  search_first a zero = λ k low high. absurd (omega (arith, low, high))
  search_first a (suc n) = by (free_at a) refl (search_first (a + 1) n)
    where
      by : (t : Bool) → free_at a ≡ t → IsFirstOf free_at (a + 1) (a + 1 + n) (option_map (λ item. item.place) (find (λ item. not (is_in_use item)) (map (record_at order part) (range_with_len (a + 1) n))))
          → IsFirstOf free_at a (a + suc n) (option_map (λ item. item.place) (if t then Some (record_at order part a) else find (λ item. not (is_in_use item)) (map (record_at order part) (range_with_len (a + 1) n))))
      by true is rest = (omega arith, omega arith, is, λ k low high. absurd (omega (arith, low, high)))
      by false is rest =
          let ends : a + 1 + n ≡ a + suc n = omega arith in
          one_more a (a + suc n) (option_map (λ item. item.place) (find (λ item. not (is_in_use item)) (map (record_at order part) (range_with_len (a + 1) n)))) is
          (subst (λ e. IsFirstOf free_at (a + 1) e (option_map (λ item. item.place) (find (λ item. not (is_in_use item)) (map (record_at order part) (range_with_len (a + 1) n))))) ends rest)

-- so is the first unused one of a block
unused_first : (order : Order) (part : List ℕ) → IsFirstOf (free_at order part) 0 (length part / 32) (first_unused_in order part)
unfolding records_from
unused_first order part =
    let all : 0 + (length part / 32 - 0) ≡ length part / 32 = omega arith in
    subst (λ e. IsFirstOf (free_at order part) 0 e (first_unused_in order part)) all (search_first order part 0 (length part / 32 - 0))

-- where two tests say the same, the first is the same
same_first : (f g : ℕ → Bool) (from to : ℕ) (o : Option ℕ) → ((k : ℕ) → k < to → g k ≡ f k) → IsFirstOf f from to o → IsFirstOf g from to o
same_first f g from to None same h = λ k least low. same k low ∙ h k least low
same_first f g from to (Some n) same h = (h.0, h.1, same n h.1 ∙ h.2, λ k least low. same k (omega (arith, low, h.1)) ∙ h.3 k least low)

-- among the first records of a block it is the block's
pub unused_of_part : (order : Order) (bytes part : List ℕ) (to : ℕ) (found : Option ℕ) → part ≡ take (32 * to) bytes → 32 * to ≤ length bytes → found ≡ first_unused_in order part → IsFirstOf (free_at order bytes) 0 to found
unused_of_part order bytes part to found is long is_found =
    same_first (free_at order part) (free_at order bytes) 0 to found (λ k low. ap (λ raw. not (is_used raw)) (sym (same_record order bytes part [] to is long k low)))
    (subst (λ n. IsFirstOf (free_at order part) 0 n found) (records_to order bytes part [] to is long) (subst (λ o. IsFirstOf (free_at order part) 0 (length part / 32) o) (sym is_found) (unused_first order part)))

-- and lies among them
pub unused_within : (order : Order) (bytes part : List ℕ) (to : ℕ) (found : Option ℕ) → part ≡ take (32 * to) bytes → 32 * to ≤ length bytes → found ≡ first_unused_in order part → IfSome found (λ place. place < to)
unused_within order bytes part to found is long is_found = go found (unused_of_part order bytes part to found is long is_found)
  where
    go : (o : Option ℕ) → IsFirstOf (free_at order bytes) 0 to o → IfSome o (λ place. place < to)
    go None h = tt
    go (Some place) h = h.1

-- ---- one leaf

-- a record of a block as one of the directory
abbrev pub placed : ℕ → Option ℕ → Option ℕ
placed first None = None
placed first (Some place) = Some (first + place)

-- the first of a present leaf's block is the leaf's, where these are all of its records below the directory's size
pub unused_of_leaf : (order : Order) (m : BlockState) (longfile node : Root) (index block first end count : ℕ) (found : Option ℕ) → IsConsistent m → IsWorking order m node
    → Contains (visits_of (block_map order m) node) (record { level = 0; index = index; block = block }) → first ≡ index * (m.holdings.size / 32) → end ≡ records_end m.holdings.size node.size index → first ≤ end
    → count ≡ end - first → 32 * count ≤ m.holdings.size → IsFirstOf (free_at order (m.bytes block)) 0 count found
    → IsFirstOf (λ k. says_unused (slot_in (block_map order m) longfile node k)) (index * (m.holdings.size / 32)) (records_end m.holdings.size node.size index) (placed first found)
unused_of_leaf order m longfile node index block first end count found s works met begins ends some all few h = go found h
  where
    t : BlockMap
    t = block_map order m

    many : ℕ
    many = m.holdings.size / 32

    whole : index * many + count ≡ records_end m.holdings.size node.size index
    whole = omega (arith, all, some, begins) ∙ ends

    says : (k : ℕ) → k < count → says_unused (slot_in t longfile node (index * many + k)) ≡ free_at order (m.bytes block) k
    says k low = ap says_unused (slot_of_present order m longfile node index block k s works met (omega (arith, low, few))) ∙ unused_said (long_name t longfile) (record_at order (m.bytes block) k).raw

    none : (last : ℕ) → last ≤ count → ((k : ℕ) → 0 ≤ k → k < last → free_at order (m.bytes block) k ≡ false) → (k : ℕ) → index * many ≤ k → k < index * many + last → says_unused (slot_in t longfile node k) ≡ false
    none last most h k least low =
        let at : index * many + (k - index * many) ≡ k = omega (arith, least) in
        let small : k - index * many < last = omega (arith, least, low) in
        subst (λ j. says_unused (slot_in t longfile node j) ≡ false) at (says (k - index * many) (omega (arith, small, most)) ∙ h (k - index * many) (omega arith) small)

    go : (o : Option ℕ) → IsFirstOf (free_at order (m.bytes block)) 0 count o → IsFirstOf (λ k. says_unused (slot_in t longfile node k)) (index * many) (records_end m.holdings.size node.size index) (placed first o)
    go None h = λ k least low. none count (omega arith) h k least (omega (arith, low, whole))
    go (Some place) h =
        let at : index * many + place ≡ first + place = omega (arith, begins) in (
          omega (arith, begins),
          omega (arith, begins, whole, h.1),
          subst (λ j. says_unused (slot_in t longfile node j) ≡ true) at (says place h.1 ∙ h.2),
          λ k least low. none place (omega (arith, h.1)) h.3 k least (omega (arith, low, begins)),
        )

-- ---- leaf after leaf

-- below a product is below a larger one
below_same : (a b c k : ℕ) → a ≤ b → k < a * c → k < b * c
below_same a b c k less low = grind (arith, less, low)

module _ (m : BlockMap) (longfile node : Root) where
  -- a record says that it is unused
  abbrev pub unused_at : ℕ → Bool
  unused_at k = says_unused (slot_in m longfile node k)

  -- where the next present leaf comes at once, none lies before it
  pub no_hole : (from index : ℕ) → index ≤ from → NoneBefore m longfile node says_unused from → NoneBefore m longfile node says_unused index
  no_hole from index no_gap none k early low = none k (below_same index from (m.size / 32) k no_gap early) low

  -- what is found in a leaf is the directory's
  pub found_unused : (index : ℕ) (found : Option ℕ) → is_some found ≡ true → NoneBefore m longfile node says_unused index → IsFirstOf unused_at (index * (m.size / 32)) (records_end m.size node.size index) found
      → IsFirstOf unused_at 0 (node.size / 32) found
  found_unused index None is none h = absurd (cc)
  found_unused index (Some place) is none h = (
    omega arith,
    omega (arith, h.1),
    h.2,
    λ k least low. elim (cases_lt k (index * (m.size / 32))) [
      | inl before ↦ none k before (omega (arith, low, h.1))
      | inr later ↦ h.3 k later low
    ],
  )

  -- where nothing is, none lies before the leaf behind it
  pub no_unused : (index : ℕ) (found : Option ℕ) → is_some found ≡ false → NoneBefore m longfile node says_unused index → IsFirstOf unused_at (index * (m.size / 32)) (records_end m.size node.size index) found → NoneBefore m longfile node says_unused (index + 1)
  no_unused index None is none h = none_in_leaf m longfile node says_unused index none h
  no_unused index (Some place) is none h = absurd (cc)

  -- the first record of a hole is unused, and the first, where none before it is
  pub hole_first : (from : ℕ) → IsBlockSize m.size → Reaches m node → NoneBefore m longfile node says_unused from → is_in (present_of m node) from ≡ false → from * (m.size / 32) < node.size / 32 → IsFirstOf unused_at 0 (node.size / 32) (Some (from * (m.size / 32)))
  hole_first from sized r none absent low = (
    omega arith,
    low,
    ap says_unused (hole_unused m longfile node (from * (m.size / 32)) r low (ap (is_in (present_of m node)) (first_of_leaf m.size from sized) ∙ absent)),
    λ k least early. none k early (omega (arith, early, low)),
  )

  -- where the leaves before one have all records below the size, none is
  pub none_unused : (from : ℕ) → NoneBefore m longfile node says_unused from → node.size / 32 ≤ from * (m.size / 32) → IsFirstOf unused_at 0 (node.size / 32) None
  none_unused from none past k least low = none k (omega (arith, low, past)) low

-- as seen from the blocks before
pub seen_unused : (order : Order) (first mid : BlockState) (longfile node : Root) (index : ℕ) (found : Option ℕ) → mid ≡ first
    → IsFirstOf (λ k. says_unused (slot_in (block_map order mid) longfile node k)) (index * (mid.holdings.size / 32)) (records_end mid.holdings.size node.size index) found
    → IsFirstOf (λ k. says_unused (slot_in (block_map order first) longfile node k)) (index * (first.holdings.size / 32)) (records_end first.holdings.size node.size index) found
seen_unused order first mid longfile node index found kept h =
    subst (λ (x : BlockState). IsFirstOf (λ k. says_unused (slot_in (block_map order x) longfile node k)) (index * (x.holdings.size / 32)) (records_end x.holdings.size node.size index) found) kept h

-- ---- the slots of a directory

module _ (f : ℕ → Option Slot) (n : ℕ) (t : Tree) (d : ℕ) (listed : each_below n f ≡ map (λ s. Some s) (slots_of t d)) where
  -- a slot at a place is unused as its record says
  slot_says : (j : ℕ) (y : Slot) → slice_get (slots_of t d) j ≡ Some y → says_unused (f j) ≡ is_unused y
  slot_says j y at =
      let low : j < length (slots_of t d) = slice_get_within (slots_of t d) j y at in
      let less : j < n = omega (arith, low, listed_count n f (slots_of t d) listed) in
      ap says_unused (listed_slot n f (slots_of t d) listed j less ∙ at)

  -- what the records say of the first unused one, the tree says
  pub unused_listed : (found : Option ℕ) → IsFirstOf (λ k. says_unused (f k)) 0 n found → found ≡ position is_unused (slots_of t d)
  unused_listed None h = sym (position_none is_unused (slots_of t d) (λ j y at.
      let low : j < length (slots_of t d) = slice_get_within (slots_of t d) j y at in
      sym (slot_says j y at) ∙ h j (omega arith) (omega (arith, low, listed_count n f (slots_of t d) listed))))
  unused_listed (Some k) h = by (slice_get (slots_of t d) k) refl
    where
      by : (o : Option Slot) → slice_get (slots_of t d) k ≡ o → Some k ≡ position is_unused (slots_of t d)
      by None e = let no_slot : says_unused None ≡ true = sym (ap says_unused (listed_slot n f (slots_of t d) listed k h.1 ∙ e)) ∙ h.2 in absurd (cc)
      by (Some y) e = sym (position_is is_unused (slots_of t d) k y e (sym (slot_says k y e) ∙ h.2) (λ j z low at. sym (slot_says j z at) ∙ h.3 j (omega arith) low))

-- what has no slots has none
pub unused_without : (t : Tree) (d : ℕ) → slots_of t d ≡ [] → None ≡ position is_unused (slots_of t d)
unused_without t d none = sym (ap (position is_unused) none)
