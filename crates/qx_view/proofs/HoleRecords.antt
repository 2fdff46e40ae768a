-- The records of a directory that lie in no present leaf say nothing.
use Rattle.std.proofs.Common.{◌≡◌, ℕ, zero, suc, ◌+◌, ◌-◌, ◌*◌, ◌/◌, ◌%◌, ◌<◌, ◌≤◌, List, [], ◌∷◌, ◌++◌, refl, ap, sym, ◌∙◌, subst, arith}
use Rattle.std.specs.Prelude.{Bool, true, false, ◌||◌, if◌then◌else◌, IsTrue, Option, None, option_to_list, Contains, filter, filter_map, replicate, slice_range}
use Rattle.std.specs.List.{cons_option, range_with_len}
use Rattle.std.proofs.Math.Nat.{add-mul, div-div-eq-div-mul, mod-lt, mul-div_cancel, one-mul}
use Rattle.std.proofs.lemmas.Bool.{eq-eqb}
use Rattle.std.proofs.lemmas.List.{map-id}
use Rattle.std.proofs.lemmas.Nat.{div-add-mod', div-mul-add, mul-le}
use Rattle.qx_fields.specs.Number.{field}
use Rattle.qx_fields.specs.declared.order.Order.{Order}
use Rattle.qx_geom.proofs.ImagesAndFilters.{Contains-in, in_Contains}
use Rattle.qx_geom.proofs.Members.{Contains-cons, Contains-head}
use Rattle.qx_geom.proofs.PresentLeaves.{filter_ascends}
use Rattle.qx_geom.proofs.Truths.{true_or_false}
use Rattle.qx_geom.specs.Lists.{IsAscending, each_below, is_in}
use Rattle.qx_geom.specs.declared.root.Root.{Root}
use Rattle.qx_geom.proofs.AscendingLists.{ascending_same}
use Rattle.qx_nodes.proofs.AbsentLeaves.{absent_bytes}
use Rattle.qx_nodes.proofs.ContentLocality.{lies_below, reaches_of}
use Rattle.qx_nodes.proofs.MetLeaves.{present_ascends}
use Rattle.qx_nodes.proofs.ZeroBytes.{field_zeros, slice_zeros, zeros}
use Rattle.qx_nodes.specs.BlockMap.{BlockMap}
use Rattle.qx_nodes.specs.Content.{HasSize, levels_fit}
use Rattle.qx_nodes.specs.Visits.{present_of}
use Rattle.qx_records.specs.NameRecord.{RawRecord, Unused, raw_in}
use Rattle.qx_view.specs.Sound.{are_zero}
use Rattle.qx_view.proofs.AlikeLists.{below_members, filter_members, flat_map_members, members_filter, members_flat_map}
use Rattle.qx_view.proofs.AscendingRanges.{flat_ascends, in_range, range_ascends, range_has}
use Rattle.qx_view.proofs.TreeLocality.{record_below}
use Rattle.qx_view.specs.Images.{IsInHole, Roots, leaf_records, present_records, raw_of, record_block}
use Rattle.qx_view.specs.Reading.{slot_of}
use Rattle.qx_view.specs.Walk.{Test, named_inode, record_tests, records_tests, slot_name}

-- ---- zeros

-- bytes 0 are 0
pub are_zero-replicate : (n : ℕ) → are_zero (replicate n 0) ≡ true
are_zero-replicate zero = refl
are_zero-replicate (suc n) = are_zero-replicate n

-- a record of zeros is unused
pub raw_zeros : (order : Order) (c : ℕ) → raw_in order (zeros c) ≡ Unused
unfolding raw_in
raw_zeros order c = either _ _ _ (eq-eqb (field order 4 (zeros c) 0) 0 (field_zeros order c 0))
  where
    either : (a b : Bool) (x : RawRecord) → a ≡ true → (if a || b then Unused else x) ≡ Unused
    either true b x e = refl
    either false b x e = absurd (cc)

-- a record in a hole is unused
pub hole_unused : (m : BlockMap) (node : Root) (k : ℕ) → HasSize m → IsTrue (levels_fit m node) → IsInHole m node k → raw_of m node k ≡ Unused
hole_unused m node k size fit hole =
    let z = slice_zeros m.size (k * 32 % m.size) (k * 32 % m.size + 32) in
    ap (λ bs. raw_in m.order (slice_range bs (k * 32 % m.size) (k * 32 % m.size + 32)))
    (absent_bytes m node (k * 32 / m.size) (lies_below m node (k * 32) (reaches_of m node size fit) (record_below k node.size hole.below)) hole.absent)
    ∙ ap (raw_in m.order) z.1 ∙ raw_zeros m.order z.0

-- ---- the records of present leaves

-- the leaf of a record, where a block has whole records
record_leaf : (k size : ℕ) → size % 32 ≡ 0 → k * 32 / size ≡ k / (size / 32)
record_leaf k size whole =
    let parts : size ≡ 32 * (size / 32) = omega (arith, div-add-mod' size 32) in
    ap (λ z. k * 32 / z) parts ∙ sym (div-div-eq-div-mul (k * 32) 32 (size / 32)) ∙ ap (λ z. z / (size / 32)) (mul-div_cancel k (omega arith))

-- a record that lies in a leaf's range lies in the leaf
leaf_index : (i k P : ℕ) → i * P ≤ k → k < i * P + P → k / P ≡ i
leaf_index i k P low high = ap (λ z. z / P) (let split : k ≡ i * P + (k - i * P) = omega arith in split) ∙ div-mul-add i P (k - i * P) (omega arith)

-- the tests of record k and of those after it, by what its bytes say
abbrev tests_from : BlockMap → Roots → ℕ → ℕ → Root → ℕ → List (List ℕ) → List ℕ → List ℕ → RawRecord → List Test
tests_from m r d p node k names listed ks raw =
    record_tests m r (record { inode = d; parent = p; block = record_block m node k }) names listed raw
    ++ records_tests m r d p node (slot_name (slot_of m r.longfile raw) ++ names) (option_to_list (named_inode m r.longfile raw) ++ listed) ks

module _ (m : BlockMap) (node : Root) (size : HasSize m) (whole : m.size % 32 ≡ 0) where
  -- a record lies in a present leaf
  abbrev is_present : ℕ → Bool
  is_present k = is_in (present_of m node) (k * 32 / m.size)

  -- blocks have room for a record
  some : 0 < m.size / 32
  some = omega (arith, size.size, div-add-mod' m.size 32)

  -- the records of present leaves ascend
  present_ascend : IsAscending (present_records m node)
  present_ascend = flat_ascends (leaf_records m node) (present_of m node) (present_ascends m node size.words) (λ i. range_ascends _ _) (λ i j x y lt c d.
      let low : (i * (m.size / 32) ≤ x) × (x < i * (m.size / 32) + _) = in_range _ _ x c in
      let high : (j * (m.size / 32) ≤ y) × (y < j * (m.size / 32) + _) = in_range _ _ y d in
      let step : (i + 1) * (m.size / 32) ≤ j * (m.size / 32) = mul-le (i + 1) (m.size / 32) j (m.size / 32) (omega arith) (omega arith) in
      omega (arith, add-mul i 1 (m.size / 32), one-mul (m.size / 32)))

  -- they are the records that lie in present leaves
  present_are : filter is_present (each_below (node.size / 32) (λ k. k)) ≡ present_records m node
  present_are =
      ap (filter is_present) (map-id (range_with_len 0 (node.size / 32)))
      ∙ ascending_same (filter is_present (range_with_len 0 (node.size / 32))) (present_records m node)
      (filter_ascends is_present (range_with_len 0 (node.size / 32)) (range_ascends 0 (node.size / 32))) present_ascend
      (λ k c.
      let among = filter_members is_present (range_with_len 0 (node.size / 32)) k c in
      let below : (0 ≤ k) × (k < 0 + node.size / 32) = in_range 0 (node.size / 32) k among.0 in
      let leaf : k * 32 / m.size ≡ k / (m.size / 32) = record_leaf k m.size whole in
      let split : k / (m.size / 32) * (m.size / 32) + k % (m.size / 32) ≡ k = div-add-mod' k (m.size / 32) in
      let room : k % (m.size / 32) < m.size / 32 = mod-lt k some in
      members_flat_map (leaf_records m node) (present_of m node) (k / (m.size / 32)) k
      (subst (λ z. Contains (present_of m node) z) leaf (Contains-in (present_of m node) (k * 32 / m.size) among.1))
      (range_has _ _ k (omega arith) (omega arith)))
      (λ k c.
      let at = flat_map_members (leaf_records m node) (present_of m node) k c in
      let in_leaf = in_range _ _ k at.2 in
      let leaf : k * 32 / m.size ≡ at.0 = record_leaf k m.size whole ∙ leaf_index at.0 k (m.size / 32) in_leaf.0 (omega (arith, in_leaf)) in
      members_filter is_present (range_with_len 0 (node.size / 32)) k (range_has 0 (node.size / 32) k (omega arith) (omega (arith, in_leaf)))
      (subst (λ z. is_in (present_of m node) z ≡ true) (sym leaf) (in_Contains (present_of m node) at.0 at.1)))

  module _ (fit : IsTrue (levels_fit m node)) where
    -- a record in no present leaf is unused
    unused : (k : ℕ) → Contains (each_below (node.size / 32) (λ k. k)) k → is_present k ≡ false → raw_of m node k ≡ Unused
    unused k c e = hole_unused m node k size fit (record {
      below = below_members (node.size / 32) k c;
      absent = λ d. true_or_false (is_present k) (in_Contains (present_of m node) (k * 32 / m.size) d) e;
    })

    -- what records give, where an unused one gives nothing
    pub given_by_present : {A : Type 0} (f : RawRecord → Option A) → f Unused ≡ None → filter_map (λ k. f (raw_of m node k)) (each_below (node.size / 32) (λ k. k)) ≡ filter_map (λ k. f (raw_of m node k)) (present_records m node)
    given_by_present {A = A} f none = skip (each_below (node.size / 32) (λ k. k)) unused ∙ ap (filter_map (λ k. f (raw_of m node k))) present_are
      where
        skip : (ks : List ℕ) → ((k : ℕ) → Contains ks k → is_present k ≡ false → raw_of m node k ≡ Unused) → filter_map (λ k. f (raw_of m node k)) ks ≡ filter_map (λ k. f (raw_of m node k)) (filter is_present ks)
        skip [] nothing = refl
        skip (k ∷ ks) nothing = go (is_present k) refl (skip ks (λ j c. nothing j (Contains-cons k j ks c)))
          where
            go : (b : Bool) → is_present k ≡ b → filter_map (λ k. f (raw_of m node k)) ks ≡ filter_map (λ k. f (raw_of m node k)) (filter is_present ks)
                → cons_option (f (raw_of m node k)) (filter_map (λ k. f (raw_of m node k)) ks) ≡ filter_map (λ k. f (raw_of m node k)) (if b then k ∷ filter is_present ks else filter is_present ks)
            go true e more = ap (λ z. cons_option (f (raw_of m node k)) z) more
            go false e more = ap (λ o. cons_option o (filter_map (λ k. f (raw_of m node k)) ks)) (ap f (nothing k (Contains-head k ks) e) ∙ none) ∙ more

    -- the tests of records
    pub tests_by_present : (r : Roots) (d p : ℕ) (names : List (List ℕ)) (listed : List ℕ) → records_tests m r d p node names listed (each_below (node.size / 32) (λ k. k)) ≡ records_tests m r d p node names listed (present_records m node)
    tests_by_present r d p names listed = skip (each_below (node.size / 32) (λ k. k)) names listed unused ∙ ap (records_tests m r d p node names listed) present_are
      where
        skip : (ks : List ℕ) (names : List (List ℕ)) (listed : List ℕ) → ((k : ℕ) → Contains ks k → is_present k ≡ false → raw_of m node k ≡ Unused) → records_tests m r d p node names listed ks ≡ records_tests m r d p node names listed (filter is_present ks)
        skip [] names listed nothing = refl
        skip (k ∷ ks) names listed nothing = go (is_present k) refl (λ ns ls. skip ks ns ls (λ j c. nothing j (Contains-cons k j ks c)))
          where
            go : (b : Bool) → is_present k ≡ b → ((ns : List (List ℕ)) (ls : List ℕ) → records_tests m r d p node ns ls ks ≡ records_tests m r d p node ns ls (filter is_present ks))
                → tests_from m r d p node k names listed ks (raw_of m node k) ≡ records_tests m r d p node names listed (if b then k ∷ filter is_present ks else filter is_present ks)
            go true e more = ap (λ z. record_tests m r (record { inode = d; parent = p; block = record_block m node k }) names listed (raw_of m node k) ++ z) (more _ _)
            go false e more = ap (tests_from m r d p node k names listed ks) (nothing k (Contains-head k ks) e) ∙ more names listed
