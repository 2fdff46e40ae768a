-- The records of a directory's leaves, gone through leaf by leaf.
use Rattle.std.proofs.Common.{◌≡◌, ℕ, zero, suc, ◌+◌, ◌-◌, ◌*◌, ◌/◌, ◌%◌, ◌<◌, List, [], ◌∷◌, ◌++◌, length, get_or, take, drop, refl, ap, sym, ◌∙◌, subst, arith, append_assoc}
use Rattle.std.specs.Prelude.{Result, Ok, Err, flat_map, slice_range}
use Rattle.std.specs.List.{range_with_len}
use Rattle.std.proofs.lemmas.Grind.{flat_map-append}
use Rattle.std.proofs.lemmas.List.{append-nil, take-append-drop, take_more}
use Rattle.std.proofs.lemmas.List.Folds.{flat_map-map}
use Rattle.qx_fields.specs.declared.order.Order.{Order}
use Rattle.qx_geom.specs.declared.root.Root.{Root}
use Rattle.qx_nodes.specs.BlockMap.{BlockMap}
use Rattle.qx_nodes.specs.Leaves.{Block, leaf_of}
use Rattle.qx_records.specs.NameRecord.{RawRecord, raw_in}
use Rattle.qx_view.specs.Images.{Roots, leaf_records, present_records, raw_of, record_block}
use Rattle.qx_tables.proofs.LeafLists.{numbers_present}
use Rattle.qx_walk.proofs.LeafRecords.{leaf_block, leaf_record}
use Rattle.qx_walk.proofs.RowsInOrder.{walks_halts, walks_more, walks_one}
use Rattle.qx_pointers.specs.declared.halt.Halt.{Halt}
use Rattle.qx_pointers.specs.declared.node.LeafPlace.{LeafPlace}
use Rattle.qx_walk.specs.declared.state.Directory.{Directory}
use Rattle.qx_walk.specs.declared.state.Seen.{Seen}
use Rattle.qx_walk.specs.Kept.{Kept, with_records}
use Rattle.qx_walk.specs.Rows.{WalksRecord, WalksThrough}
use Rattle.qx_tables.specs.Tables.{AreLeaves}

-- ---- the records of a leaf

-- a range in two parts
range_parts : (a n j k : ℕ) → n ≡ j + k → range_with_len a n ≡ range_with_len a j ++ range_with_len (a + j) k
range_parts a n zero k e =
    let size : n ≡ k = omega arith in
    let from : a ≡ a + 0 = omega arith in
    λ i. range_with_len (from i) (size i)
range_parts a zero (suc j) k e = absurd (omega arith)
range_parts a (suc n) (suc j) k e =
    let from : a + 1 + j ≡ a + suc j = omega arith in
    ap (λ z. a ∷ z) (range_parts (a + 1) n j k (omega arith) ∙ ap (λ z. range_with_len (a + 1) j ++ range_with_len z k) from)

-- the records of these leaves
abbrev pub records_of : BlockMap → Directory → List LeafPlace → List ℕ
records_of m d leaves = flat_map (λ (p : LeafPlace). leaf_records m d.node p.index) leaves

module _ (m : BlockMap) (r : Roots) (d : Directory) where
  -- record j of leaf i, by what stands in its block
  pub leaf_one : {T : Type 0} (i b j : ℕ) (order : Order) (bytes : List ℕ) (raw : RawRecord) (kept : Kept) (result : Result T Halt) (seen : Seen)
      → m.size % 32 ≡ 0 → leaf_of m d.node i ≡ Block b → j < m.size / 32 → order ≡ m.order → bytes ≡ m.bytes b
      → raw ≡ raw_in order (slice_range bytes (j * 32) (j * 32 + 32))
      → WalksRecord {T = T} m r (record { inode = d.inode; parent = d.parent; block = b }) raw kept result seen
      → WalksThrough {T = T} m r d ((i * (m.size / 32) + j) ∷ []) kept result seen
  leaf_one {T = T} i b j order bytes raw kept result seen whole at low same stands said w =
      let k : ℕ = i * (m.size / 32) + j in
      let is : raw ≡ raw_of m d.node k = said ∙ (λ z. raw_in (same z) (slice_range (stands z) (j * 32) (j * 32 + 32))) ∙ sym (leaf_record m d.node i b j whole low at) in
      let block : b ≡ record_block m d.node k = sym (leaf_block m d.node i b j whole low at) in
      walks_one m r d k kept result seen
      (subst (λ z. WalksRecord {T = T} m r (record { inode = d.inode; parent = d.parent; block = z }) (raw_of m d.node k) kept result seen) block
      (subst (λ z. WalksRecord {T = T} m r (record { inode = d.inode; parent = d.parent; block = b }) z kept result seen) is w))

  -- one more record of a range
  pub range_more : {T U : Type 0} (a j : ℕ) (kept : Kept) (x : U) (result : Result T Halt) (mid seen : Seen)
      → WalksThrough {T = U} m r d (range_with_len a j) kept (Ok x) mid
      → WalksThrough {T = T} m r d ((a + j) ∷ []) (with_records m r.longfile d.inode d.node (range_with_len a j) kept) result seen
      → WalksThrough {T = T} m r d (range_with_len a (j + 1)) kept result seen
  range_more {T = T} a j kept x result mid seen first more =
      subst (λ ks. WalksThrough {T = T} m r d ks kept result seen) (sym (range_parts a (j + 1) j 1 refl))
      (walks_more m r d (range_with_len a j) ((a + j) ∷ []) kept x result mid seen first more)

  -- a halt at one of its records
  pub range_halts : {T U V : Type 0} (a j n : ℕ) (kept : Kept) (x : U) (halt : Halt) (mid seen : Seen) → j < n
      → WalksThrough {T = U} m r d (range_with_len a j) kept (Ok x) mid
      → WalksThrough {T = V} m r d ((a + j) ∷ []) (with_records m r.longfile d.inode d.node (range_with_len a j) kept) (Err halt) seen
      → WalksThrough {T = T} m r d (range_with_len a n) kept (Err halt) seen
  range_halts {T = T} {V = V} a j n kept x halt mid seen low first more =
      subst (λ ks. WalksThrough {T = T} m r d ks kept (Err halt) seen) (sym (range_parts a n (j + 1) (n - (j + 1)) (omega arith)))
      (walks_halts m r d (range_with_len a (j + 1)) (range_with_len (a + (j + 1)) (n - (j + 1))) kept halt seen seen
      (subst (λ ks. WalksThrough {T = V} m r d ks kept (Err halt) seen) (sym (range_parts a (j + 1) j 1 refl))
      (walks_more m r d (range_with_len a j) ((a + j) ∷ []) kept x (Err halt) mid seen first more)))

  -- ---- leaf after leaf

  -- one more leaf
  pub leaves_more : {T U : Type 0} (leaves : List LeafPlace) (i : ℕ) (p : LeafPlace) (kept : Kept) (x : U) (result : Result T Halt) (mid seen : Seen)
      → take (i + 1) leaves ≡ take i leaves ++ p ∷ []
      → WalksThrough {T = U} m r d (records_of m d (take i leaves)) kept (Ok x) mid
      → WalksThrough {T = T} m r d (leaf_records m d.node p.index) (with_records m r.longfile d.inode d.node (records_of m d (take i leaves)) kept) result seen
      → WalksThrough {T = T} m r d (records_of m d (take (i + 1) leaves)) kept result seen
  leaves_more {T = T} leaves i p kept x result mid seen next first more =
      subst (λ ks. WalksThrough {T = T} m r d ks kept result seen)
      (sym (ap (records_of m d) next ∙ flat_map-append (λ (q : LeafPlace). leaf_records m d.node q.index) (take i leaves) (p ∷ []) ∙ ap (λ z. records_of m d (take i leaves) ++ z) (append-nil (leaf_records m d.node p.index))))
      (walks_more m r d (records_of m d (take i leaves)) (leaf_records m d.node p.index) kept x result mid seen first more)

  -- a halt in one of them
  pub leaves_halt : {T U V : Type 0} (leaves : List LeafPlace) (i : ℕ) (p : LeafPlace) (kept : Kept) (x : U) (halt : Halt) (mid seen : Seen)
      → leaves ≡ take i leaves ++ (p ∷ drop (i + 1) leaves)
      → WalksThrough {T = U} m r d (records_of m d (take i leaves)) kept (Ok x) mid
      → WalksThrough {T = V} m r d (leaf_records m d.node p.index) (with_records m r.longfile d.inode d.node (records_of m d (take i leaves)) kept) (Err halt) seen
      → WalksThrough {T = T} m r d (records_of m d leaves) kept (Err halt) seen
  leaves_halt {T = T} {V = V} leaves i p kept x halt mid seen parts first more =
      subst (λ ks. WalksThrough {T = T} m r d ks kept (Err halt) seen)
      (sym (ap (records_of m d) parts ∙ flat_map-append (λ (q : LeafPlace). leaf_records m d.node q.index) (take i leaves) (p ∷ drop (i + 1) leaves)
      ∙ sym (append_assoc (records_of m d (take i leaves)) (leaf_records m d.node p.index) (records_of m d (drop (i + 1) leaves)))))
      (walks_halts m r d (records_of m d (take i leaves) ++ leaf_records m d.node p.index) (records_of m d (drop (i + 1) leaves)) kept halt seen seen
      (walks_more {T = V} m r d (records_of m d (take i leaves)) (leaf_records m d.node p.index) kept x (Err halt) mid seen first more))

-- a list in three parts: what stands before a leaf, the leaf, and what stands behind it
pub split_at : (xs : List LeafPlace) (i : ℕ) (d : LeafPlace) → i < length xs → xs ≡ take i xs ++ (get_or xs i d ∷ drop (i + 1) xs)
split_at xs i d low =
    sym (take-append-drop (i + 1) xs)
    ∙ ap (λ z. z ++ drop (i + 1) xs) (take_more xs i d low)
    ∙ append_assoc (take i xs) (get_or xs i d ∷ []) (drop (i + 1) xs)

-- the records of all present leaves
pub records_present : (m : BlockMap) (node : Root) (leaves : List LeafPlace) → AreLeaves m node leaves → flat_map (λ (p : LeafPlace). leaf_records m node p.index) leaves ≡ present_records m node
records_present m node leaves a = sym (flat_map-map (leaf_records m node) (λ (p : LeafPlace). p.index) leaves) ∙ ap (flat_map (leaf_records m node)) (numbers_present m node leaves a)
