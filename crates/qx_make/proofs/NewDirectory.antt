-- The root directory of a new volume: its one leaf and its records.
use Rattle.std.proofs.Common.{◌≡◌, ℕ, inl, inr, ◌⊎◌, zero, suc, ◌+◌, ◌-◌, ◌*◌, ◌/◌, ◌%◌, ◌≤◌, ◌<◌, List, [], ◌∷◌, false, refl, ap, sym, ◌∙◌, arith, lit<, lit≤, take, drop, Option, Some, None}
use Rattle.std.specs.Prelude.{Contains, replicate, slice_range, slice_index_or, ◌==◌, ◌||◌, if◌then◌else◌, map, filter_map, nat_le, nat_lt}
use Rattle.std.specs.List.{cons_option, range_with_len}
use Rattle.std.proofs.Math.Nat.{div-eq_of_lt, div-eq_of_lt-le, mod-eq_of_lt}
use Rattle.std.proofs.lemmas.Bool.{cases_eq, cond-true, cond-false, lt-ltb, ne_eqb, or_from}
use Rattle.std.proofs.lemmas.List.{take-replicate}
use Rattle.qx_bytes.proofs.Pieces.{joined, joined-append, length-joined, range_of_piece}
use Rattle.qx_fields.specs.declared.order.Order.{Order}
use Rattle.qx_geom.specs.declared.geometry.Geometry.{Geometry}
use Rattle.qx_geom.specs.declared.root.Root.{Root}
use Rattle.qx_geom.specs.Lists.{each_below}
use Rattle.qx_geom.specs.Pointer.{absent, ceil_div, per_block}
use Rattle.qx_geom.proofs.BlockSizes.{BlockSizeBounds, block_size-bounds}
use Rattle.qx_geom.proofs.Members.{Contains-cons, Contains-head}
use Rattle.qx_geom.proofs.VolumeNumbers.{IsGeometry-keeps}
use Rattle.qx_nodes.specs.BlockMap.{BlockMap}
use Rattle.qx_nodes.specs.Content.{bytes_at_leaf, leaf_bytes}
use Rattle.qx_nodes.specs.Leaves.{Block, Damage, Hole, followed, leaf_of}
use Rattle.qx_nodes.specs.Visits.{visits_of}
use Rattle.qx_nodes.proofs.LeafPaths.{by_one}
use Rattle.qx_records.specs.NameRecord.{Short, raw_in}
use Rattle.qx_records.specs.NameRecord as records
use Rattle.qx_records.proofs.WrittenRecords.{raw_in-short_bytes, raw_in-zeros}
use Rattle.qx_model.specs.Tree.{Unused, Row, Slot}
use Rattle.qx_view.specs.Images.{raw_of}
use Rattle.qx_view.specs.Reading.{slot_of, slots_read}
use Rattle.qx_make.specs.Blocks.{one_leaf, top_block, top_directory_bytes}
use Rattle.qx_make.specs.NewVolume.{empty_root}
use Rattle.qx_make.proofs.NewBlocks.{NewBlocks, blocks, top_bytes}
use Rattle.qx_make.proofs.NewInodes.{drop_zeros}
use Rattle.qx_make.proofs.TopDirectory.{row_pieces}

-- ---- one leaf

-- a block fills one block
pub ceil_one : (b : ℕ) → 0 < b → ceil_div b b ≡ 1
ceil_one b pos = div-eq_of_lt-le {k = 1} b {m = b + b - 1} (omega arith) (omega arith)

-- a node of one leaf meets the leaf
pub one_visit : (m : BlockMap) (size block : ℕ) → (block == absent) ≡ false → ceil_div size m.size ≡ 1 → visits_of m (one_leaf size block) ≡ record { level = 0; index = 0; block = block } ∷ []
one_visit m size block there one =
    let test : ((block == absent) || nat_le (ceil_div size m.size) 0) ≡ false = or_from _ _ there (ap (λ k. nat_le k 0) one) in
    rw test refl

-- ---- records

-- the first record is `.`
first_record : (order : Order) (blocksize : ℕ) → raw_in order (slice_range (top_directory_bytes order blocksize) 0 32) ≡ Short 1 (46 ∷ [])
unfolding top_directory_bytes
first_record order blocksize =
    ap (λ (l : List ℕ). raw_in order l) (range_of_piece 0 (row_pieces order) (replicate (blocksize - 64) 0) (lit< tt)) ∙ raw_in-short_bytes order 1 (46 ∷ []) (lit< tt) (lit< tt) (lit< tt) (lit≤ tt)

-- the second is `..`
second_record : (order : Order) (blocksize : ℕ) → raw_in order (slice_range (top_directory_bytes order blocksize) 32 64) ≡ Short 1 (46 ∷ 46 ∷ [])
unfolding top_directory_bytes
second_record order blocksize =
    ap (λ (l : List ℕ). raw_in order l) (range_of_piece 1 (row_pieces order) (replicate (blocksize - 64) 0) (lit< tt)) ∙ raw_in-short_bytes order 1 (46 ∷ 46 ∷ []) (lit< tt) (lit< tt) (lit< tt) (lit≤ tt)

-- they fill 64 bytes, and zeros follow
behind_rows : (order : Order) (blocksize o : ℕ) → 64 ≤ o → drop o (top_directory_bytes order blocksize) ≡ replicate (blocksize - 64 - (o - 64)) 0
unfolding top_directory_bytes
behind_rows order blocksize o behind =
    let rows : List ℕ = joined (row_pieces order) [] in
    ap (λ (l : List ℕ). drop o l) (sym (joined-append (row_pieces order) (replicate (blocksize - 64) 0))) ∙ drop_zeros rows 64 o (blocksize - 64) (length-joined (row_pieces order) []) behind

-- so many unused records
free_slots : (f : ℕ → Option Slot) (a n : ℕ) → ((k : ℕ) → a ≤ k → k < a + n → f k ≡ Some Unused) → map f (range_with_len a n) ≡ map (λ s. Some s) (replicate n Unused)
free_slots f a zero each = refl
free_slots f a (suc n) each = λ i. each a (omega arith) (omega arith) i ∷ free_slots f (a + 1) n (λ k low high. each k (omega arith) (omega arith)) i

-- what gives nothing for any member gives nothing
pub none_named : {X : Type 0} (f : X → Option ℕ) (xs : List X) → ((x : X) → Contains xs x → f x ≡ None) → filter_map f xs ≡ []
none_named f [] each = refl
none_named f (x ∷ xs) each = ap (λ o. cons_option o (filter_map f xs)) (each x (Contains-head x xs)) ∙ none_named f xs (λ y c. each y (Contains-cons x y xs c))

module _ (v : NewBlocks) where
  -- the volume's numbers
  abbrev g : Geometry
  g = v.geometry

  -- its blocks
  abbrev m : BlockMap
  m = blocks v

  -- the directory's node
  abbrev pub top_node : Root
  top_node = one_leaf g.blocksize (top_block g)

  -- the bounds of its block size
  bounds : BlockSizeBounds g.blocksize
  bounds = block_size-bounds g.blocksize (IsGeometry-keeps g v.whole).block_size

  -- its block is one of the volume
  pub top_low : top_block g < g.num_blocks
  top_low = let n = IsGeometry-keeps g v.whole in omega arith

  -- and its pointer isn't absent
  pub top_there : (top_block g == absent) ≡ false
  top_there = let n = IsGeometry-keeps g v.whole in let low = top_low in ne_eqb (top_block g) absent (λ e. omega arith)

  -- the node's one leaf
  pub top_leaf : leaf_of m top_node 0 ≡ Block (top_block g)
  top_leaf =
      ap (λ k. followed m (slice_index_or top_node.pointers k absent) (λ b. Block b)) (by_one 0 (per_block g.blocksize))
      ∙ cond-false (top_block g == absent) Hole (if nat_lt (top_block g) g.num_blocks then Block (top_block g) else Damage) top_there
      ∙ cond-true (nat_lt (top_block g) g.num_blocks) (Block (top_block g)) Damage (lt-ltb (top_block g) g.num_blocks top_low)

  -- all that the node meets
  pub top_visits : visits_of m top_node ≡ record { level = 0; index = 0; block = top_block g } ∷ []
  top_visits = let b = bounds in one_visit m g.blocksize (top_block g) top_there (let one : ceil_div g.blocksize g.blocksize ≡ 1 = ceil_one g.blocksize (omega arith) in one)

  -- a record is 32 bytes of the leaf
  raw_is : (k : ℕ) → k * 32 < g.blocksize → raw_of m top_node k ≡ raw_in v.order (slice_range (top_directory_bytes v.order g.blocksize) (k * 32) (k * 32 + 32))
  raw_is k low =
      ap (λ i. raw_in v.order (slice_range (leaf_bytes m top_node i) (k * 32 % g.blocksize) (k * 32 % g.blocksize + 32))) (div-eq_of_lt low)
      ∙ ap (λ o. raw_in v.order (slice_range (leaf_bytes m top_node 0) o (o + 32))) (mod-eq_of_lt low)
      ∙ ap (λ x. raw_in v.order (slice_range (bytes_at_leaf m x) (k * 32) (k * 32 + 32))) top_leaf
      ∙ ap (λ (l : List ℕ). raw_in v.order (slice_range l (k * 32) (k * 32 + 32))) (top_bytes v)

  -- the first two
  pub raw_first : raw_of m top_node 0 ≡ Short 1 (46 ∷ [])
  raw_first = let b = bounds in raw_is 0 (omega arith) ∙ first_record v.order g.blocksize

  -- and the second
  pub raw_second : raw_of m top_node 1 ≡ Short 1 (46 ∷ 46 ∷ [])
  raw_second = let b = bounds in raw_is 1 (omega arith) ∙ second_record v.order g.blocksize

  -- the others are unused
  pub raw_rest : (k : ℕ) → 2 ≤ k → k < g.blocksize / 32 → raw_of m top_node k ≡ records.Unused
  raw_rest k above low =
      let long : 32 ≡ k * 32 + 32 - k * 32 = omega arith in
      raw_is k (omega arith)
      ∙ ap (λ (l : List ℕ). raw_in v.order (take (k * 32 + 32 - k * 32) l)) (behind_rows v.order g.blocksize (k * 32) (omega arith))
      ∙ ap (λ n. raw_in v.order (take n (replicate (g.blocksize - 64 - (k * 32 - 64)) 0))) (sym long)
      ∙ ap (λ (l : List ℕ). raw_in v.order l) (take-replicate 32 (g.blocksize - 64 - (k * 32 - 64)) 0 (omega arith))
      ∙ raw_in-zeros v.order

  -- the slots of the new directory
  abbrev pub top_slots : List Slot
  top_slots = Row 1 (46 ∷ []) None ∷ Row 1 (46 ∷ 46 ∷ []) None ∷ replicate (g.blocksize / 32 - 2) Unused

  -- are those that are read
  pub slots_are : slots_read m empty_root top_node ≡ map (λ s. Some s) top_slots
  slots_are =
      let b = bounds in
      let f : ℕ → Option Slot = λ k. slot_of m empty_root (raw_of m top_node k) in
      let rest : ℕ = g.blocksize / 32 - 2 in
      let all : g.blocksize / 32 ≡ suc (suc rest) = omega arith in
      ap (λ n. each_below n f) all
      ∙ ap (λ r. slot_of m empty_root r ∷ map f (range_with_len 1 (suc rest))) raw_first
      ∙ ap (λ r. Some (Row 1 (46 ∷ []) None) ∷ slot_of m empty_root r ∷ map f (range_with_len 2 rest)) raw_second
      ∙ ap (λ l. Some (Row 1 (46 ∷ []) None) ∷ Some (Row 1 (46 ∷ 46 ∷ []) None) ∷ l) (free_slots f 2 rest (λ k low high. ap (λ r. slot_of m empty_root r) (raw_rest k low (omega arith))))

  -- a record is one of three
  pub raw_cases : (k : ℕ) → k < g.blocksize / 32 → (raw_of m top_node k ≡ Short 1 (46 ∷ [])) ⊎ ((raw_of m top_node k ≡ Short 1 (46 ∷ 46 ∷ [])) ⊎ (raw_of m top_node k ≡ records.Unused))
  raw_cases k low = elim (cases_eq k 0) [
    | inl first ↦ inl (ap (λ j. raw_of m top_node j) first ∙ raw_first)
    | inr later ↦ elim (cases_eq k 1) [
      | inl second ↦ inr (inl (ap (λ j. raw_of m top_node j) second ∙ raw_second))
      | inr rest ↦ inr (inr (raw_rest k (omega arith) low))
    ]
  ]
