-- What a node holds once bytes were put into its leaves.
use Rattle.std.proofs.Common.{◌≡◌, ℕ, ◌+◌, ◌-◌, ◌*◌, ◌/◌, ◌%◌, ◌<◌, ◌≤◌, min, inl, inr, List, length, drop, refl, sym, ◌∙◌, ap, subst, arith, length-drop, length-take}
use Rattle.std.specs.Prelude.{◌⊎◌, false, IsTrue, Contains, slice_index, slice_range}
use Rattle.std.proofs.Math.Nat.{mod-lt}
use Rattle.std.proofs.lemmas.Bool.{cases_lt}
use Rattle.std.proofs.lemmas.List.{get_or-take, get_or-drop}
use Rattle.std.proofs.lemmas.Nat.{div-add-mod'}
use Rattle.qx_bytes.proofs.Puts.{byte_put_apart, byte_put_within}
use Rattle.qx_fields.specs.declared.order.Order.{Order}
use Rattle.qx_geom.specs.declared.root.Root.{Root}
use Rattle.qx_geom.specs.Pointer.{ceil_div}
use Rattle.qx_nodes.specs.BlockMap.{BlockMap, with_bytes}
use Rattle.qx_nodes.specs.Content.{byte_of, bytes_at_leaf, leaf_bytes}
use Rattle.qx_nodes.specs.ForeignNodes.{is_foreign_node}
use Rattle.qx_nodes.specs.Leaves.{Block, Damage, Hole, Leaf, leaf_of}
use Rattle.qx_nodes.specs.Visits.{IsMet, LiesBelow, Visit, visits_of}
use Rattle.qx_nodes.proofs.LeafPaths.{node_leaf_met}
use Rattle.qx_blocks.specs.BlockState.{BlockState, IsConsistent}
use Rattle.qx_ptree.specs.Trees.{IsRegular, IsWorking, block_map}
use Rattle.qx_ptree.proofs.ReadyPaths.{leaf_at_end, pointer_bounds, top_below}
use Rattle.qx_ptree.proofs.PointerCounts.{size_positive}
use Rattle.qx_file.specs.Puts.{CanPut, HasByte, MeetsOnce, Puts, leaf_block, leaves_end, with_part}
use Rattle.qx_ptree.proofs.AgreeingPointers.{AgreesAbove, leaf_above, plain_above, visits_above}
use Rattle.qx_file.proofs.KeptPointers.{above_itself, is_with_all, leaf_ready}
use Rattle.qx_file.proofs.PartBytes.{ends_past}

-- ---- one leaf

-- how many bytes of a range lie in a leaf
pub part_long : (bytes : List ℕ) (a z : ℕ) → length (slice_range bytes a z) ≡ min (z - a) (length bytes - a)
part_long bytes a z = omega (arith, length-take (z - a) (drop a bytes), length-drop a bytes)

-- a leaf's end
pub leaf_end : (i size : ℕ) → (i + 1) * size ≡ i * size + size
leaf_end i size = grind arith

-- a byte of the range stands in its leaf
part_byte : (size at i : ℕ) (bytes old : List ℕ) (k r : ℕ) → length old ≡ size → k ≡ i * size + r → r < size → at ≤ k → k < at + length bytes → slice_index (with_part size i at bytes old) r ≡ slice_index bytes (k - at)
part_byte size at i bytes old k r long is low from to =
    let a : ℕ = i * size - at in
    let z : ℕ = (i + 1) * size - at in
    let place : ℕ = at - i * size in
    let e = leaf_end i size in
    let p = part_long bytes a z in
    let inside : r < place + length (slice_range bytes a z) = omega (arith, p, e, is) in
    let here : a + (r - place) ≡ k - at = omega (arith, is) in
    byte_put_within old (slice_range bytes a z) place (length (slice_range bytes a z)) r refl (omega (arith, is)) inside (omega (arith, is, long))
    ∙ get_or-take (z - a) (drop a bytes) (r - place) 0 (omega (arith, e, is)) ∙ get_or-drop a bytes (r - place) 0 ∙ ap (λ j. slice_index bytes j) here

-- and a byte beside it stays
part_apart : (size at i : ℕ) (bytes old : List ℕ) (k r : ℕ) → length old ≡ size → k ≡ i * size + r → r < size → at < (i + 1) * size → (k < at) ⊎ (at + length bytes ≤ k) → slice_index (with_part size i at bytes old) r ≡ slice_index old r
part_apart size at i bytes old k r long is low begins out =
    let a : ℕ = i * size - at in
    let z : ℕ = (i + 1) * size - at in
    let place : ℕ = at - i * size in
    let e = leaf_end i size in
    let p = part_long bytes a z in
    let room : place ≤ length old = omega (arith, e, long) in
    elim out [
      | inl before ↦ byte_put_apart old (slice_range bytes a z) place (length (slice_range bytes a z)) r refl (inl (omega (arith, is))) room
      | inr behind ↦ byte_put_apart old (slice_range bytes a z) place (length (slice_range bytes a z)) r refl (inr (omega (arith, is, p))) room
    ]

-- a leaf that begins before the leaves' end lies below it
below_end : (i j size : ℕ) → i * size < j * size → i < j
below_end i j size h = grind arith

-- a leaf has one of the bytes, or none
pub decide : (size at count i : ℕ) → (HasByte size at count i) ⊎ (HasByte size at count i → ⊥)
decide size at count i = elim (cases_lt i (at / size)) [
  | inl early ↦ inr (λ h. omega (arith, h.first))
  | inr first ↦ elim (cases_lt (i * size) (at + count)) [
    | inr late ↦ inr (λ h. omega (arith, h.last))
    | inl last ↦ elim (cases_lt 0 count) [
      | inr none ↦ inr (λ h. omega (arith, h.some))
      | inl some ↦ inl (record { first = first; last = last; some = some })
    ]
  ]
]

-- the leaf of a byte of the range has one
has_own : (size at count k : ℕ) → 0 < size → at ≤ k → k < at + count → HasByte size at count (k / size)
has_own size at count k some from to =
    let q : k / size * size + k % size ≡ k = div-add-mod' k size in
    record { first = div-le-div size from; last = omega (arith, q); some = omega arith }
  where
    div-le-div : (s : ℕ) → at ≤ k → at / s ≤ k / s
    div-le-div s h = grind arith

-- ---- the node

module _ (order : Order) (m n : BlockState) (node : Root) (at : ℕ) (bytes : List ℕ) (c : IsConsistent m) (can : CanPut order m node at (length bytes)) (once : MeetsOnce order m node) (puts : Puts order node at bytes m n) where
  -- the blocks before
  abbrev before : BlockMap
  before = block_map order m

  -- and after
  abbrev after : BlockMap
  after = with_bytes before n.bytes

  -- a leaf has one of the bytes
  abbrev Has : ℕ → Type 0
  Has = HasByte m.holdings.size at (length bytes)

  -- it lies below the size
  has_low : (i : ℕ) → Has i → i < ceil_div node.size m.holdings.size
  has_low i has = below_end i (ceil_div node.size m.holdings.size) m.holdings.size (omega (arith, has.last, can.below))

  -- where a leaf below the size lies
  lies : (i : ℕ) → i < ceil_div node.size m.holdings.size → LiesBelow before node i
  lies i low = record { positive = omega (arith, (pointer_bounds m c).0); below = low; reached = top_below m node i c can.levels low }

  -- it is present
  leaf_is : (i : ℕ) → Has i → leaf_of before node i ≡ Block (leaf_block order m node i)
  leaf_is i has = leaf_at_end order m node node.levels 0 i c (omega arith) (leaf_ready order m node Has i can.ready has)

  -- and met
  pub leaf_met : (i : ℕ) → Has i → Contains (visits_of before node) (record { level = 0; index = i; block = leaf_block order m node i })
  leaf_met i has = subst (λ x. IsMet i before.count x (visits_of before node)) (leaf_is i has) (node_leaf_met before node i (lies i (has_low i has)))

  -- pointer blocks stay
  agrees : AgreesAbove before n.bytes (visits_of before node)
  agrees v met up = sym (puts.others v.block (λ i has e.
      let same = once (record { level = 0; index = i; block = leaf_block order m node i }) v (leaf_met i has) met e in
      let level : 0 ≡ v.level = ap (λ (w : Visit). w.level) same in
      absurd (omega (arith, up, level))))

  -- and so do leaves
  leaf_same : (i : ℕ) → i < ceil_div node.size m.holdings.size → leaf_of before node i ≡ leaf_of after node i
  leaf_same i low = leaf_above before n.bytes node i (lies i low) agrees

  -- the bytes of a leaf that has one
  leaf_put : (i : ℕ) → Has i → leaf_bytes after node i ≡ with_part m.holdings.size i at bytes (m.bytes (leaf_block order m node i))
  leaf_put i has = ap (bytes_at_leaf after) (sym (leaf_same i (has_low i has)) ∙ leaf_is i has) ∙ puts.leaves i has

  -- and as they were
  leaf_was : (i : ℕ) → Has i → leaf_bytes before node i ≡ m.bytes (leaf_block order m node i)
  leaf_was i has = ap (bytes_at_leaf before) (leaf_is i has)

  -- how many they are
  leaf_long : (i : ℕ) → Has i → length (m.bytes (leaf_block order m node i)) ≡ m.holdings.size
  leaf_long i has = c.ready_long (leaf_block order m node i) (can.ready.ready 0 i (omega arith) (above_itself m.holdings.size Has i has))

  -- the bytes of a leaf that has none
  other_leaf : (i : ℕ) (x : Leaf) → (Has i → ⊥) → IsMet i before.count x (visits_of before node) → bytes_at_leaf after x ≡ bytes_at_leaf before x
  other_leaf i (Block b) out met = puts.others b (λ j has e.
      let same = once (record { level = 0; index = j; block = leaf_block order m node j }) (record { level = 0; index = i; block = b }) (leaf_met j has) met e in
      out (subst Has (ap (λ (w : Visit). w.index) same) has))
  other_leaf i Hole out met = refl
  other_leaf i Damage out met = refl

  leaf_stays : (i : ℕ) → i < ceil_div node.size m.holdings.size → (Has i → ⊥) → leaf_bytes after node i ≡ leaf_bytes before node i
  leaf_stays i low out = ap (bytes_at_leaf after) (sym (leaf_same i low)) ∙ other_leaf i (leaf_of before node i) out (node_leaf_met before node i (lies i low))

  -- a byte of the range is the one that was put
  byte_put : (k : ℕ) → at ≤ k → k < at + length bytes → byte_of after node k ≡ slice_index bytes (k - at)
  byte_put k from to =
      let size : ℕ = m.holdings.size in
      let some : 0 < size = size_positive size c.size in
      let i : ℕ = k / size in
      let has : Has i = has_own size at (length bytes) k some from to in
      ap (λ (l : List ℕ). slice_index l (k % size)) (leaf_put i has)
      ∙ part_byte size at i bytes (m.bytes (leaf_block order m node i)) k (k % size) (leaf_long i has) (sym (div-add-mod' k size)) (mod-lt k some) from to

  -- and each other one is as it was
  byte_stays : (k : ℕ) → k < leaves_end m.holdings.size node.size → (k < at) ⊎ (at + length bytes ≤ k) → byte_of after node k ≡ byte_of before node k
  byte_stays k low out =
      let size : ℕ = m.holdings.size in
      let some : 0 < size = size_positive size c.size in
      let i : ℕ = k / size in
      let q : i * size + k % size ≡ k = div-add-mod' k size in
      elim (decide size at (length bytes) i) [
        | inl has ↦
            ap (λ (l : List ℕ). slice_index l (k % size)) (leaf_put i has)
            ∙ part_apart size at i bytes (m.bytes (leaf_block order m node i)) k (k % size) (leaf_long i has) (sym q) (mod-lt k some) (ends_past size at (length bytes) i some has) out
            ∙ ap (λ (l : List ℕ). slice_index l (k % size)) (sym (leaf_was i has))
        | inr none ↦ ap (λ (l : List ℕ). slice_index l (k % size)) (leaf_stays i (below_end i (ceil_div node.size size) size (omega (arith, q))) none)
      ]

  -- ---- over the blocks after

  -- a byte that was put
  pub byte_put_after : (k : ℕ) → at ≤ k → k < at + length bytes → byte_of (block_map order n) node k ≡ slice_index bytes (k - at)
  byte_put_after k from to = subst (λ x. byte_of (block_map order x) node k ≡ slice_index bytes (k - at)) (is_with_all m n puts.holdings) (byte_put k from to)

  -- a byte that stays
  pub byte_stays_after : (k : ℕ) → k < leaves_end m.holdings.size node.size → (k < at) ⊎ (at + length bytes ≤ k) → byte_of (block_map order n) node k ≡ byte_of before node k
  byte_stays_after k low out = subst (λ x. byte_of (block_map order x) node k ≡ byte_of before node k) (is_with_all m n puts.holdings) (byte_stays k low out)

  -- the bytes of a leaf that has one of them
  pub leaf_put_after : (i : ℕ) → Has i → leaf_bytes (block_map order n) node i ≡ with_part m.holdings.size i at bytes (leaf_bytes before node i)
  leaf_put_after i has = subst (λ x. leaf_bytes (block_map order x) node i ≡ with_part m.holdings.size i at bytes (leaf_bytes before node i)) (is_with_all m n puts.holdings)
      (leaf_put i has ∙ ap (with_part m.holdings.size i at bytes) (sym (leaf_was i has)))

  -- and of one that has none
  pub leaf_stays_after : (i : ℕ) → i < ceil_div node.size m.holdings.size → (Has i → ⊥) → leaf_bytes (block_map order n) node i ≡ leaf_bytes before node i
  leaf_stays_after i low out = subst (λ x. leaf_bytes (block_map order x) node i ≡ leaf_bytes before node i) (is_with_all m n puts.holdings) (leaf_stays i low out)

  -- what the node meets
  pub visits_after : visits_of (block_map order n) node ≡ visits_of before node
  visits_after = subst (λ x. visits_of (block_map order x) node ≡ visits_of before node) (is_with_all m n puts.holdings) (sym (visits_above before n.bytes node agrees))

  -- its blocks are the working tree's
  pub works_after : IsWorking order m node → IsWorking order n node
  works_after works v met =
      subst (λ h. IsTrue (h.works v.block)) (sym puts.holdings) (works v (subst (λ vs. Contains vs v) visits_after met))

  -- and it stays regular
  pub regular_after : IsWorking order m node → IsRegular order m node → IsRegular order n node
  regular_after works regular = record {
    plain = subst (λ x. is_foreign_node (block_map order x) node ≡ false) (is_with_all m n puts.holdings)
        (plain_above before n.bytes node agrees (λ v met. c.numbers v.block (c.works_held v.block (works v met))) regular.plain);
    apart = λ u v met other e. regular.apart u v (subst (λ vs. Contains vs u) visits_after met) (subst (λ vs. Contains vs v) visits_after other) e;
  }
