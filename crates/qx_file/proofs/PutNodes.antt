-- What is known of a node, and of blocks, once bytes were put into its leaves.
use Rattle.std.proofs.Common.{◌≡◌, ℕ, zero, suc, ◌+◌, ◌-◌, ◌*◌, ◌^◌, ◌<◌, ◌≤◌, inl, inr, List, length, refl, sym, ◌∙◌, ap, subst, arith}
use Rattle.std.specs.Prelude.{◌⊎◌, true, false, IsTrue, Contains, slice_range}
use Rattle.std.proofs.lemmas.Bool.{cases_eq}
use Rattle.qx_bytes.proofs.Puts.{length_put}
use Rattle.qx_fields.specs.declared.order.Order.{Order}
use Rattle.qx_geom.specs.declared.root.Root.{Root}
use Rattle.qx_geom.specs.Lists.{is_in}
use Rattle.qx_geom.specs.Pointer.{absent}
use Rattle.qx_geom.proofs.Truths.{true_or_false}
use Rattle.qx_nodes.specs.Visits.{visits_of}
use Rattle.qx_blocks.specs.BlockState.{BlockState, Holdings, IsBlockSize, IsConsistent}
use Rattle.qx_ptree.specs.Takings.{LeavesOthers}
use Rattle.qx_ptree.specs.Trees.{HasLevels, IsToldNode, block_map, pointer_at}
use Rattle.qx_ptree.proofs.NodePositions.{position_of, there_met}
use Rattle.qx_ptree.proofs.PointerCounts.{size_positive}
use Rattle.qx_file.specs.Puts.{CanPut, HasByte, Puts, leaf_block, with_part}
use Rattle.qx_file.proofs.KeptPointers.{above_itself}
use Rattle.qx_file.proofs.PartBytes.{ends_past}
use Rattle.qx_file.proofs.PutContent.{decide, leaf_end, part_long, regular_after, visits_after, works_after}

-- a leaf that got some bytes is as long as it was
part_keeps_length : (size at i : ℕ) (bytes old : List ℕ) → length old ≡ size → at < (i + 1) * size → length (with_part size i at bytes old) ≡ size
part_keeps_length size at i bytes old long ends =
    let part : List ℕ = slice_range bytes (i * size - at) ((i + 1) * size - at) in
    length_put old part (at - i * size) (length part) refl (omega (arith, leaf_end i size, part_long bytes (i * size - at) ((i + 1) * size - at), long)) ∙ long

-- only the blocks of leaves that have one of the bytes change
pub others_put : (order : Order) (m n : BlockState) (node : Root) (at : ℕ) (bytes blocks : List ℕ) → ((i : ℕ) → HasByte m.holdings.size at (length bytes) i → is_in blocks (leaf_block order m node i) ≡ true)
    → Puts order node at bytes m n → LeavesOthers blocks m n
others_put order m n node at bytes blocks within puts = record {
  size = ap (λ h. h.size) puts.holdings;
  count = ap (λ h. h.count) puts.holdings;
  tells = puts.tells;
  history = puts.history;
  held = λ b out. ap (λ h. h.held b) puts.holdings;
  works = λ b out. ap (λ h. h.works b) puts.holdings;
  private = λ b out. ap (λ h. h.private b) puts.holdings;
  ready = λ b out. ap (λ h. h.ready b) puts.holdings;
  bytes = λ b out. puts.others b (λ i has is. true_or_false (is_in blocks b) (ap (is_in blocks) (sym is) ∙ within i has) out);
}

module _ (order : Order) (m n : BlockState) (node : Root) (at : ℕ) (bytes : List ℕ) (s : IsConsistent m) (can : CanPut order m node at (length bytes)) (puts : Puts order node at bytes m n) where
  -- a leaf has one of the bytes
  abbrev Has : ℕ → Type 0
  Has = HasByte m.holdings.size at (length bytes)

  -- its block is ready
  leaf_ready : (i : ℕ) → Has i → IsTrue (m.holdings.ready (leaf_block order m node i))
  leaf_ready i has = can.ready.ready 0 i (omega arith) (above_itself m.holdings.size Has i has)

  -- so no block that another tree holds is written
  pub shared_stays : (b : ℕ) → m.holdings.private b ≡ false → n.bytes b ≡ m.bytes b
  shared_stays b shared = puts.others b (λ i has is. true_or_false (m.holdings.private b) (ap m.holdings.private (sym is) ∙ s.ready_private (leaf_block order m node i) (leaf_ready i has)) shared)

  -- a block is that of one of the first leaves which have a byte, or of none
  written_below : (b last : ℕ) → ((i : ℕ) × Has i × (leaf_block order m node i ≡ b)) ⊎ ((i : ℕ) → Has i → i < last → ¬ (leaf_block order m node i ≡ b))
  written_below b zero = inr (λ i has low is. omega arith)
  written_below b (suc last) = elim (written_below b last) [
    | inl one ↦ inl one
    | inr none ↦ elim (decide m.holdings.size at (length bytes) last) [
      | inr out ↦ inr (λ i has low. elim (cases_eq i last) [ inl same ↦ absurd (out (subst Has same has)) | inr differ ↦ none i has (omega (arith, differ)) ])
      | inl has_last ↦ elim (cases_eq (leaf_block order m node last) b) [
        | inl is ↦ inl (last, has_last, is)
        | inr other ↦ inr (λ i has low is. elim (cases_eq i last) [ inl same ↦ other (ap (leaf_block order m node) (sym same) ∙ is) | inr differ ↦ none i has (omega (arith, differ)) is ])
      ]
    ]
  ]

  -- each leaf that has one lies before the last of them
  leaf_before : (i : ℕ) → Has i → i < at + length bytes
  leaf_before i has = low i (at + length bytes) m.holdings.size (size_positive m.holdings.size s.size) has.last
    where
      low : (i end size : ℕ) → 0 < size → i * size < end → i < end
      low i end size some h = grind arith

  -- a block is as long as it was
  long_stays : (b : ℕ) → length (m.bytes b) ≡ m.holdings.size → length (n.bytes b) ≡ m.holdings.size
  long_stays b long = elim (written_below b (at + length bytes)) [
    | inl (i, has, is) ↦
        subst (λ q. length (n.bytes q) ≡ m.holdings.size) is
        (ap length (puts.leaves i has) ∙ part_keeps_length m.holdings.size at i bytes (m.bytes (leaf_block order m node i)) (ap (λ q. length (m.bytes q)) is ∙ long) (ends_past m.holdings.size at (length bytes) i (size_positive m.holdings.size s.size) has))
    | inr none ↦ ap length (puts.others b (λ i has. none i has (leaf_before i has))) ∙ long
  ]

  -- so the blocks are consistent
  pub consistent_put : IsConsistent n
  consistent_put = record {
    size = subst (λ (h : Holdings). IsBlockSize h.size) same s.size;
    count = subst (λ (h : Holdings). h.count < 2 ^ 32) same s.count;
    free = subst (λ (h : Holdings). h.free ≤ h.count) same s.free;
    numbers = subst (λ (h : Holdings). (b : ℕ) → IsTrue (h.held b) → b < h.count) same s.numbers;
    works_held = subst (λ (h : Holdings). (b : ℕ) → IsTrue (h.works b) → IsTrue (h.held b)) same s.works_held;
    private_works = subst (λ (h : Holdings). (b : ℕ) → IsTrue (h.private b) → IsTrue (h.works b)) same s.private_works;
    ready_private = subst (λ (h : Holdings). (b : ℕ) → IsTrue (h.ready b) → IsTrue (h.private b)) same s.ready_private;
    told_long = λ told. subst (λ (h : Holdings). (b : ℕ) → IsTrue (h.held b) → length (n.bytes b) ≡ h.size) same (λ b held. long_stays b (s.told_long (sym puts.tells ∙ told) b held));
    ready_long = subst (λ (h : Holdings). (b : ℕ) → IsTrue (h.ready b) → length (n.bytes b) ≡ h.size) same (λ b ready. long_stays b (s.ready_long b ready));
  } where
    same : m.holdings ≡ n.holdings
    same = sym puts.holdings

module _ (order : Order) (m n : BlockState) (node : Root) (at : ℕ) (bytes : List ℕ) (is : IsToldNode order m node) (can : CanPut order m node at (length bytes)) (puts : Puts order node at bytes m n) where
  -- the same is known of the node
  pub told_put : IsToldNode order n node
  told_put = record {
    consistent = consistent_put order m n node at bytes is.consistent can puts;
    sixteen = is.sixteen;
    levels = subst (λ (h : Holdings). HasLevels h.size node) (sym puts.holdings) is.levels;
    works = works_after order m n node at bytes is.consistent can is.regular.apart puts is.works;
    regular = regular_after order m n node at bytes is.consistent can is.regular.apart puts is.works is.regular;
  }

  -- it meets the same
  same_visits : visits_of (block_map order n) node ≡ visits_of (block_map order m) node
  same_visits = visits_after order m n node at bytes is.consistent can is.regular.apart puts

  -- so it has the same pointers
  pub pointers_put : (k j : ℕ) → pointer_at (block_map order n) node k j ≡ pointer_at (block_map order m) node k j
  pointers_put k j = elim (cases_eq (pointer_at (block_map order m) node k j) absent) [
    | inr there ↦ sym (position_of order n node told_put (record { level = k; index = j; block = pointer_at (block_map order m) node k j })
        (subst (λ vs. Contains vs (record { level = k; index = j; block = pointer_at (block_map order m) node k j })) (sym same_visits) (there_met order m node is k j there)))
    | inl none ↦ elim (cases_eq (pointer_at (block_map order n) node k j) absent) [
      | inl too ↦ too ∙ sym none
      | inr there ↦ position_of order m node is (record { level = k; index = j; block = pointer_at (block_map order n) node k j })
          (subst (λ vs. Contains vs (record { level = k; index = j; block = pointer_at (block_map order n) node k j })) same_visits (there_met order n node told_put k j there))
    ]
  ]
