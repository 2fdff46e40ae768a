-- What is put into leaves that are ready leaves the pointers to them.
use Rattle.std.proofs.Common.{◌≡◌, ℕ, zero, suc, ◌+◌, ◌-◌, ◌*◌, ◌/◌, ◌%◌, ◌≤◌, List, refl, sym, ◌∙◌, ap, subst, arith}
use Rattle.std.specs.Prelude.{◌==◌, if◌then◌else◌, IsTrue}
use Rattle.qx_fields.specs.declared.order.Order.{Order}
use Rattle.qx_fields.specs.Number.{field}
use Rattle.qx_geom.specs.declared.root.Root.{Root}
use Rattle.qx_geom.specs.Lists.{is_in}
use Rattle.qx_geom.specs.Pointer.{absent, per_block}
use Rattle.qx_geom.specs.Positions.{index_above}
use Rattle.qx_nodes.specs.BlockMap.{BlockMap, with_bytes, word}
use Rattle.qx_nodes.proofs.LeafPaths.{by_one}
use Rattle.qx_blocks.specs.BlockState.{BlockState}
use Rattle.qx_ptree.specs.Altered.{IsReadyLeaf}
use Rattle.qx_ptree.specs.ReadyLeaves.{IsAbove, IsReadyApart, StandIn}
use Rattle.qx_ptree.specs.Trees.{block_map, pointer_at, pointer_from}
use Rattle.qx_ptree.proofs.ReadyPaths.{pointer_at-depth, index_over}
use Rattle.qx_file.specs.Puts.{leaf_block}

-- only the blocks of these leaves may have other bytes than before
abbrev pub IsOnly : Order → BlockState → Root → (ℕ → Type 0) → (ℕ → List ℕ) → Type 0
IsOnly order m node leaves g = (b : ℕ) → ((i : ℕ) → leaves i → ¬ (leaf_block order m node i ≡ b)) → g b ≡ m.bytes b

-- the same blocks with other bytes
abbrev pub with_all : BlockState → BlockState → BlockState
with_all m n = record { holdings = m.holdings; tells = n.tells; bytes = n.bytes; history = n.history }

-- which they are where the holdings stay
pub is_with_all : (m n : BlockState) → n.holdings ≡ m.holdings → with_all m n ≡ n
is_with_all m n same = λ i. record { holdings = sym same i; tells = n.tells; bytes = n.bytes; history = n.history }

-- one of the leaves is above itself
pub above_itself : (blocksize : ℕ) (leaves : ℕ → Type 0) (i : ℕ) → leaves i → IsAbove blocksize leaves 0 i
above_itself blocksize leaves i one = record { leaf = i; one = one; above = by_one i (per_block blocksize) }

-- what is above a leaf's position is above the position below it
pub above_over : (blocksize : ℕ) (leaves : ℕ → Type 0) (k j : ℕ) → IsAbove blocksize leaves k j → IsAbove blocksize leaves (suc k) (j / per_block blocksize)
above_over blocksize leaves k j a = record {
  leaf = a.leaf;
  one = a.one;
  above = sym (index_over (per_block blocksize) k a.leaf) ∙ ap (λ q. q / per_block blocksize) a.above;
}

-- each leaf is ready to its root
pub leaf_ready : (order : Order) (m : BlockState) (node : Root) (leaves : ℕ → Type 0) (i : ℕ) → IsReadyApart order m node leaves → leaves i → IsReadyLeaf order m node i
leaf_ready order m node leaves i r one = λ k low. r.ready k (index_above m.holdings.size k i) low (record { leaf = i; one = one; above = refl })

module _ (order : Order) (m : BlockState) (node : Root) (leaves : ℕ → Type 0) (g : ℕ → List ℕ) (r : IsReadyApart order m node leaves) (only : IsOnly order m node leaves g) where
  -- the blocks before
  abbrev before : BlockMap
  before = block_map order m

  -- a pointer block above them stays
  block_kept : (k j : ℕ) → suc k ≤ node.levels → IsAbove m.holdings.size leaves (suc k) j → g (pointer_at before node (suc k) j) ≡ m.bytes (pointer_at before node (suc k) j)
  block_kept k j low above = only (pointer_at before node (suc k) j) (λ i one e.
      let same : 0 ≡ suc k = (r.apart 0 i (suc k) j (omega arith) low (above_itself m.holdings.size leaves i one) above e).0 in
      absurd (omega (arith, same)))

  -- a pointer above them, by its depth
  pub from_kept : (d k j : ℕ) → d + k ≡ node.levels → IsAbove m.holdings.size leaves k j → pointer_from (with_bytes before g) node d j ≡ pointer_from before node d j
  from_kept zero k j sum above = refl
  from_kept (suc d) k j sum above =
      let P : ℕ = per_block m.holdings.size in
      let over : IsAbove m.holdings.size leaves (suc k) (j / P) = above_over m.holdings.size leaves k j above in
      let is : pointer_at before node (suc k) (j / P) ≡ pointer_from before node d (j / P) = pointer_at-depth before node (suc k) d (j / P) (omega arith) in
      let bytes : g (pointer_from before node d (j / P)) ≡ m.bytes (pointer_from before node d (j / P)) = subst (λ p. g p ≡ m.bytes p) is (block_kept k (j / P) (omega arith) over) in
      ap (λ p. if p == absent then absent else word (with_bytes before g) p (j % P)) (from_kept d (suc k) (j / P) (omega arith) over)
      ∙ ap (λ (bs : List ℕ). if pointer_from before node d (j / P) == absent then absent else field order 4 bs (4 * (j % P))) bytes

  -- and by its level
  pub at_kept : (k j : ℕ) → k ≤ node.levels → IsAbove m.holdings.size leaves k j → pointer_at (with_bytes before g) node k j ≡ pointer_at before node k j
  at_kept k j low above =
      let d : ℕ = node.levels - k in
      let sum : d + k ≡ node.levels = omega arith in
      pointer_at-depth (with_bytes before g) node k d j sum ∙ from_kept d k j sum above ∙ sym (pointer_at-depth before node k d j sum)

-- the pointer to a leaf stays
pub leaf_kept : (order : Order) (m n : BlockState) (node : Root) (leaves : ℕ → Type 0) (i : ℕ) → IsReadyApart order m node leaves → n.holdings ≡ m.holdings → IsOnly order m node leaves n.bytes → leaves i
    → leaf_block order n node i ≡ leaf_block order m node i
leaf_kept order m n node leaves i r same only one =
    subst (λ x. leaf_block order x node i ≡ leaf_block order m node i) (is_with_all m n same) (at_kept order m node leaves n.bytes r only 0 i (omega arith) (above_itself m.holdings.size leaves i one))

-- leaves that are ready apart stay so
pub ready_kept : (order : Order) (m n : BlockState) (node : Root) (leaves : ℕ → Type 0) → IsReadyApart order m node leaves → n.holdings ≡ m.holdings → IsOnly order m node leaves n.bytes → IsReadyApart order n node leaves
ready_kept order m n node leaves r same only = subst (λ x. IsReadyApart order x node leaves) (is_with_all m n same) (record {
  ready = λ k j low above. subst (λ p. IsTrue (m.holdings.ready p)) (sym (at_kept order m node leaves n.bytes r only k j low above)) (r.ready k j low above);
  apart = λ k j h i low lower above over e.
      r.apart k j h i low lower above over (sym (at_kept order m node leaves n.bytes r only k j low above) ∙ e ∙ at_kept order m node leaves n.bytes r only h i lower over);
})

-- in the same blocks
pub stand_kept : (order : Order) (m n : BlockState) (node : Root) (leaves : ℕ → Type 0) (blocks : List ℕ) → IsReadyApart order m node leaves → n.holdings ≡ m.holdings → IsOnly order m node leaves n.bytes → StandIn order m node leaves blocks → StandIn order n node leaves blocks
stand_kept order m n node leaves blocks r same only stand = subst (λ x. StandIn order x node leaves blocks) (is_with_all m n same) (record {
  own = λ k j low above. ap (is_in blocks) (at_kept order m node leaves n.bytes r only k j low above) ∙ stand.own k j low above;
})

-- fewer leaves are ready apart as well
pub ready_fewer : (order : Order) (m : BlockState) (node : Root) (leaves some : ℕ → Type 0) → ((i : ℕ) → some i → leaves i) → IsReadyApart order m node leaves → IsReadyApart order m node some
ready_fewer order m node leaves some within r = record {
  ready = λ k j low above. r.ready k j low (more k j above);
  apart = λ k j h i low lower above over e. r.apart k j h i low lower (more k j above) (more h i over) e;
} where
  more : (k j : ℕ) → IsAbove m.holdings.size some k j → IsAbove m.holdings.size leaves k j
  more k j a = record { leaf = a.leaf; one = within a.leaf a.one; above = a.above }
