-- Bytes that are put into one leaf after another.
use Rattle.std.proofs.Common.{◌≡◌, ℕ, ◌+◌, ◌<◌, inl, inr, List, length, refl, sym, ◌∙◌, ap, subst, arith}
use Rattle.std.proofs.lemmas.Bool.{cases_eq}
use Rattle.qx_fields.specs.declared.order.Order.{Order}
use Rattle.qx_geom.specs.declared.root.Root.{Root}
use Rattle.qx_blocks.specs.BlockState.{BlockState, with_bytes}
use Rattle.qx_ptree.specs.ReadyLeaves.{IsReadyApart}
use Rattle.qx_ptree.proofs.ListedBlocks.{put-at, put-other}
use Rattle.qx_file.specs.Puts.{CanPut, HasByte, Puts, leaf_block, with_leaf, with_part}
use Rattle.qx_file.proofs.KeptPointers.{IsOnly, above_itself, is_with_all, leaf_kept, ready_kept, with_all}

-- so far the leaves before one have their bytes
pub record PutsBefore (order : Order) (node : Root) (at : ℕ) (bytes : List ℕ) (m n : BlockState) (last : ℕ) : Type 0 where
  pub holdings : n.holdings ≡ m.holdings
  pub tells : n.tells ≡ m.tells
  pub history : n.history ≡ m.history
  pub leaves : (i : ℕ) → HasByte m.holdings.size at (length bytes) i → i < last
      → n.bytes (leaf_block order m node i) ≡ with_part m.holdings.size i at bytes (m.bytes (leaf_block order m node i))
  pub others : (b : ℕ) → ((i : ℕ) → HasByte m.holdings.size at (length bytes) i → i < last → ¬ (leaf_block order m node i ≡ b)) → n.bytes b ≡ m.bytes b

-- at last
pub puts_all : (order : Order) (node : Root) (at : ℕ) (bytes : List ℕ) (m n : BlockState) (last : ℕ) → ((i : ℕ) → HasByte m.holdings.size at (length bytes) i → i < last) → PutsBefore order node at bytes m n last → Puts order node at bytes m n
puts_all order node at bytes m n last all p = record {
  holdings = p.holdings;
  tells = p.tells;
  history = p.history;
  leaves = λ i has. p.leaves i has (all i has);
  others = λ b out. p.others b (λ i has low. out i has);
}

-- only leaves that have one of the bytes change
pub only_before : (order : Order) (node : Root) (at : ℕ) (bytes : List ℕ) (m n : BlockState) (last : ℕ) → PutsBefore order node at bytes m n last → IsOnly order m node (HasByte m.holdings.size at (length bytes)) n.bytes
only_before order node at bytes m n last p = λ b out. p.others b (λ i has low. out i has)

-- the bytes can be put again
pub can_after : (order : Order) (node : Root) (at count : ℕ) (m n : BlockState) → CanPut order m node at count → n.holdings ≡ m.holdings → IsOnly order m node (HasByte m.holdings.size at count) n.bytes → CanPut order n node at count
can_after order node at count m n can same only =
    subst (λ x. CanPut order x node at count) (is_with_all m n same) (record {
      levels = can.levels;
      below = can.below;
      ready = ready_kept order m (with_all m n) node (HasByte m.holdings.size at count) can.ready refl only;
    })

-- so they can be after the first leaves have theirs
pub can_before : (order : Order) (node : Root) (at : ℕ) (bytes : List ℕ) (m n : BlockState) (last : ℕ) → CanPut order m node at (length bytes) → PutsBefore order node at bytes m n last → CanPut order n node at (length bytes)
can_before order node at bytes m n last can p = can_after order node at (length bytes) m n can p.holdings (only_before order node at bytes m n last p)

-- two leaves of the range whose block is one are one
pub leaf_once : (order : Order) (m : BlockState) (node : Root) (leaves : ℕ → Type 0) (i j : ℕ) → IsReadyApart order m node leaves → leaves i → leaves j → leaf_block order m node i ≡ leaf_block order m node j → i ≡ j
leaf_once order m node leaves i j r one other e =
    (r.apart 0 i 0 j (omega arith) (omega arith) (above_itself m.holdings.size leaves i one) (above_itself m.holdings.size leaves j other) e).1

-- the next leaf gets its bytes, in the words of the blocks before all
put_leaf_next : (order : Order) (node : Root) (at : ℕ) (bytes : List ℕ) (m n : BlockState) (i b : ℕ) → CanPut order m node at (length bytes) → PutsBefore order node at bytes m n i → HasByte m.holdings.size at (length bytes) i
    → b ≡ leaf_block order m node i → PutsBefore order node at bytes m (with_bytes n b (with_part m.holdings.size i at bytes (n.bytes b))) (i + 1)
put_leaf_next order node at bytes m n i b can p has is = record {
  holdings = p.holdings;
  tells = p.tells;
  history = p.history;
  leaves = λ j one low. elim (cases_eq j i) [
    | inl e ↦
        let here : leaf_block order m node j ≡ b = ap (leaf_block order m node) e ∙ sym is in
        let was : n.bytes b ≡ m.bytes b = p.others b (λ h other before same. absurd (omega (arith, leaf_once order m node (HasByte m.holdings.size at (length bytes)) h i can.ready other has (same ∙ is)))) in
        put-at n.bytes b (leaf_block order m node j) (with_part m.holdings.size i at bytes (n.bytes b)) here
        ∙ ap (with_part m.holdings.size i at bytes) was
        ∙ (λ k. with_part m.holdings.size (sym e k) at bytes (m.bytes (sym here k)))
    | inr ne ↦
        put-other n.bytes b (leaf_block order m node j) (with_part m.holdings.size i at bytes (n.bytes b)) (λ same. ne (leaf_once order m node (HasByte m.holdings.size at (length bytes)) j i can.ready one has (same ∙ is)))
        ∙ p.leaves j one (omega (arith, ne))
  ];
  others = λ q out.
      put-other n.bytes b q (with_part m.holdings.size i at bytes (n.bytes b)) (λ same. out i has (omega arith) (sym is ∙ sym same))
      ∙ p.others q (λ j one low. out j one (omega arith));
}

-- the next leaf gets its bytes
pub puts_next : (order : Order) (node : Root) (at : ℕ) (bytes : List ℕ) (m n o : BlockState) (i : ℕ) → CanPut order m node at (length bytes) → PutsBefore order node at bytes m n i → HasByte m.holdings.size at (length bytes) i
    → o ≡ with_leaf order n node i at bytes → PutsBefore order node at bytes m o (i + 1)
puts_next order node at bytes m n o i can p has is =
    let b : ℕ = leaf_block order n node i in
    let same : b ≡ leaf_block order m node i = leaf_kept order m n node (HasByte m.holdings.size at (length bytes)) i can.ready p.holdings (only_before order node at bytes m n i p) has in
    let wrote : with_bytes n b (with_part m.holdings.size i at bytes (n.bytes b)) ≡ o = (λ k. with_bytes n b (with_part (sym p.holdings k).size i at bytes (n.bytes b))) ∙ sym is in
    subst (λ x. PutsBefore order node at bytes m x (i + 1)) wrote (put_leaf_next order node at bytes m n i b can p has same)

-- a leaf whose block got other bytes
pub leaf_edit : (order : Order) (m : BlockState) (node : Root) (at : ℕ) (bytes : List ℕ) (i b : ℕ) (old new : List ℕ) → leaf_block order m node i ≡ b → old ≡ m.bytes b → new ≡ with_part m.holdings.size i at bytes old → with_bytes m b new ≡ with_leaf order m node i at bytes
leaf_edit order m node at bytes i b old new here was is =
    λ k. with_bytes m (sym here k) ((is ∙ ap (with_part m.holdings.size i at bytes) (was ∙ ap m.bytes (sym here))) k)
