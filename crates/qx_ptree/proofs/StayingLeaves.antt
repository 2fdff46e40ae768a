-- Leaves that stay ready where the blocks at them and above them stay as they are.
use Rattle.std.proofs.Common.{◌≡◌, ℕ, zero, suc, ◌+◌, ◌*◌, ◌-◌, ◌/◌, ◌%◌, ◌≤◌, List, refl, sym, ◌∙◌, ap, subst, arith}
use Rattle.std.specs.Prelude.{true, false, ◌==◌, if◌then◌else◌, IsTrue}
use Rattle.std.proofs.lemmas.Bool.{or_left}
use Rattle.qx_fields.specs.declared.order.Order.{Order}
use Rattle.qx_fields.specs.Number.{field}
use Rattle.qx_geom.specs.declared.root.Root.{Root}
use Rattle.qx_geom.specs.Lists.{is_in}
use Rattle.qx_geom.specs.Pointer.{absent, per_block}
use Rattle.qx_geom.proofs.LeastTouch.{above_next}
use Rattle.qx_nodes.specs.BlockMap.{word}
use Rattle.qx_blocks.specs.BlockState.{BlockState}
use Rattle.qx_ptree.specs.ReadyLeaves.{IsAbove, IsReadyApart, StandIn}
use Rattle.qx_ptree.specs.Takings.{LeavesOthers, Takes}
use Rattle.qx_ptree.specs.Trees.{block_map, pointer_at, pointer_from}
use Rattle.qx_ptree.proofs.PointersByPosition.{at_from}

-- of some blocks, those that were ready are, with the bytes that they had
pub record StayReady (m n : BlockState) (blocks : List ℕ) : Type 0 where
  pub size : n.holdings.size ≡ m.holdings.size
  pub ready : (b : ℕ) → is_in blocks b ≡ true → IsTrue (m.holdings.ready b) → IsTrue (n.holdings.ready b)
  pub bytes : (b : ℕ) → is_in blocks b ≡ true → IsTrue (m.holdings.ready b) → n.bytes b ≡ m.bytes b

-- so it is with those that a call leaves alone
pub stay_others : (m n : BlockState) (changed blocks : List ℕ) → LeavesOthers changed m n → ((b : ℕ) → is_in blocks b ≡ true → is_in changed b ≡ false) → StayReady m n blocks
stay_others m n changed blocks l out = record { size = l.size; ready = λ b h was. l.ready b (out b h) ∙ was; bytes = λ b h was. l.bytes b (out b h) }

-- and with all that there are, where blocks are taken
pub stay_taken : (fresh : List ℕ) (m n : BlockState) (blocks : List ℕ) → Takes fresh m n → StayReady m n blocks
stay_taken fresh m n blocks t = record { size = t.size; ready = λ b h was. t.ready b (or_left (m.holdings.ready b) (is_in fresh b) was); bytes = λ b h was. t.ready_bytes b was }

module _ (order : Order) (m n : BlockState) (node : Root) (leaves : ℕ → Type 0) (blocks : List ℕ) (apart : IsReadyApart order m node leaves) (stand : StandIn order m node leaves blocks) (stay : StayReady m n blocks) where
  -- one level up
  above_up : (k j : ℕ) → IsAbove m.holdings.size leaves k j → IsAbove m.holdings.size leaves (suc k) (j / per_block m.holdings.size)
  above_up k j a = record { leaf = a.leaf; one = a.one; above = sym (above_next m.holdings.size k a.leaf) ∙ ap (λ x. x / per_block m.holdings.size) a.above }

  -- the pointers to them, level by level
  from_stays : (d k j : ℕ) → k + d ≡ node.levels → IsAbove m.holdings.size leaves k j → pointer_from (block_map order n) node d j ≡ pointer_from (block_map order m) node d j
  from_stays zero k j h a = refl
  from_stays (suc d) k j h a =
      let P : ℕ = per_block m.holdings.size in
      let x : ℕ = pointer_from (block_map order m) node d (j / P) in
      let up : IsAbove m.holdings.size leaves (suc k) (j / P) = above_up k j a in
      let at : pointer_at (block_map order m) node (suc k) (j / P) ≡ x = at_from (block_map order m) node (suc k) (j / P) d (omega (arith, h)) (omega (arith, h)) in
      let own : is_in blocks x ≡ true = subst (λ y. is_in blocks y ≡ true) at (stand.own (suc k) (j / P) (omega (arith, h)) up) in
      let ready : IsTrue (m.holdings.ready x) = subst (λ y. IsTrue (m.holdings.ready y)) at (apart.ready (suc k) (j / P) (omega (arith, h)) up) in
      (λ i. let above = pointer_from (block_map order n) node d (j / per_block (stay.size i)) in if above == absent then absent else word (block_map order n) above (j % per_block (stay.size i)))
      ∙ ap (λ above. if above == absent then absent else word (block_map order n) above (j % P)) (from_stays d (suc k) (j / P) (omega (arith, h)) up)
      ∙ ap (λ (bs : List ℕ). if x == absent then absent else field order 4 bs (4 * (j % P))) (stay.bytes x own ready)

  -- and by position
  pointer_stays : (k j : ℕ) → k ≤ node.levels → IsAbove m.holdings.size leaves k j → pointer_at (block_map order n) node k j ≡ pointer_at (block_map order m) node k j
  pointer_stays k j h a =
      let d : ℕ = node.levels - k in
      at_from (block_map order n) node k j d h refl ∙ from_stays d k j (omega (arith, h)) a ∙ sym (at_from (block_map order m) node k j d h refl)

  -- as one of the blocks before
  above_before : (k j : ℕ) → IsAbove n.holdings.size leaves k j → IsAbove m.holdings.size leaves k j
  above_before k j a = subst (λ s. IsAbove s leaves k j) stay.size a

  -- so the leaves are ready
  pub ready_stays : IsReadyApart order n node leaves
  ready_stays = record {
    ready = λ k j h a.
        let before : IsAbove m.holdings.size leaves k j = above_before k j a in
        subst (λ x. IsTrue (n.holdings.ready x)) (sym (pointer_stays k j h before)) (stay.ready (pointer_at (block_map order m) node k j) (stand.own k j h before) (apart.ready k j h before));
    apart = λ k j h i low high a b same.
        let first : IsAbove m.holdings.size leaves k j = above_before k j a in
        let second : IsAbove m.holdings.size leaves h i = above_before h i b in
        apart.apart k j h i low high first second (sym (pointer_stays k j low first) ∙ same ∙ pointer_stays h i high second);
  }

  -- and stand in the same blocks
  pub stand_stays : StandIn order n node leaves blocks
  stand_stays = record {
    own = λ k j h a. let before : IsAbove m.holdings.size leaves k j = above_before k j a in subst (λ x. is_in blocks x ≡ true) (sym (pointer_stays k j h before)) (stand.own k j h before);
  }
