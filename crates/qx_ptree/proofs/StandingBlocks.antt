-- Which blocks a node meets once its change is committed, and which no more.
use Rattle.std.proofs.Common.{◌≡◌, ℕ, refl, sym, ◌∙◌, ap, subst}
use Rattle.std.specs.Prelude.{true, false, ◌↔◌, IsTrue, Contains}
use Rattle.qx_fields.specs.declared.order.Order.{Order}
use Rattle.qx_geom.specs.Lists.{is_in}
use Rattle.qx_geom.specs.Positions.{HasPosition}
use Rattle.qx_geom.proofs.Truths.{and_left, true_or_false}
use Rattle.qx_nodes.specs.Visits.{Visit, visits_of}
use Rattle.qx_blocks.specs.BlockState.{BlockState, IsConsistent}
use Rattle.qx_ptree.specs.Alterations.{Alteration}
use Rattle.qx_ptree.specs.Altered.{Alters, keeps_block, prepared_alteration, takes_fresh}
use Rattle.qx_ptree.specs.Trees.{IsToldNode, block_map, pointer_at}
use Rattle.qx_ptree.specs.WaitingChanges.{IsWaiting}
use Rattle.qx_ptree.specs.WorkState.{Preparation}
use Rattle.qx_ptree.proofs.AlteredNodes.{after_fresh, after_place, after_stays, place_same}
use Rattle.qx_ptree.proofs.BuiltNodes.{stale-keeps}
use Rattle.qx_ptree.proofs.NodePositions.{position_met, position_of}
use Rattle.qx_ptree.proofs.SeveralChanges.{altered_told}

module _ (order : Order) (old now m : BlockState) (p : Preparation) (w : IsWaiting order old now p) (s : IsConsistent m) (a : Alters order old p m) where
  -- what the change makes of the node
  abbrev made : Alteration
  made = prepared_alteration order old p

  -- what is known of the node afterwards
  told : IsToldNode order m p.root
  told = altered_told order old now m p w s a

  -- each position that the change makes is met
  met_at : (k j : ℕ) → HasPosition old.holdings.size made.new k j → Contains (visits_of (block_map order m) p.root) (record { level = k; index = j; block = pointer_at (block_map order m) p.root k j })
  met_at k j has = position_met order m p.root told k j (place_same order old m p w.node w.prepared.change w.prepared.sixteen s a k j ∙ has)

  -- so a block that a position keeps is met still
  pub block_kept : (v : Visit) → Contains (visits_of (block_map order old) p.node) v → keeps_block made v.level v.index ≡ true → Contains (visits_of (block_map order m) p.root) v
  block_kept v c keeps =
      subst (λ b. Contains (visits_of (block_map order m) p.root) (record { level = v.level; index = v.index; block = b }))
      (a.stays v.level v.index keeps ∙ sym (position_of order old p.node w.node v c))
      (met_at v.level v.index (and_left _ _ keeps))

  -- and each block that was taken is met
  pub block_taken : (b : ℕ) → is_in p.work.fresh b ≡ true → (v : Visit) × Contains (visits_of (block_map order m) p.root) v × (v.block ≡ b) × (takes_fresh made v.level v.index ≡ true)
  block_taken b fresh =
      let at = a.all_fresh b fresh in
      (record { level = at.0; index = at.1; block = pointer_at (block_map order m) p.root at.0 at.1 }, met_at at.0 at.1 at.2, at.4, at.3)

  module _ (v : Visit) (c : Contains (visits_of (block_map order m) p.root) v) where
    -- what is met stands at its position
    here : v.block ≡ pointer_at (block_map order m) p.root v.level v.index
    here = position_of order m p.root told v c

    -- which the change makes
    place : HasPosition old.holdings.size made.new v.level v.index
    place = after_place order old m p w.node w.prepared.change w.prepared.sixteen s a v c

    -- a block that was taken is the working tree's alone
    pub taken_private : takes_fresh made v.level v.index ≡ true → IsTrue (m.holdings.private v.block)
    taken_private fresh = s.ready_private v.block (subst (λ b. IsTrue (m.holdings.ready b)) (sym here) (a.fresh_ready v.level v.index place fresh))

    -- a position that takes none keeps its block
    kept_here : takes_fresh made v.level v.index ≡ false → keeps_block made v.level v.index ≡ true
    kept_here none = stale-keeps made v.level v.index place none

    -- which is as private as it was
    pub kept_private : takes_fresh made v.level v.index ≡ false → m.holdings.private v.block ≡ old.holdings.private v.block
    kept_private none =
        let keeps : keeps_block made v.level v.index ≡ true = kept_here none in
        ap m.holdings.private here ∙ a.stays_private v.level v.index keeps ∙ ap old.holdings.private (sym (here ∙ a.stays v.level v.index keeps))

    -- it isn't the block of a position that keeps none
    stays_apart : (u : Visit) → Contains (visits_of (block_map order old) p.node) u → keeps_block made u.level u.index ≡ false → v.block ≡ u.block → ⊥
    stays_apart u old_met gone same = elim (takes_fresh made v.level v.index) as (λ t. takes_fresh made v.level v.index ≡ t → ⊥) [
      | true ↦ λ fresh. true_or_false (old.holdings.held v.block)
          (subst (λ b. IsTrue (old.holdings.held b)) (sym same) (w.node.consistent.works_held u.block (w.node.works u old_met)))
          (w.unheld v.block (after_fresh order old m p w.node w.prepared.change w.prepared.sixteen s a v c fresh))
      | false ↦ λ none.
          let is : v ≡ u = w.node.regular.apart v u (after_stays order old m p w.node w.prepared.change w.prepared.sixteen s a v c none) old_met same in
          true_or_false (keeps_block made v.level v.index) (kept_here none) (ap (λ (x : Visit). keeps_block made x.level x.index) is ∙ gone)
    ] refl

  -- the blocks that are given up are those that were met and are no more
  pub block_left : (b : ℕ) → is_in p.work.released b ≡ true ↔ ((v : Visit) × Contains (visits_of (block_map order old) p.node) v × (v.block ≡ b) × ((u : Visit) → Contains (visits_of (block_map order m) p.root) u → ¬ (u.block ≡ b)))
  block_left b = (
    λ gone. let at = w.prepared.released b gone in (at.0, at.1, at.2, λ u c same. stays_apart u c at.0 at.1 at.3 (same ∙ sym at.2)),
    λ at. elim (keeps_block made at.0.level at.0.index) as (λ t. keeps_block made at.0.level at.0.index ≡ t → is_in p.work.released b ≡ true) [
      | true ↦ λ keeps. absurd (at.3 at.0 (block_kept at.0 at.1 keeps) at.2)
      | false ↦ λ lost. ap (is_in p.work.released) (sym at.2) ∙ w.prepared.lost at.0 at.1 lost
    ] refl,
  )
