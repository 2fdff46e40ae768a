-- What a committed change has made of its node, by what is met there, and seen from blocks before and after.
use Rattle.std.proofs.Common.{◌≡◌, ℕ, ◌≤◌, List, ◌++◌, length, refl, sym, ◌∙◌, ap, subst, arith}
use Rattle.std.specs.Prelude.{true, false, IsTrue, Contains}
use Rattle.qx_fields.specs.declared.order.Order.{Order}
use Rattle.qx_geom.specs.Lists.{is_in}
use Rattle.qx_geom.specs.Positions.{HasPosition, has_position, index_above}
use Rattle.qx_geom.proofs.LeastTouch.{has_above}
use Rattle.qx_geom.proofs.Members.{in_left}
use Rattle.qx_geom.proofs.Truths.{and_left}
use Rattle.qx_nodes.specs.Visits.{Visit, visits_of}
use Rattle.qx_blocks.specs.BlockState.{BlockState, IsConsistent}
use Rattle.qx_ptree.specs.Alterations.{Alteration, shape_in}
use Rattle.qx_ptree.specs.Altered.{Alters, keeps_block, prepared_alteration, takes_fresh}
use Rattle.qx_ptree.specs.Fates.{IsChange, is_written}
use Rattle.qx_ptree.specs.KeptNodes.{KeepsNode}
use Rattle.qx_ptree.specs.Takings.{LeavesOthers}
use Rattle.qx_ptree.specs.Trees.{HasLevels, IsToldNode, block_map, pointer_at}
use Rattle.qx_ptree.specs.WaitingChanges.{IsClearOf}
use Rattle.qx_ptree.specs.WorkState.{Preparation, blocks_of}
use Rattle.qx_ptree.proofs.BuiltNodes.{stale-keeps}
use Rattle.qx_ptree.proofs.KeptNodes.{all_leaves_kept, alteration_kept, kept_others, pointers_kept, present_kept, regular_kept, visits_kept, working_kept}
use Rattle.qx_ptree.proofs.LeafParts.{written-present}
use Rattle.qx_ptree.proofs.MetPositions.{visit_at}
use Rattle.qx_ptree.proofs.NodePositions.{position_has, position_met, position_of, there_met}
use Rattle.qx_ptree.proofs.WholeNeed.{levels-reach}

module _ (order : Order) (old m : BlockState) (p : Preparation) (told : IsToldNode order old p.node) (change : IsChange old.holdings.size p.change) (sixteen : length p.root.pointers ≡ 16) (s : IsConsistent m) (a : Alters order old p m) where
  -- what the change makes of the node
  abbrev made : Alteration
  made = prepared_alteration order old p

  -- the same is known of the node afterwards
  pub told_after : IsToldNode order m p.root
  told_after = record { consistent = s; sixteen = sixteen; levels = subst (λ z. HasLevels z p.root) (sym a.blocksize) (levels-reach old.holdings.size p.root p.change told.consistent.size change a.size a.levels); works = a.works; regular = a.regular }

  -- which has the positions that the change makes
  pub place_same : (k j : ℕ) → has_position m.holdings.size (shape_in (block_map order m) p.root) k j ≡ has_position old.holdings.size made.new k j
  place_same k j = λ i. has_position (a.blocksize i) (record { levels = a.levels i; present = a.present i }) k j

  -- so what is met there stands at one of them
  pub after_place : (v : Visit) → Contains (visits_of (block_map order m) p.root) v → HasPosition old.holdings.size made.new v.level v.index
  after_place v c = sym (place_same v.level v.index) ∙ position_has order m p.root told_after v c

  -- a fresh block where the position takes one
  pub after_fresh : (v : Visit) → Contains (visits_of (block_map order m) p.root) v → takes_fresh made v.level v.index ≡ true → is_in p.work.fresh v.block ≡ true
  after_fresh v c f = ap (is_in p.work.fresh) (position_of order m p.root told_after v c) ∙ a.fresh v.level v.index (after_place v c) f

  -- and else what was met there before
  pub after_stays : (v : Visit) → Contains (visits_of (block_map order m) p.root) v → takes_fresh made v.level v.index ≡ false → Contains (visits_of (block_map order old) p.node) v
  after_stays v c none =
      let is : v.block ≡ pointer_at (block_map order old) p.node v.level v.index = position_of order m p.root told_after v c ∙ a.stays v.level v.index (stale-keeps made v.level v.index (after_place v c) none) in
      subst (λ b. Contains (visits_of (block_map order old) p.node) (record { level = v.level; index = v.index; block = b })) (sym is)
      (there_met order old p.node told v.level v.index (λ e. (visit_at (block_map order m) p.root v c).there (is ∙ e)))

  -- by these two cases
  pub after_met : {P : Type 0} (v : Visit) → Contains (visits_of (block_map order m) p.root) v → (is_in p.work.fresh v.block ≡ true → P) → (Contains (visits_of (block_map order old) p.node) v → P) → P
  after_met {P = P} v c fresh stays = elim (takes_fresh made v.level v.index) as (λ t. takes_fresh made v.level v.index ≡ t → P) [ true ↦ λ e. fresh (after_fresh v c e) | false ↦ λ e. stays (after_stays v c e) ] refl

  -- so it is none of the blocks that neither the change nor the old node has
  pub after_clear : (changed : List ℕ) → IsClearOf order old p changed → (v : Visit) → Contains (visits_of (block_map order m) p.root) v → is_in changed v.block ≡ false
  after_clear changed clear v c = after_met v c (λ fresh. clear.own v.block (in_left p.work.fresh (p.work.kept ++ p.work.released) v.block fresh)) (clear.met v)

  module _ (changed : List ℕ) (n : BlockState) (after : IsConsistent n) (l : LeavesOthers changed m n) (clear : IsClearOf order old p changed) where
    -- the node stays while they change
    stays : KeepsNode order m n p.root
    stays = kept_others order changed m n p.root l (after_clear changed clear)

    -- with its pointers
    pointer : (k j : ℕ) → pointer_at (block_map order n) p.root k j ≡ pointer_at (block_map order m) p.root k j
    pointer k j = pointers_kept order m n p.root after stays told_after k j

    -- none of which changes
    clear_at : (k j : ℕ) → HasPosition old.holdings.size made.new k j → is_in changed (pointer_at (block_map order m) p.root k j) ≡ false
    clear_at k j h = after_clear changed clear (record { level = k; index = j; block = pointer_at (block_map order m) p.root k j }) (position_met order m p.root told_after k j (place_same k j ∙ h))

    -- a block that was ready is
    ready_at : (k j : ℕ) → HasPosition old.holdings.size made.new k j → IsTrue (m.holdings.ready (pointer_at (block_map order m) p.root k j)) → IsTrue (n.holdings.ready (pointer_at (block_map order n) p.root k j))
    ready_at k j h was = subst (λ q. IsTrue (n.holdings.ready q)) (sym (pointer k j)) (l.ready (pointer_at (block_map order m) p.root k j) (clear_at k j h) ∙ was)

    -- above a written leaf stands a position at each level
    written_place : (i k : ℕ) → is_written p.change i ≡ true → k ≤ p.root.levels → HasPosition old.holdings.size made.new k (index_above m.holdings.size k i)
    written_place i k w level =
        subst (λ z. HasPosition old.holdings.size made.new k (index_above z k i)) (sym a.blocksize)
        (has_above old.holdings.size made.new k i (omega (arith, level, a.levels)) (written-present old.holdings.size (shape_in (block_map order old) p.node) p.change i w))

    -- the change has made the same of it
    pub altered_others : Alters order old p n
    altered_others = record {
      blocksize = l.size ∙ a.blocksize;
      size = a.size;
      levels = a.levels;
      present = present_kept order m n p.root after stays told_after ∙ a.present;
      works = working_kept order m n p.root stays a.works;
      regular = regular_kept order m n p.root stays s a.works a.regular;
      stays = λ k j kept. pointer k j ∙ a.stays k j kept;
      fresh = λ k j h f. ap (is_in p.work.fresh) (pointer k j) ∙ a.fresh k j h f;
      all_fresh = λ b f. let at = a.all_fresh b f in (at.0, at.1, at.2, at.3, pointer at.0 at.1 ∙ at.4);
      bytes = λ i h. all_leaves_kept order m n p.root after stays told_after i ∙ a.bytes i h;
      ready = λ i w k level. subst (λ z. IsTrue (n.holdings.ready (pointer_at (block_map order n) p.root k (index_above z k i)))) (sym l.size)
          (ready_at k (index_above m.holdings.size k i) (written_place i k w level) (a.ready i w k level));
      own = λ i k w level. ap (is_in (blocks_of p)) (pointer k (index_above old.holdings.size k i)) ∙ a.own i k w level;
      fresh_ready = λ k j h f. ready_at k j h (a.fresh_ready k j h f);
      stays_private = λ k j kept. ap n.holdings.private (pointer k j) ∙ l.private (pointer_at (block_map order m) p.root k j) (clear_at k j (and_left _ _ kept)) ∙ a.stays_private k j kept;
      given_up = λ v c gone. l.works v.block (clear.met v c) ∙ a.given_up v c gone;
    }

-- what a change makes of a node over some blocks it makes of it over older ones from which the node stayed
module _ (order : Order) (m n o : BlockState) (p : Preparation) (s : IsConsistent n) (k : KeepsNode order m n p.node) (told : IsToldNode order m p.node) where
  -- a fact of the alteration
  same : prepared_alteration order n p ≡ prepared_alteration order m p
  same = alteration_kept order m n p.node s k told p.change

  -- a position
  place : (l j : ℕ) → has_position n.holdings.size (prepared_alteration order n p).new l j ≡ has_position m.holdings.size (prepared_alteration order m p).new l j
  place l j = λ i. has_position (k.size i) (same i).new l j

  -- and a visit
  met : (v : Visit) → Contains (visits_of (block_map order m) p.node) v → Contains (visits_of (block_map order n) p.node) v
  met v c = subst (λ vs. Contains vs v) (sym (visits_kept order m n p.node k)) c

  pub altered_before : Alters order n p o → Alters order m p o
  altered_before a = record {
    blocksize = a.blocksize ∙ k.size;
    size = a.size;
    levels = a.levels ∙ ap (λ (x : Alteration). x.new.levels) same;
    present = a.present ∙ ap (λ (x : Alteration). x.new.present) same;
    works = a.works;
    regular = a.regular;
    stays = λ l j kept. a.stays l j (ap (λ (x : Alteration). keeps_block x l j) same ∙ kept) ∙ pointers_kept order m n p.node s k told l j;
    fresh = λ l j h f. a.fresh l j (place l j ∙ h) (ap (λ (x : Alteration). takes_fresh x l j) same ∙ f);
    all_fresh = λ b f. let at = a.all_fresh b f in (at.0, at.1, sym (place at.0 at.1) ∙ at.2, sym (ap (λ (x : Alteration). takes_fresh x at.0 at.1) same) ∙ at.3, at.4);
    bytes = λ i h. a.bytes i (place 0 i ∙ h) ∙ all_leaves_kept order m n p.node s k told i;
    ready = a.ready;
    own = λ i l w level. subst (λ z. is_in (blocks_of p) (pointer_at (block_map order o) p.root l (index_above z l i)) ≡ true) k.size (a.own i l w level);
    fresh_ready = λ l j h f. a.fresh_ready l j (place l j ∙ h) (ap (λ (x : Alteration). takes_fresh x l j) same ∙ f);
    stays_private = λ l j kept. a.stays_private l j (ap (λ (x : Alteration). keeps_block x l j) same ∙ kept) ∙ ap (λ (x : Alteration). x.private l j) same;
    given_up = λ v c gone. a.given_up v (met v c) (ap (λ (x : Alteration). keeps_block x v.level v.index) same ∙ gone);
  }
