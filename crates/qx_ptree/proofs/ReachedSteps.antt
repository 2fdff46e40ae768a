-- What reaches written leaves by the steps of a preparation.
use Rattle.std.proofs.Common.{◌≡◌, ◌≢◌, ℕ, suc, ◌+◌, ◌*◌, ◌-◌, ◌^◌, ◌/◌, ◌<◌, ◌≤◌, inl, inr, List, [], length, set, refl, sym, ◌∙◌, ap, subst, arith}
use Rattle.std.specs.Prelude.{Bool, true, ◌||◌, if◌then◌else◌, slice_index, Result}
use Rattle.std.proofs.Math.Nat.{div-lt_iff_lt-mul, div-mul-le_self, one-le-pow}
use Rattle.std.proofs.lemmas.Bool.{or_right}
use Rattle.qx_geom.proofs.LeastLevels.{levels_for-reach}
use Rattle.qx_geom.specs.Layout.{levels_for}
use Rattle.qx_geom.specs.Lists.{Distinct, is_in}
use Rattle.qx_geom.specs.Pointer.{absent, per_block, reach}
use Rattle.qx_geom.specs.Positions.{index_above}
use Rattle.qx_geom.proofs.LeastTouch.{above_next}
use Rattle.qx_nodes.proofs.LeafPaths.{by_one}
use Rattle.qx_blocks.specs.BlockState.{BlockState, IsConsistent}
use Rattle.qx_blocks.specs.declared.blocks.Stop.{Stop}
use Rattle.qx_ptree.specs.declared.change.Change.{Change}
use Rattle.qx_ptree.specs.declared.change.Fate.{Fate}
use Rattle.qx_ptree.specs.declared.change.Fate.TheVariants.{Stays, Written, Goes}
use Rattle.qx_ptree.specs.declared.plan.Plan.{Plan}
use Rattle.qx_ptree.specs.Building.{GivesUp, LiesUnder, Row, WritesBlock, WritesLeaf, one_block, with_released}
use Rattle.qx_ptree.specs.Fates.{IsChange, fate_of, is_gone, is_written, leaves_after}
use Rattle.qx_ptree.specs.Reaching.{IsMarked, IsOwnPosition, Reaches, ReachesOnto}
use Rattle.qx_ptree.specs.ReadyLeaves.{IsAbove, IsReadyApart, IsWrittenBy, OwnAsLeft, StandIn}
use Rattle.qx_ptree.specs.Takings.{Takes}
use Rattle.qx_ptree.specs.WorkState.{Preparation, WorkState, all_blocks, committed, no_work, blocks_of}
use Rattle.qx_ptree.proofs.AddedWork.{adds_none, adds_then, adds_released}
use Rattle.qx_ptree.proofs.ReachedBlocks.{block_there, reaches_block_at, taken_there}
use Rattle.qx_ptree.proofs.ReachedRows.{fresh_stay, own_leaf, reaches_later, reaches_leaf, reaches_next, reaches_no_work, reaches_nothing, reaches_sized}
use Rattle.qx_ptree.proofs.ReadyNodes.{IsReached, ready_node, stand_node}
use Rattle.qx_ptree.proofs.UnderRows.{none_under, row_more, row_own}
use Rattle.qx_ptree.proofs.WholeNeed.{leaves-reached}

-- ---- where nothing is written

-- the fate of a written leaf
written_fate : (leaves : ℕ) (c : Change) (i : ℕ) → is_written c i ≡ true → fate_of leaves c i ≡ Written
written_fate leaves c i e = ap (λ b. if b then Written else if is_gone leaves c i then Goes else Stays) e

-- a leaf with another fate is not written, and nothing is above it
pub unwritten_leaf : (m : BlockState) (plan : Plan) (index leaves : ℕ) (fate : Fate) → fate ≡ fate_of leaves plan.change index → (Written ≡ fate → ⊥) → (k j : ℕ) → IsOwnPosition m plan (one_block 0 index) k j → ⊥
unwritten_leaf m plan index leaves fate is other k j u =
    let l : (i : ℕ) × (is_written plan.change i ≡ true) × (index_above m.holdings.size 0 i ≡ index) = own_leaf m plan 0 index k j u in
    let at : l.0 ≡ index = sym (by_one l.0 (per_block m.holdings.size)) ∙ l.2 in
    other (sym (written_fate leaves plan.change l.0 l.1) ∙ ap (fate_of leaves plan.change) at ∙ sym is)

-- the leaves below a block
below_block : (i n index : ℕ) → 0 < n → i / n ≡ index → (index * n ≤ i) × (i < (index + 1) * n)
below_block i n index pos is =
    let low : i / n * n ≤ i = div-mul-le_self i n in
    let step : i / n < index + 1 = omega (arith, is) in
    (subst (λ x. x * n ≤ i) is low, (div-lt_iff_lt-mul pos).0 step)

-- a block whose leaves all have another fate
pub unwritten_block : (m : BlockState) (plan : Plan) (level index leaves : ℕ) (fate : Fate) → 0 < per_block m.holdings.size
    → ((i : ℕ) → index * per_block m.holdings.size ^ level ≤ i → i < (index + 1) * per_block m.holdings.size ^ level → fate_of leaves plan.change i ≡ fate) → (Written ≡ fate → ⊥)
    → (k j : ℕ) → IsOwnPosition m plan (one_block level index) k j → ⊥
unwritten_block m plan level index leaves fate pos all other k j u =
    let l : (i : ℕ) × (is_written plan.change i ≡ true) × (index_above m.holdings.size level i ≡ index) = own_leaf m plan level index k j u in
    let P : ℕ = per_block m.holdings.size in
    let b : (index * P ^ level ≤ l.0) × (l.0 < (index + 1) * P ^ level) = below_block l.0 (P ^ level) index (one-le-pow level P pos) l.2 in
    other (sym (written_fate leaves plan.change l.0 l.1) ∙ all l.0 b.0 b.1)

-- nothing was done
pub onto_none : (m n : BlockState) (before after : WorkState) (plan : Plan) (row : Row) (tops : ℕ → ℕ) → Takes [] m n → after ≡ before → ((k j : ℕ) → IsOwnPosition m plan row k j → ⊥) → ReachesOnto m n before after plan row tops
onto_none m n before after plan row tops t same out = record { adds = adds_none m n before after t same; reaches = reaches_no_work m n plan row tops out }

-- a row of no blocks
pub onto_empty : (m n : BlockState) (before after : WorkState) (plan : Plan) (level first : ℕ) (tops : ℕ → ℕ) → Takes [] m n → after ≡ before → ReachesOnto m n before after plan (record { level = level; first = first; count = 0 }) tops
onto_empty m n before after plan level first tops t same =
    onto_none m n before after plan (record { level = level; first = first; count = 0 }) tops t same (λ k j u. none_under (per_block m.holdings.size) (record { level = level; first = first; count = 0 }) k j refl u.under)

-- as a call said that gives up what lies somewhere
pub onto_given_up : (m n o : BlockState) (before after : WorkState) (plan : Plan) (inside : ℕ → ℕ → Type 0) (result : Result (Unit {0}) Stop) (row : Row) (tops : ℕ → ℕ) → Takes [] m o → GivesUp m n before after plan inside result
    → ((k j : ℕ) → IsOwnPosition m plan row k j → ⊥) → ReachesOnto m o before after plan row tops
onto_given_up m n o before after plan inside result row tops t g out =
    record { adds = adds_released m o before after g.blocks t g.is; reaches = reaches_nothing m o plan (with_released no_work g.blocks) row tops refl out }

-- ---- where something is written

-- a leaf
pub onto_leaf : (m n : BlockState) (before after : WorkState) (plan : Plan) (index p b : ℕ) → WritesLeaf m n before after p b → ReachesOnto m n before after plan (one_block 0 index) (λ x. b)
onto_leaf m n before after plan index p b w = record { adds = w.adds; reaches = reaches_leaf m m n plan index p b w.adds.added w.work }

-- one block more, over later states
pub onto_more : (m n o : BlockState) (a b c : WorkState) (plan : Plan) (level first w p : ℕ) (pointers : List ℕ) → w < length pointers
    → ReachesOnto m n a b plan (record { level = level; first = first; count = w }) (λ x. slice_index pointers (x - first)) → ReachesOnto n o b c plan (one_block level (first + w)) (λ x. p)
    → ReachesOnto m o a c plan (record { level = level; first = first; count = w + 1 }) (λ x. slice_index (set pointers w p) (x - first))
onto_more m n o a b c plan level first w p pointers low r s = record {
  adds = adds_then m n o a b c r.adds s.adds;
  reaches = reaches_next m o plan r.adds.added s.adds.added level first w p pointers low
      (reaches_later m n o plan r.adds.added (record { level = level; first = first; count = w }) (λ x. slice_index pointers (x - first)) (fresh_stay r.adds.added.fresh s.adds.added.fresh m n o r.adds.takes s.adds.takes) r.reaches)
      (reaches_sized m n o plan s.adds.added (one_block level (first + w)) (λ x. p) r.adds.takes.size r.adds.takes.count s.reaches);
}

-- the block above a row, whose pointer leads to a block where something is present
pub onto_block_there : (m n o : BlockState) (a b c : WorkState) (plan : Plan) (level index p q : ℕ) (pointers : List ℕ) (changed present : Bool) (tops : ℕ → ℕ) → 0 < level → 0 < per_block m.holdings.size → (present ≡ true → q ≢ absent)
    → IsMarked m plan (one_block level index) changed present → length pointers ≡ per_block m.holdings.size → ((x : ℕ) → x < length pointers → slice_index pointers x < 2 ^ 32)
    → ((x : ℕ) → x < per_block m.holdings.size → slice_index pointers x ≡ tops (index * per_block m.holdings.size + x))
    → ReachesOnto m n a b plan (record { level = level - 1; first = index * per_block m.holdings.size; count = per_block m.holdings.size }) tops → WritesBlock plan.order n o b c p pointers changed present q
    → ReachesOnto m o a c plan (one_block level index) (λ x. q)
onto_block_there m n o a b c plan level index p q pointers changed present tops above pos there met long small leads r w = record {
  adds = adds_then m n o a b c r.adds w.adds;
  reaches = reaches_block_at m n o plan level index p q pointers changed present tops r.adds.added w.adds.added above pos w.work there met.marked long small leads
      (fresh_stay r.adds.added.fresh w.adds.added.fresh m n o r.adds.takes w.adds.takes) r.reaches;
}

-- as it does over consistent blocks
pub onto_block : (m n o : BlockState) (a b c : WorkState) (plan : Plan) (level index p q : ℕ) (pointers : List ℕ) (changed present : Bool) (tops : ℕ → ℕ) → 0 < level → 0 < per_block m.holdings.size → IsConsistent o
    → IsMarked m plan (one_block level index) changed present → length pointers ≡ per_block m.holdings.size → ((x : ℕ) → x < length pointers → slice_index pointers x < 2 ^ 32)
    → ((x : ℕ) → x < per_block m.holdings.size → slice_index pointers x ≡ tops (index * per_block m.holdings.size + x))
    → ReachesOnto m n a b plan (record { level = level - 1; first = index * per_block m.holdings.size; count = per_block m.holdings.size }) tops → WritesBlock plan.order n o b c p pointers changed present q
    → ReachesOnto m o a c plan (one_block level index) (λ x. q)
onto_block m n o a b c plan level index p q pointers changed present tops above pos s met long small leads r w =
    onto_block_there m n o a b c plan level index p q pointers changed present tops above pos
    (block_there plan.order n o p q pointers changed present w.adds.added w.work (taken_there w.adds.added.fresh n o s w.adds.takes)) met long small leads r w

-- ---- what changed and is present

-- nothing is written
pub marked_none : (m : BlockState) (plan : Plan) (row : Row) (changed present : Bool) → ((k j : ℕ) → IsOwnPosition m plan row k j → ⊥) → IsMarked m plan row changed present
marked_none m plan row changed present out = record { marked = λ k j u. absurd (out k j u) }

-- a row of no blocks
pub marked_empty : (m : BlockState) (plan : Plan) (level first : ℕ) (changed present : Bool) → IsMarked m plan (record { level = level; first = first; count = 0 }) changed present
marked_empty m plan level first changed present =
    marked_none m plan (record { level = level; first = first; count = 0 }) changed present (λ k j u. none_under (per_block m.holdings.size) (record { level = level; first = first; count = 0 }) k j refl u.under)

-- the size alone counts of the blocks
pub marked_sized : (m o : BlockState) (plan : Plan) (row : Row) (changed present : Bool) → o.holdings.size ≡ m.holdings.size → IsMarked o plan row changed present → IsMarked m plan row changed present
marked_sized m o plan row changed present size k = record {
  marked = λ x j u. k.marked x j (record { under = subst (λ s. LiesUnder (per_block s) row x j) (sym size) u.under; above = subst (λ s. IsAbove s (IsWrittenBy plan.change) x j) (sym size) u.above });
}

-- one block more
pub marked_more : (m : BlockState) (plan : Plan) (level first w : ℕ) (changed present more there : Bool) → IsMarked m plan (record { level = level; first = first; count = w }) changed present → IsMarked m plan (one_block level (first + w)) more there
    → IsMarked m plan (record { level = level; first = first; count = w + 1 }) (changed || more) (present || there)
marked_more m plan level first w changed present more there a b = record {
  marked = λ k j u. elim (row_more (per_block m.holdings.size) level first w k j u.under) [
    | inl x ↦ let e : (changed ≡ true) × (present ≡ true) = a.marked k j (record { under = x; above = u.above }) in (ap (λ t. t || more) e.0, ap (λ t. t || there) e.1)
    | inr y ↦ let e : (more ≡ true) × (there ≡ true) = b.marked k j (record { under = y; above = u.above }) in (or_right changed more e.0, or_right present there e.1)
  ];
}

-- the block above a row
pub marked_block : (m : BlockState) (plan : Plan) (level index : ℕ) (changed present : Bool) → 0 < level → 0 < per_block m.holdings.size
    → IsMarked m plan (record { level = level - 1; first = index * per_block m.holdings.size; count = per_block m.holdings.size }) changed present → IsMarked m plan (one_block level index) changed present
marked_block m plan level index changed present above pos a = record {
  marked = λ k j u.
      let P : ℕ = per_block m.holdings.size in
      let row : Row = record { level = level - 1; first = index * P; count = P } in
      let l : (i : ℕ) × (is_written plan.change i ≡ true) × (index_above m.holdings.size level i ≡ index) = own_leaf m plan level index k j u in
      let next : suc (level - 1) ≡ level = omega (arith, above) in
      let up : index_above m.holdings.size (level - 1) l.0 / P ≡ index = above_next m.holdings.size (level - 1) l.0 ∙ ap (λ x. index_above m.holdings.size x l.0) next ∙ l.2 in
      let b : (index * P ≤ index_above m.holdings.size (level - 1) l.0) × (index_above m.holdings.size (level - 1) l.0 < (index + 1) * P) = below_block (index_above m.holdings.size (level - 1) l.0) P index pos up in
      a.marked (level - 1) (index_above m.holdings.size (level - 1) l.0)
      (record { under = row_own P row (index_above m.holdings.size (level - 1) l.0) b.0 (omega (arith, b.1)); above = record { leaf = l.0; one = l.1; above = refl } });
}

-- ---- the whole

-- a prepared change whose blocks are all different reaches its written leaves
pub reached_prepared : (m n : BlockState) (plan : Plan) (p : Preparation) → 0 < m.holdings.size → 0 < per_block m.holdings.size → IsChange m.holdings.size plan.change → p.change ≡ plan.change → length p.root.pointers ≡ 16
    → p.root.levels ≡ levels_for m.holdings.size (leaves_after m.holdings.size plan.change) → Distinct (all_blocks p.work)
    → ReachesOnto m n no_work p.work plan (record { level = p.root.levels; first = 0; count = 16 }) (slice_index p.root.pointers) → IsReached m n plan p
reached_prepared m n plan p some pos change changes long levels distinct r =
    let size : ℕ = m.holdings.size in
    let leaves : ℕ = leaves_after size plan.change in
    let same : p.work ≡ r.adds.added = r.adds.is in
    let far : leaves ≤ reach size (levels_for size leaves) = levels_for-reach size leaves 5 (omega arith) (leaves-reached size plan.change some change) in
    let at : reach size (levels_for size leaves) ≡ 16 * per_block size ^ p.root.levels = ap (reach size) (sym levels) in
    record {
      change = changes;
      reaches = subst (λ (w : WorkState). Reaches m n plan w (record { level = p.root.levels; first = 0; count = 16 }) (slice_index p.root.pointers)) (sym same) r.reaches;
      distinct = distinct;
      takes = subst (λ (w : WorkState). Takes w.fresh m n) (sym same) r.adds.takes;
      kept = λ b h. r.adds.kept b (subst (λ (w : WorkState). is_in w.kept b ≡ true) same h);
      long = long;
      words = pos;
      below = λ i e. omega (arith, change.below i e, far, at);
    }

-- so it leaves them ready once it is committed
pub ready_prepared : (m n now : BlockState) (plan : Plan) (p : Preparation) → 0 < m.holdings.size → 0 < per_block m.holdings.size → IsChange m.holdings.size plan.change → p.change ≡ plan.change → length p.root.pointers ≡ 16
    → p.root.levels ≡ levels_for m.holdings.size (leaves_after m.holdings.size plan.change) → Distinct (all_blocks p.work)
    → ReachesOnto m n no_work p.work plan (record { level = p.root.levels; first = 0; count = 16 }) (slice_index p.root.pointers) → OwnAsLeft p n now → IsReadyApart plan.order (committed now p) p.root (IsWrittenBy p.change)
ready_prepared m n now plan p some pos change changes long levels distinct r left = ready_node m n now plan p (reached_prepared m n plan p some pos change changes long levels distinct r) left

-- and their blocks are those of the change
pub stand_prepared : (m n now : BlockState) (plan : Plan) (p : Preparation) → 0 < m.holdings.size → 0 < per_block m.holdings.size → IsChange m.holdings.size plan.change → p.change ≡ plan.change → length p.root.pointers ≡ 16
    → p.root.levels ≡ levels_for m.holdings.size (leaves_after m.holdings.size plan.change) → Distinct (all_blocks p.work)
    → ReachesOnto m n no_work p.work plan (record { level = p.root.levels; first = 0; count = 16 }) (slice_index p.root.pointers) → OwnAsLeft p n now → StandIn plan.order (committed now p) p.root (IsWrittenBy p.change) (blocks_of p)
stand_prepared m n now plan p some pos change changes long levels distinct r left = stand_node m n now plan p (reached_prepared m n plan p some pos change changes long levels distinct r) left
