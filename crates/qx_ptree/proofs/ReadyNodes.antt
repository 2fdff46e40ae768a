-- A committed node: its written leaves and the pointer blocks above them are ready, and stand at one position each.
use Rattle.std.proofs.Common.{◌≡◌, ℕ, ◌+◌, ◌*◌, ◌-◌, ◌^◌, ◌/◌, ◌<◌, ◌≤◌, inl, inr, List, ◌++◌, append_assoc, length, refl, sym, ◌∙◌, ap, subst, arith}
use Rattle.std.specs.Prelude.{true, false, slice_index, slice_index_or, IsTrue}
use Rattle.std.proofs.Math.Nat.{div-div-eq-div-mul, div-lt_iff_lt-mul, one-le-pow}
use Rattle.std.proofs.lemmas.List.{get_or_default}
use Rattle.std.proofs.lemmas.Nat.{pow-add}
use Rattle.std.proofs.lemmas.Bool.{or_right}
use Rattle.qx_geom.proofs.Members.{in_append_cases, in_left, in_right}
use Rattle.qx_geom.specs.Lists.{Distinct, is_in}
use Rattle.qx_geom.specs.Pointer.{absent, per_block}
use Rattle.qx_nodes.specs.BlockMap.{BlockMap}
use Rattle.qx_blocks.specs.BlockState.{BlockState, Holdings}
use Rattle.qx_ptree.specs.declared.plan.Plan.{Plan}
use Rattle.qx_ptree.specs.Building.{Row, new_pointer, pointer_down}
use Rattle.qx_ptree.specs.Fates.{is_written}
use Rattle.qx_ptree.specs.Reaching.{IsOwnPosition, Reaches, ShowsOwn, own_blocks}
use Rattle.qx_ptree.specs.ReadyLeaves.{IsAbove, IsReadyApart, IsWrittenBy, OwnAsLeft, StandIn}
use Rattle.qx_ptree.specs.Takings.{LeavesOthers, Takes}
use Rattle.qx_ptree.specs.Trees.{block_map, pointer_at}
use Rattle.qx_ptree.specs.WorkState.{EditState, Preparation, WorkState, all_blocks, blocks_of, committed, with_edits}
use Rattle.qx_ptree.proofs.DistinctBlocks.{distinct_apart_lists, distinct_left}
use Rattle.qx_ptree.proofs.EditedBlocks.{edits_give, edits_holdings}
use Rattle.qx_ptree.proofs.OtherBlocks.{LeavesOthers-with_edits, LeavesOthers-without_all}
use Rattle.qx_ptree.proofs.PointersByPosition.{at_from}
use Rattle.qx_ptree.proofs.NewPositions.{from-down}

-- ---- the node's pointers

-- of the leaves below 16 blocks, each stands below one of them
few_above : (i P l : ℕ) → 0 < P → i < 16 * P ^ l → i / P ^ l < 16
few_above i P l pos low = (div-lt_iff_lt-mul (one-le-pow l P pos)).1 low

-- ---- the work of a change

-- the blocks that stay are blocks of the work
own_all : (work : WorkState) (b : ℕ) → is_in (own_blocks work) b ≡ true → is_in (all_blocks work) b ≡ true
own_all work b h = elim (in_append_cases work.fresh work.kept b h) [
  | inl fresh ↦ in_left work.fresh (work.kept ++ work.released) b fresh
  | inr kept ↦ in_right work.fresh (work.kept ++ work.released) b (in_left work.kept work.released b kept)
]

-- they are distinct where all are
own_distinct : (work : WorkState) → Distinct (all_blocks work) → Distinct (own_blocks work)
own_distinct work d = distinct_left (own_blocks work) work.released (subst (λ (l : List ℕ). Distinct l) (sym (append_assoc work.fresh work.kept work.released)) d)

-- and none of them is to be given up
own_stays : (work : WorkState) (b : ℕ) → Distinct (all_blocks work) → is_in (own_blocks work) b ≡ true → is_in work.released b ≡ false
own_stays work b d h = distinct_apart_lists (own_blocks work) work.released b (subst (λ (l : List ℕ). Distinct l) (sym (append_assoc work.fresh work.kept work.released)) d) h

-- ---- the committed node

-- from the blocks m to the blocks n a change was prepared that reaches its written leaves, and all its blocks are different
pub record IsReached (m n : BlockState) (plan : Plan) (p : Preparation) : Type 0 where
  pub change : p.change ≡ plan.change
  pub reaches : Reaches m n plan p.work (record { level = p.root.levels; first = 0; count = 16 }) (slice_index p.root.pointers)
  pub distinct : Distinct (all_blocks p.work)
  pub takes : Takes p.work.fresh m n
  pub kept : (b : ℕ) → is_in p.work.kept b ≡ true → IsTrue (n.holdings.ready b)
  pub long : length p.root.pointers ≡ 16
  pub words : 0 < per_block m.holdings.size
  pub below : (i : ℕ) → is_written plan.change i ≡ true → i < 16 * per_block m.holdings.size ^ p.root.levels

module _ (m n now : BlockState) (plan : Plan) (p : Preparation) (r : IsReached m n plan p) (left : OwnAsLeft p n now) where
  -- the pointers of the node
  abbrev row : Row
  row = record { level = p.root.levels; first = 0; count = 16 }

  -- what is given up leaves the other blocks as they are
  others : LeavesOthers p.work.released (with_edits now p.work.edits) (committed now p)
  others = LeavesOthers-without_all p.work.released (with_edits now p.work.edits) p.work.released (λ b h. h)

  -- the blocks are as many, and as large
  same_size : (committed now p).holdings.size ≡ m.holdings.size
  same_size = others.size ∙ ap (λ (h : Holdings). h.size) (edits_holdings now p.work.edits) ∙ left.size ∙ r.takes.size

  same_count : (committed now p).holdings.count ≡ m.holdings.count
  same_count = others.count ∙ ap (λ (h : Holdings). h.count) (edits_holdings now p.work.edits) ∙ left.count ∙ r.takes.count

  -- a block that stays was ready
  own_ready : (b : ℕ) → is_in (own_blocks p.work) b ≡ true → IsTrue (n.holdings.ready b)
  own_ready b h = elim (in_append_cases p.work.fresh p.work.kept b h) [
    | inl fresh ↦ r.takes.ready b (or_right (m.holdings.ready b) (is_in p.work.fresh b) fresh)
    | inr kept ↦ r.kept b kept
  ]

  -- and is
  stays_ready : (b : ℕ) → is_in (own_blocks p.work) b ≡ true → IsTrue ((committed now p).holdings.ready b)
  stays_ready b h =
      others.ready b (own_stays p.work b r.distinct h) ∙ ap (λ (g : Holdings). g.ready b) (edits_holdings now p.work.edits) ∙ left.ready b (own_all p.work b h) (own_ready b h)

  -- what was prepared has come about
  shows : ShowsOwn n p.work (committed now p).bytes
  shows = record {
    fresh = λ b h.
        let own : is_in (own_blocks p.work) b ≡ true = in_left p.work.fresh p.work.kept b h in
        let edited : LeavesOthers p.work.kept now (with_edits now p.work.edits) = LeavesOthers-with_edits p.work.kept now p.work.edits r.reaches.edits.kept in
        others.bytes b (own_stays p.work b r.distinct own) ∙ edited.bytes b (distinct_apart_lists p.work.fresh p.work.kept b (own_distinct p.work r.distinct) h) ∙ left.bytes b (own_all p.work b own) (own_ready b own);
    edits = λ e c.
        others.bytes e.block (own_stays p.work e.block r.distinct (in_right p.work.fresh p.work.kept e.block (r.reaches.edits.kept e c)))
        ∙ edits_give now p.work.edits e c (λ f g is. ap (λ (x : EditState). x.bytes) (r.reaches.edits.once (own_distinct p.work r.distinct) f e g c is));
  }

  -- a position at a written leaf or above one lies below the node's pointers
  own_position : (k j : ℕ) → k ≤ p.root.levels → IsAbove (committed now p).holdings.size (IsWrittenBy p.change) k j → IsOwnPosition m plan row k j
  own_position k j h a =
      let P : ℕ = per_block m.holdings.size in
      let i : ℕ = a.leaf in
      let d : ℕ = p.root.levels - k in
      let levels : k + d ≡ p.root.levels = omega (arith, h) in
      let above : i / P ^ k ≡ j = subst (λ s. i / per_block s ^ k ≡ j) same_size a.above in
      let up : i / P ^ k / P ^ d ≡ i / P ^ p.root.levels = div-div-eq-div-mul i (P ^ k) (P ^ d) ∙ ap (λ q. i / q) (sym (pow-add P k d) ∙ ap (λ e. P ^ e) levels) in
      let one : is_written plan.change i ≡ true = subst (λ c. is_written c i ≡ true) r.change a.one in
      let few : i / P ^ p.root.levels < 16 = few_above i P p.root.levels r.words (r.below i one) in
      let is : j / P ^ d ≡ i / P ^ p.root.levels = ap (λ x. x / P ^ d) (sym above) ∙ up in
      record { under = record { level = h; from = omega arith; to = omega (arith, few, is) }; above = record { leaf = i; one = one; above = above } }

  -- the pointer to it
  own_pointer : (k j : ℕ) → IsOwnPosition m plan row k j → pointer_at (block_map plan.order (committed now p)) p.root k j ≡ new_pointer m plan row (slice_index p.root.pointers) (committed now p).bytes k j
  own_pointer k j u =
      let t : BlockMap = block_map plan.order (committed now p) in
      let d : ℕ = p.root.levels - k in
      at_from t p.root k j d u.under.level refl ∙ from-down t p.root d j
      ∙ (λ i. pointer_down (record { order = plan.order; size = same_size i; count = same_count i; bytes = (committed now p).bytes }) d (slice_index_or p.root.pointers (j / per_block (same_size i) ^ d) absent) j)
      ∙ ap (λ x. pointer_down (record { order = plan.order; size = m.holdings.size; count = m.holdings.count; bytes = (committed now p).bytes }) d x j)
      (sym (get_or_default p.root.pointers (j / per_block m.holdings.size ^ d) 0 absent (omega (arith, u.under.to, r.long))))

  -- so the node's written leaves can be written at once
  pub ready_node : IsReadyApart plan.order (committed now p) p.root (IsWrittenBy p.change)
  ready_node = record {
    ready = λ k j h a.
        let u : IsOwnPosition m plan row k j = own_position k j h a in
        subst (λ x. IsTrue ((committed now p).holdings.ready x)) (sym (own_pointer k j u)) (stays_ready (new_pointer m plan row (slice_index p.root.pointers) (committed now p).bytes k j) (r.reaches.own (committed now p).bytes shows k j u));
    apart = λ k j h i low high a b same.
        let u : IsOwnPosition m plan row k j = own_position k j low a in
        let v : IsOwnPosition m plan row h i = own_position h i high b in
        r.reaches.apart (committed now p).bytes shows (own_distinct p.work r.distinct) k j h i u v (sym (own_pointer k j u) ∙ same ∙ own_pointer h i v);
  }

  -- and their blocks are those of the change
  pub stand_node : StandIn plan.order (committed now p) p.root (IsWrittenBy p.change) (blocks_of p)
  stand_node = record {
    own = λ k j h a.
        let u : IsOwnPosition m plan row k j = own_position k j h a in
        own_all p.work (pointer_at (block_map plan.order (committed now p)) p.root k j) (subst (λ x. is_in (own_blocks p.work) x ≡ true) (sym (own_pointer k j u)) (r.reaches.own (committed now p).bytes shows k j u));
  }
