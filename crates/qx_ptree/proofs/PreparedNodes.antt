-- A node whose parts were prepared is prepared: its commit makes of it what the change makes of it.
use Rattle.std.proofs.Common.{◌≡◌, ◌≢◌, ℕ, ◌≤◌, ◌⊎◌, inl, inr, List, ◌++◌, length, refl, sym, ◌∙◌, ap, subst, arith}
use Rattle.std.specs.Prelude.{Bool, true, false, ◌==◌, nat_lt, if◌then◌else◌, IsTrue, Contains}
use Rattle.std.specs.List.{list_any}
use Rattle.std.proofs.lemmas.Bool.{or_right as or_second}
use Rattle.qx_geom.specs.declared.root.Root.{Root}
use Rattle.qx_geom.specs.Lists.{is_in}
use Rattle.qx_geom.specs.Pointer.{absent}
use Rattle.qx_geom.specs.Positions.{has_position, index_above}
use Rattle.qx_geom.specs.Touch.{changed_leaves, is_touched, leaves_without}
use Rattle.qx_geom.proofs.ImagesAndFilters.{any_image}
use Rattle.qx_geom.proofs.LeastTouch.{has_above}
use Rattle.qx_geom.proofs.Members.{in_append_cases, in_left}
use Rattle.qx_nodes.specs.Content.{leaf_bytes}
use Rattle.qx_nodes.specs.ForeignNodes.{is_foreign_node}
use Rattle.qx_nodes.specs.Visits.{Visit, present_of, visits_of}
use Rattle.qx_blocks.specs.BlockState.{BlockState, IsConsistent}
use Rattle.qx_ptree.specs.declared.plan.Plan.{Plan}
use Rattle.qx_ptree.specs.Alterations.{Alteration, fresh_count, shape_in}
use Rattle.qx_ptree.specs.Altered.{Alters, AsLeft, IsPrepared, keeps_block, takes_fresh}
use Rattle.qx_ptree.specs.Building.{BuildsTree, IsOldPosition, IsPlaced, Shows, is_kept}
use Rattle.qx_ptree.specs.Fates.{is_written}
use Rattle.qx_ptree.specs.Parts.{fresh_below}
use Rattle.qx_ptree.specs.Plans.{IsPlan, alteration_in, planned_pointer}
use Rattle.qx_ptree.specs.Takings.{Adds, Takes}
use Rattle.qx_ptree.specs.Trees.{block_map, pointer_at}
use Rattle.qx_ptree.specs.WorkState.{WorkState, and_then, blocks_of, no_work}
use Rattle.qx_ptree.proofs.BuiltBlocks.{altered_ascends}
use Rattle.qx_ptree.proofs.BuiltNodes.{IsBuilt, blocks_after, built, kept-old, map_with, old-visit, own-fresh-block, own-kept-block, own_row, lost-released, released-lost, stale-keeps}
use Rattle.qx_ptree.proofs.CommitSteps.{committed-count, committed-size}
use Rattle.qx_ptree.proofs.CommittedBlocks.{committed-fresh, committed-fresh-ready, committed-fresh-works, committed-kept-ready, committed-lost, committed-old, committed-old-private, committed-old-works, committed-shows, kept-own}
use Rattle.qx_ptree.proofs.FreshPositions.{each_stands}
use Rattle.qx_ptree.proofs.LeafParts.{in_written-is, written-present}
use Rattle.qx_ptree.proofs.MetPositions.{IsAt, visit_at}
use Rattle.qx_ptree.proofs.NewNodes.{new-leaf-bytes, new-native, new-present, new-visits-apart, old-leaf-bytes, visit-there}
use Rattle.qx_ptree.proofs.NewPositions.{new-apart, placed}
use Rattle.qx_ptree.proofs.PointerCounts.{size_positive, words_positive}
use Rattle.qx_ptree.proofs.SumsBelow.{sum_by-below, sum_up_to}
use Rattle.qx_ptree.proofs.WholeNeed.{new-reached, whole-need}

-- ---- the need

-- a change takes as many fresh blocks as it needs
as-needed : (m n : BlockState) (plan : Plan) (root : Root) (outside : List ℕ) (rest : WorkState) → IsBuilt m n plan root outside rest → length rest.fresh ≡ fresh_count (alteration_in plan m)
as-needed m n plan root outside rest b =
    let a : Alteration = alteration_in plan m in
    b.builds.count ∙ sum_by-below (fresh_below a root.levels) 16 ∙ ap (λ l. sum_up_to 16 (fresh_below a l)) b.levels
    ∙ sym (whole-need a (words_positive m.holdings.size b.told.consistent.size) (new-reached m.holdings.size (shape_in (block_map plan.order m) plan.node) plan.change (size_positive m.holdings.size b.told.consistent.size) b.told.met.change))

-- ---- what the commit makes

module _ (m n : BlockState) (plan : Plan) (root : Root) (outside : List ℕ) (rest : WorkState) (b : IsBuilt m n plan root outside rest)
    (mid : BlockState) (left : AsLeft plan.order (built plan root outside rest) n mid) where
  -- the blocks are as long as before
  long-as : (blocks_after plan root outside rest mid).holdings.size ≡ m.holdings.size
  long-as = committed-size mid (built plan root outside rest) ∙ left.size ∙ b.takes.size

  -- so pointers speak of the same blocks, but for their bytes
  same-map : block_map plan.order (blocks_after plan root outside rest mid) ≡ map_with m plan (blocks_after plan root outside rest mid).bytes
  same-map = λ t. record {
    order = plan.order;
    size = long-as t;
    count = (committed-count mid (built plan root outside rest) ∙ left.count ∙ b.takes.count) t;
    bytes = (blocks_after plan root outside rest mid).bytes;
  }

  -- what was prepared has come about
  shown : Shows m n plan rest (own_row root) (blocks_after plan root outside rest mid).bytes
  shown = committed-shows m n plan root outside rest b mid left

  -- each pointer is the one that the change makes of it
  at-place : (k j : ℕ) → IsPlaced m n plan rest k j (pointer_at (block_map plan.order (blocks_after plan root outside rest mid)) root k j)
  at-place k j = subst (λ t. IsPlaced m n plan rest k j (pointer_at t root k j)) (sym same-map) (placed m n plan root outside rest b (blocks_after plan root outside rest mid).bytes shown k j)

  -- a visit of the new node is one of these blocks
  met-again : (v : Visit) → Contains (visits_of (block_map plan.order (blocks_after plan root outside rest mid)) root) v
      → Contains (visits_of (map_with m plan (blocks_after plan root outside rest mid).bytes) root) v
  met-again v c = subst (λ t. Contains (visits_of t root) v) same-map c

  -- the working tree holds the block at each position
  works-at : (k j q : ℕ) → IsPlaced m n plan rest k j q → has_position m.holdings.size (alteration_in plan m).new k j ≡ true → IsTrue ((blocks_after plan root outside rest mid).holdings.works q)
  works-at k j q at there = go (takes_fresh (alteration_in plan m) k j) refl
    where
      go : (t : Bool) → takes_fresh (alteration_in plan m) k j ≡ t → IsTrue ((blocks_after plan root outside rest mid).holdings.works q)
      go true e = committed-fresh-works m n plan root outside rest b mid left q (at.fresh there e)
      go false e = let keeps = stale-keeps (alteration_in plan m) k j there e in subst (λ x. IsTrue ((blocks_after plan root outside rest mid).holdings.works x)) (sym (at.stays keeps)) (committed-old-works m n plan root outside rest b mid left k j keeps)

  -- a touched one is ready
  ready-at : (k j q : ℕ) → IsPlaced m n plan rest k j q → has_position m.holdings.size (alteration_in plan m).new k j ≡ true
      → (let a = alteration_in plan m in is_touched a.blocksize a.old a.new a.written k j ≡ true) → IsTrue ((blocks_after plan root outside rest mid).holdings.ready q)
  ready-at k j q at there touched = go (takes_fresh (alteration_in plan m) k j) refl
    where
      go : (t : Bool) → takes_fresh (alteration_in plan m) k j ≡ t → IsTrue ((blocks_after plan root outside rest mid).holdings.ready q)
      go true e = committed-fresh-ready m n plan root outside rest b mid left q (at.fresh there e)
      go false e =
          let keeps = stale-keeps (alteration_in plan m) k j there e in
          let kept : is_kept (alteration_in plan m) k j ≡ true = λ t. if keeps t then touched t else false in
          subst (λ x. IsTrue ((blocks_after plan root outside rest mid).holdings.ready x)) (sym (at.stays keeps)) (committed-kept-ready m n plan root outside rest b mid left k j kept)

  -- and one of the change's
  own-at : (k j q : ℕ) → IsPlaced m n plan rest k j q → has_position m.holdings.size (alteration_in plan m).new k j ≡ true
      → (let a = alteration_in plan m in is_touched a.blocksize a.old a.new a.written k j ≡ true) → is_in (blocks_of (built plan root outside rest)) q ≡ true
  own-at k j q at there touched = go (takes_fresh (alteration_in plan m) k j) refl
    where
      go : (t : Bool) → takes_fresh (alteration_in plan m) k j ≡ t → is_in (blocks_of (built plan root outside rest)) q ≡ true
      go true e = own-fresh-block outside rest q (at.fresh there e)
      go false e =
          let keeps = stale-keeps (alteration_in plan m) k j there e in
          let kept : is_kept (alteration_in plan m) k j ≡ true = λ t. if keeps t then touched t else false in
          subst (λ x. is_in (blocks_of (built plan root outside rest)) x ≡ true) (sym (at.stays keeps)) (own-kept-block outside rest (planned_pointer plan m k j) (kept-own m n plan root outside rest b mid left k j kept))

  -- above a written leaf stands a position at each level
  written-there : (i k : ℕ) → is_written plan.change i ≡ true → k ≤ root.levels → has_position m.holdings.size (alteration_in plan m).new k (index_above m.holdings.size k i) ≡ true
  written-there i k w level = has_above m.holdings.size (alteration_in plan m).new k i (omega (arith, level, b.levels)) (written-present m.holdings.size (shape_in (block_map plan.order m) plan.node) plan.change i w)

  -- which is touched
  written-touched : (i k : ℕ) → is_written plan.change i ≡ true → (let a = alteration_in plan m in is_touched a.blocksize a.old a.new a.written k (index_above m.holdings.size k i) ≡ true)
  written-touched i k w =
      let a : Alteration = alteration_in plan m in
      let j : ℕ = index_above m.holdings.size k i in
      let changed : is_in (changed_leaves a.old a.new a.written) i ≡ true = in_left a.written (leaves_without a.new a.old ++ leaves_without a.old a.new) i (in_written-is plan.change i ∙ w) in
      or_second (nat_lt a.old.levels k) (list_any (λ x. index_above a.blocksize k x == j) (changed_leaves a.old a.new a.written)) (any_image (index_above a.blocksize k) j (changed_leaves a.old a.new a.written) i changed refl)

  -- a leaf has the bytes that stood there
  bytes-at : (i : ℕ) → has_position m.holdings.size (alteration_in plan m).new 0 i ≡ true
      → leaf_bytes (map_with m plan (blocks_after plan root outside rest mid).bytes) root i ≡ leaf_bytes (block_map plan.order m) plan.node i
  bytes-at i there = new-leaf-bytes m n plan root outside rest b (blocks_after plan root outside rest mid).bytes shown i there ∙ go (takes_fresh (alteration_in plan m) 0 i) refl
    where
      q : ℕ
      q = pointer_at (map_with m plan (blocks_after plan root outside rest mid).bytes) root 0 i

      at : IsPlaced m n plan rest 0 i q
      at = placed m n plan root outside rest b (blocks_after plan root outside rest mid).bytes shown 0 i

      go : (t : Bool) → takes_fresh (alteration_in plan m) 0 i ≡ t → (blocks_after plan root outside rest mid).bytes q ≡ leaf_bytes (block_map plan.order m) plan.node i
      go true e = committed-fresh m n plan root outside rest b mid left q (at.fresh there e) ∙ at.bytes refl there e
      go false e =
          let keeps = stale-keeps (alteration_in plan m) 0 i there e in
          ap (blocks_after plan root outside rest mid).bytes (at.stays keeps) ∙ committed-old m n plan root outside rest b mid left 0 i keeps (λ kept above. omega (arith, above))
          ∙ sym (old-leaf-bytes m n plan root outside rest b (blocks_after plan root outside rest mid).bytes shown i (kept-old m n plan root outside rest b 0 i keeps))

  -- the node has become the one that the change makes of it
  pub alters : Alters plan.order m (built plan root outside rest) (blocks_after plan root outside rest mid)
  alters = record {
    blocksize = long-as;
    size = b.size;
    levels = b.levels;
    present = ap (λ t. present_of t root) same-map ∙ new-present m n plan root outside rest b (blocks_after plan root outside rest mid).bytes shown;
    works = λ v c.
        let at = visit-there m n plan root outside rest b (blocks_after plan root outside rest mid).bytes shown v (met-again v c) in
        works-at v.level v.index v.block (subst (λ q. IsPlaced m n plan rest v.level v.index q) (sym at.0) (placed m n plan root outside rest b (blocks_after plan root outside rest mid).bytes shown v.level v.index)) at.1;
    regular = record {
      plain = ap (λ t. is_foreign_node t root) same-map ∙ new-native m n plan root outside rest b (blocks_after plan root outside rest mid).bytes shown;
      apart = λ u v c d is. new-visits-apart m n plan root outside rest b (blocks_after plan root outside rest mid).bytes shown u v (met-again u c) (met-again v d) is;
    };
    stays = λ k j keeps. (at-place k j).stays keeps;
    fresh = λ k j there f. (at-place k j).fresh there f;
    all_fresh = λ q f. each_stands (alteration_in plan m) (pointer_at (block_map plan.order (blocks_after plan root outside rest mid)) root) rest.fresh (altered_ascends m plan b.told) (as-needed m n plan root outside rest b)
        (λ k j there f. (at-place k j).fresh there f)
        (λ k j h i there too is. new-apart m n plan root outside rest b (blocks_after plan root outside rest mid).bytes shown k j h i there too
        ((λ t. pointer_at (sym same-map t) root k j) ∙ is ∙ (λ t. pointer_at (same-map t) root h i))) q f;
    bytes = λ i there. ap (λ t. leaf_bytes t root i) same-map ∙ bytes-at i there;
    ready = λ i w k level.
        subst (λ s. IsTrue ((blocks_after plan root outside rest mid).holdings.ready (pointer_at (block_map plan.order (blocks_after plan root outside rest mid)) root k (index_above s k i)))) (sym long-as)
        (ready-at k (index_above m.holdings.size k i) (pointer_at (block_map plan.order (blocks_after plan root outside rest mid)) root k (index_above m.holdings.size k i)) (at-place k (index_above m.holdings.size k i)) (written-there i k w level) (written-touched i k w));
    own = λ i k w level. own-at k (index_above m.holdings.size k i) (pointer_at (block_map plan.order (blocks_after plan root outside rest mid)) root k (index_above m.holdings.size k i)) (at-place k (index_above m.holdings.size k i)) (written-there i k w level) (written-touched i k w);
    given_up = λ v c lost.
        let at : IsAt (block_map plan.order m) plan.node v = visit_at (block_map plan.order m) plan.node v c in
        ap (blocks_after plan root outside rest mid).holdings.works at.block ∙ committed-lost m n plan root outside rest b mid left v.level v.index (λ e. at.there (at.block ∙ e)) lost;
    fresh_ready = λ k j there f. committed-fresh-ready m n plan root outside rest b mid left (pointer_at (block_map plan.order (blocks_after plan root outside rest mid)) root k j) ((at-place k j).fresh there f);
    stays_private = λ k j keeps. ap (blocks_after plan root outside rest mid).holdings.private ((at-place k j).stays keeps) ∙ committed-old-private m n plan root outside rest b mid left k j keeps;
  }

-- ---- the preparation

module _ (m n : BlockState) (plan : Plan) (root : Root) (outside : List ℕ) (rest : WorkState) (b : IsBuilt m n plan root outside rest) where
  -- a block of the old node, by its position
  its-visit : (k j q : ℕ) → planned_pointer plan m k j ≡ q → planned_pointer plan m k j ≢ absent → (v : Visit) × Contains (visits_of (block_map plan.order m) plan.node) v × (v.block ≡ q)
  its-visit k j q is there = (record { level = k; index = j; block = planned_pointer plan m k j }, old-visit m n plan root outside rest b k j there, is)

  -- its other blocks are the node's
  its-blocks : (q : ℕ) → is_in (blocks_of (built plan root outside rest)) q ≡ true → (is_in rest.fresh q ≡ true) ⊎ ((v : Visit) × Contains (visits_of (block_map plan.order m) plan.node) v × (v.block ≡ q))
  its-blocks q h = elim (in_append_cases rest.fresh (rest.kept ++ (outside ++ rest.released)) q h) [
    | inl f ↦ inl f
    | inr other ↦ elim (in_append_cases rest.kept (outside ++ rest.released) q other) [
      | inl k ↦
          let o : (k : ℕ) × (j : ℕ) × IsOldPosition m plan (own_row root) k j q × (is_kept (alteration_in plan m) k j ≡ true) = b.builds.only_kept q k in
          inr (its-visit o.0 o.1 q o.2.pointer (λ e. o.2.present (sym o.2.pointer ∙ e)))
      | inr g ↦
          let r : (k : ℕ) × (j : ℕ) × (planned_pointer plan m k j ≡ q) × (planned_pointer plan m k j ≢ absent) × (keeps_block (alteration_in plan m) k j ≡ false) = released-lost m n plan root outside rest b q g in
          inr (its-visit r.0 r.1 q r.2 r.3)
    ]
  ]

  -- so it is prepared
  is-prepared : IsPrepared plan.order m n (built plan root outside rest)
  is-prepared = record {
    change = b.told.met.change;
    sixteen = b.long;
    need = as-needed m n plan root outside rest b;
    blocks = its-blocks;
    released = λ q g.
        let r : (k : ℕ) × (j : ℕ) × (planned_pointer plan m k j ≡ q) × (planned_pointer plan m k j ≢ absent) × (keeps_block (alteration_in plan m) k j ≡ false) = released-lost m n plan root outside rest b q g in
        (record { level = r.0; index = r.1; block = planned_pointer plan m r.0 r.1 }, old-visit m n plan root outside rest b r.0 r.1 r.3, r.2, r.4);
    lost = λ v c gone.
        let at : IsAt (block_map plan.order m) plan.node v = visit_at (block_map plan.order m) plan.node v c in
        ap (is_in (outside ++ rest.released)) at.block ∙ lost-released m n plan root outside rest b v.level v.index (λ e. at.there (at.block ∙ e)) gone;
    commits = λ mid left. alters m n plan root outside rest b mid left;
  }

-- where the parts of a node were prepared below the new pointers, and what stands elsewhere is to be given up, the node is prepared
pub tree-is-prepared : (m n : BlockState) (plan : Plan) (work : WorkState) (root : Root) → IsConsistent m → IsConsistent n → length root.pointers ≡ 16 → IsPlan m plan → IsTrue n.tells
    → Takes work.fresh m n → ((q : ℕ) → is_in work.kept q ≡ true → IsTrue (n.holdings.ready q)) → BuildsTree m n plan work root
    → IsPrepared plan.order m n (record { node = plan.node; change = plan.change; root = root; work = work })
tree-is-prepared m n plan work root before after long_after met tells takes ready tree =
    subst (λ w. IsPrepared plan.order m n (record { node = plan.node; change = plan.change; root = root; work = w })) (sym tree.is)
    (is-prepared m n plan root tree.outside tree.rest (record {
      told = record { consistent = before; met = met; told = takes.told_before tells };
      after = after;
      tells = tells;
      long = long_after;
      takes = subst (λ w. Takes w.fresh m n) tree.is takes;
      ready = λ q k. ready q (subst (λ w. is_in w.kept q ≡ true) (sym tree.is) k);
      size = tree.size;
      levels = tree.levels;
      gone = tree.gone;
      builds = tree.builds;
    }))

-- ---- where the work was added to none

-- it is what was added
added-is : (m n : BlockState) (before work : WorkState) → before ≡ no_work → (adds : Adds m n before work) → work ≡ adds.added
added-is m n before work none adds = adds.is ∙ ap (λ w. and_then w adds.added) none

-- so its fresh blocks were taken
pub added-takes : (m n : BlockState) (before work : WorkState) → before ≡ no_work → Adds m n before work → Takes work.fresh m n
added-takes m n before work none adds = subst (λ w. Takes w.fresh m n) (sym (added-is m n before work none adds)) adds.takes

-- and the node is prepared
pub added-is-prepared : (m n : BlockState) (plan : Plan) (before work : WorkState) (root : Root) → IsConsistent m → IsConsistent n → length root.pointers ≡ 16 → IsPlan m plan → IsTrue n.tells
    → before ≡ no_work → (adds : Adds m n before work) → BuildsTree m n plan adds.added root
    → IsPrepared plan.order m n (record { node = plan.node; change = plan.change; root = root; work = work })
added-is-prepared m n plan before work root sound after long_after met tells none adds tree =
    subst (λ w. IsPrepared plan.order m n (record { node = plan.node; change = plan.change; root = root; work = w })) (sym (added-is m n before work none adds))
    (tree-is-prepared m n plan adds.added root sound after long_after met tells adds.takes adds.kept tree)
