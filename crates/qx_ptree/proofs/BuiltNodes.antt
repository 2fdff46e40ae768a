-- The blocks of a node for which a change was prepared: which stay, which are given up, which get other bytes, which are fresh.
use Rattle.std.proofs.Common.{◌≡◌, ◌≢◌, ℕ, ◌+◌, ◌*◌, ◌-◌, ◌/◌, ◌^◌, ◌<◌, ◌≤◌, inl, inr, List, ◌++◌, length, refl, sym, ◌∙◌, ap, subst, arith}
use Rattle.std.specs.Prelude.{Bool, true, false, not, ◌&&◌, ◌==◌, if◌then◌else◌, IsTrue, Contains, slice_index}
use Rattle.std.proofs.Math.Nat.{div-div-eq-div-mul}
use Rattle.std.proofs.lemmas.Bool.{cases_lt, eq-eqb, not-false}
use Rattle.std.proofs.lemmas.Nat.{div_below, pow-add}
use Rattle.qx_geom.specs.declared.root.Root.{Root}
use Rattle.qx_geom.specs.Lists.{is_in}
use Rattle.qx_geom.specs.Pointer.{absent, per_block}
use Rattle.qx_geom.specs.Positions.{has_position, index_above}
use Rattle.qx_geom.specs.Touch.{is_touched}
use Rattle.qx_geom.proofs.LeastTouch.{leaf_below}
use Rattle.qx_geom.proofs.Members.{in_append_cases, in_left, in_right}
use Rattle.qx_geom.proofs.Truths.{and_left, and_right, not_so, not_true, or_left, true_or_false}
use Rattle.qx_nodes.specs.BlockMap.{BlockMap, with_bytes}
use Rattle.qx_nodes.specs.Visits.{Visit, visits_of}
use Rattle.qx_nodes.proofs.VisitLocality.{visits_local}
use Rattle.qx_blocks.specs.BlockState.{BlockState, IsConsistent}
use Rattle.qx_ptree.specs.declared.plan.Plan.{Plan}
use Rattle.qx_ptree.specs.Alterations.{Alteration, shape_in}
use Rattle.qx_ptree.specs.Altered.{keeps_block, takes_fresh}
use Rattle.qx_ptree.specs.Building.{Builds, IsBlocksOf, IsOldPosition, LiesOutside, LiesUnder, Row, is_kept, loses_block, with_released}
use Rattle.qx_ptree.specs.Plans.{alteration_in, planned_pointer}
use Rattle.qx_ptree.specs.Takings.{Takes}
use Rattle.qx_ptree.specs.Trees.{block_map}
use Rattle.qx_ptree.specs.WorkState.{EditState, Preparation, WorkState, and_then, committed, no_work}
use Rattle.qx_ptree.proofs.MetPositions.{pointer_met}
use Rattle.qx_ptree.proofs.PlannedPointers.{IsToldPlan, planned_leads, planned_position, planned_whole}
use Rattle.qx_ptree.proofs.PointerCounts.{power_positive, size_positive}
use Rattle.qx_ptree.proofs.PointersByPosition.{at_above}
use Rattle.qx_ptree.proofs.WholeNeed.{new-reached}

-- ---- truths

-- a choice that is false where the test passes
pub passes_not : (b : Bool) → (if b then false else true) ≡ true → b ≡ false
passes_not true e = absurd (cc)
passes_not false e = refl

-- a choice that is false where the test fails: the test passes
pub passes_first : (b c : Bool) → (if b then c else false) ≡ true → b ≡ true
passes_first true c e = refl
passes_first false c e = absurd (cc)

-- and so does what it leaves
pub passes_second : (b c : Bool) → (if b then c else false) ≡ true → c ≡ true
passes_second true c e = e
passes_second false c e = absurd (cc)

-- a position of the new node that takes no fresh block keeps its own
pub stale-keeps : (a : Alteration) (k j : ℕ) → has_position a.blocksize a.new k j ≡ true → takes_fresh a k j ≡ false → keeps_block a k j ≡ true
stale-keeps a k j there stale = λ t. there t && not (stale t)

-- ---- what was prepared

-- the 16 blocks to which a node's own pointers lead
abbrev pub own_row : Root → Row
own_row root = record { level = root.levels; first = 0; count = 16 }

-- the change that waits for its commit: `rest` is the work below the new node's pointers, and `outside` what stands below them no longer
abbrev pub built : Plan → Root → List ℕ → WorkState → Preparation
built plan root outside rest = record { node = plan.node; change = plan.change; root = root; work = and_then (with_released no_work outside) rest }

-- a fresh block is one of the change's
pub own-fresh-block : (outside : List ℕ) (rest : WorkState) (q : ℕ) → is_in rest.fresh q ≡ true → is_in (rest.fresh ++ (rest.kept ++ (outside ++ rest.released))) q ≡ true
own-fresh-block outside rest q h = in_left rest.fresh (rest.kept ++ (outside ++ rest.released)) q h

-- so is one that was made ready
pub own-kept-block : (outside : List ℕ) (rest : WorkState) (q : ℕ) → is_in rest.kept q ≡ true → is_in (rest.fresh ++ (rest.kept ++ (outside ++ rest.released))) q ≡ true
own-kept-block outside rest q h = in_right rest.fresh (rest.kept ++ (outside ++ rest.released)) q (in_left rest.kept (outside ++ rest.released) q h)

-- the blocks after its commit
abbrev pub blocks_after : Plan → Root → List ℕ → WorkState → BlockState → BlockState
blocks_after plan root outside rest mid = committed mid (built plan root outside rest)

-- the blocks that pointers spoke of before, with other bytes
abbrev pub map_with : BlockState → Plan → (ℕ → List ℕ) → BlockMap
map_with m plan bytes = with_bytes (block_map plan.order m) bytes

-- what is known of the change where bytes are told
pub record IsBuilt (m n : BlockState) (plan : Plan) (root : Root) (outside : List ℕ) (rest : WorkState) : Type 0 where
  pub told : IsToldPlan m plan
  pub after : IsConsistent n
  pub tells : IsTrue n.tells
  pub long : length root.pointers ≡ 16
  pub takes : Takes rest.fresh m n
  pub ready : (q : ℕ) → is_in rest.kept q ≡ true → IsTrue (n.holdings.ready q)
  pub size : root.size ≡ plan.change.size
  pub levels : root.levels ≡ (alteration_in plan m).new.levels
  pub gone : IsBlocksOf m plan (LiesOutside (per_block m.holdings.size) root.levels) outside
  pub builds : Builds m n plan rest (own_row root) (slice_index root.pointers)

module _ (m n : BlockState) (plan : Plan) (root : Root) (outside : List ℕ) (rest : WorkState) (b : IsBuilt m n plan root outside rest) where
  -- ---- the old node

  -- a pointer of the old node that leads to a block is met
  pub old-visit : (k j : ℕ) → planned_pointer plan m k j ≢ absent → Contains (visits_of (block_map plan.order m) plan.node) (record { level = k; index = j; block = planned_pointer plan m k j })
  old-visit k j there =
      let level : k ≤ plan.node.levels = elim (cases_lt plan.node.levels k) [ inl above ↦ absurd (there (at_above (block_map plan.order m) plan.node k j above)) | inr h ↦ h ] in
      pointer_met (block_map plan.order m) plan.node k j (planned_whole m plan b.told) level there

  -- no block stands at two of its positions
  pub old-apart : (k j h i : ℕ) → planned_pointer plan m k j ≢ absent → planned_pointer plan m h i ≢ absent → planned_pointer plan m k j ≡ planned_pointer plan m h i → (k ≡ h) × (j ≡ i)
  old-apart k j h i there too is =
      let u : Visit = record { level = k; index = j; block = planned_pointer plan m k j } in
      let v : Visit = record { level = h; index = i; block = planned_pointer plan m h i } in
      let same : u ≡ v = (b.told.met.node.regular b.told.told).apart u v (old-visit k j there) (old-visit h i too) is in
      (ap (λ (x : Visit). x.level) same, ap (λ (x : Visit). x.index) same)

  -- its blocks are the working tree's
  pub old-works : (k j : ℕ) → planned_pointer plan m k j ≢ absent → IsTrue (m.holdings.works (planned_pointer plan m k j))
  old-works k j there = planned_leads m plan k j b.told there

  -- so they are held
  pub old-held : (k j : ℕ) → planned_pointer plan m k j ≢ absent → IsTrue (m.holdings.held (planned_pointer plan m k j))
  old-held k j there = b.told.consistent.works_held (planned_pointer plan m k j) (old-works k j there)

  -- and aren't fresh
  pub old-fresh : (k j : ℕ) → planned_pointer plan m k j ≢ absent → is_in rest.fresh (planned_pointer plan m k j) ≡ true → ⊥
  old-fresh k j there h = true_or_false (m.holdings.held (planned_pointer plan m k j)) (old-held k j there) (b.takes.unheld (planned_pointer plan m k j) h)

  -- they have their bytes still
  pub old-bytes : (k j : ℕ) → planned_pointer plan m k j ≢ absent → n.bytes (planned_pointer plan m k j) ≡ m.bytes (planned_pointer plan m k j)
  old-bytes k j there = b.takes.told_bytes b.tells (planned_pointer plan m k j) (old-held k j there)

  -- so the old node meets what it met
  pub old-visits : visits_of (block_map plan.order m) plan.node ≡ visits_of (block_map plan.order n) plan.node
  old-visits =
      visits_local (block_map plan.order m) n.bytes plan.node
      (λ v c. sym (b.takes.told_bytes b.tells v.block (b.told.consistent.works_held v.block (b.told.met.node.works b.told.told v c))))
      ∙ (λ t. visits_of (record { order = plan.order; size = sym b.takes.size t; count = sym b.takes.count t; bytes = n.bytes }) plan.node)

  -- ---- positions that stay

  -- a position of the new node lies below its own pointers
  pub new-under : (k j : ℕ) → has_position m.holdings.size (alteration_in plan m).new k j ≡ true → LiesUnder (per_block m.holdings.size) (own_row root) k j
  new-under k j there =
      let P : ℕ = per_block m.holdings.size in
      let l : (k ≤ (alteration_in plan m).new.levels) × ((i : ℕ) × (is_in (alteration_in plan m).new.present i ≡ true) × (index_above m.holdings.size k i ≡ j)) = leaf_below m.holdings.size (alteration_in plan m).new k j there in
      let i : ℕ = l.1.0 in
      let level : k ≤ root.levels = omega (arith, l.0, b.levels) in
      let reached : i < 16 * P ^ (alteration_in plan m).new.levels = new-reached m.holdings.size (shape_in (block_map plan.order m) plan.node) plan.change (size_positive m.holdings.size b.told.consistent.size) b.told.met.change i l.1.1 in
      let far : i < 16 * P ^ root.levels = subst (λ x. i < 16 * P ^ x) (sym b.levels) reached in
      let sum : k + (root.levels - k) ≡ root.levels = omega arith in
      let top : i / P ^ root.levels < 16 = div_below i (P ^ root.levels) 16 (power_positive m.holdings.size root.levels b.told.consistent.size) far in
      let up : j / P ^ (root.levels - k) ≡ i / P ^ root.levels =
      ap (λ x. x / P ^ (root.levels - k)) (sym l.1.2) ∙ div-div-eq-div-mul i (P ^ k) (P ^ (root.levels - k)) ∙ ap (λ x. i / x) (sym (pow-add P k (root.levels - k))) ∙ ap (λ x. i / P ^ x) sum in
      record { level = level; from = omega arith; to = omega (arith, top, up) }

  -- a position that keeps its block is one of the new node
  pub kept-there : (k j : ℕ) → keeps_block (alteration_in plan m) k j ≡ true → has_position m.holdings.size (alteration_in plan m).new k j ≡ true
  kept-there k j keeps = and_left (has_position m.holdings.size (alteration_in plan m).new k j) (not (takes_fresh (alteration_in plan m) k j)) keeps

  -- a position that takes no fresh block is one of the old node
  pub stale-old : (k j : ℕ) → takes_fresh (alteration_in plan m) k j ≡ false → planned_pointer plan m k j ≢ absent
  stale-old k j stale is =
      let a : Alteration = alteration_in plan m in
      let had : has_position m.holdings.size a.old k j ≡ true = not-false (has_position m.holdings.size a.old k j) (or_left (not (has_position m.holdings.size a.old k j)) (is_touched a.blocksize a.old a.new a.written k j && not (a.private k j)) stale) in
      true_or_false (planned_pointer plan m k j == absent) (eq-eqb (planned_pointer plan m k j) absent is) (not_true (planned_pointer plan m k j == absent) (sym (planned_position m plan k j b.told) ∙ had))

  -- so a position that keeps its block has one
  pub kept-old : (k j : ℕ) → keeps_block (alteration_in plan m) k j ≡ true → planned_pointer plan m k j ≢ absent
  kept-old k j keeps = stale-old k j (not_true (takes_fresh (alteration_in plan m) k j) (and_right (has_position m.holdings.size (alteration_in plan m).new k j) (not (takes_fresh (alteration_in plan m) k j)) keeps))

  -- ---- blocks that are given up

  -- they have lost their position
  pub released-lost : (q : ℕ) → is_in (outside ++ rest.released) q ≡ true → (k : ℕ) × (j : ℕ) × (planned_pointer plan m k j ≡ q) × (planned_pointer plan m k j ≢ absent) × (keeps_block (alteration_in plan m) k j ≡ false)
  released-lost q h = elim (in_append_cases outside rest.released q h) [
    | inl out ↦
        let g : (k : ℕ) × (j : ℕ) × LiesOutside (per_block m.holdings.size) root.levels k j × (planned_pointer plan m k j ≡ q) × ¬ (q ≡ absent) = b.gone.only q out in
        (g.0, g.1, g.3, λ e. g.4 (sym g.3 ∙ e), not_so (keeps_block (alteration_in plan m) g.0 g.1) (λ keeps. g.2.outside (new-under g.0 g.1 (kept-there g.0 g.1 keeps))))
    | inr under ↦
        let o : (k : ℕ) × (j : ℕ) × IsOldPosition m plan (own_row root) k j q × (loses_block (alteration_in plan m) k j ≡ true) = b.builds.only_lost q under in
        (o.0, o.1, o.2.pointer, λ e. o.2.present (sym o.2.pointer ∙ e), passes_not (keeps_block (alteration_in plan m) o.0 o.1) o.3)
  ]

  -- a block that stays isn't given up
  pub kept-stays : (k j : ℕ) → keeps_block (alteration_in plan m) k j ≡ true → is_in (outside ++ rest.released) (planned_pointer plan m k j) ≡ false
  kept-stays k j keeps = not_so (is_in (outside ++ rest.released) (planned_pointer plan m k j)) (λ h.
      let r : (h : ℕ) × (i : ℕ) × (planned_pointer plan m h i ≡ planned_pointer plan m k j) × (planned_pointer plan m h i ≢ absent) × (keeps_block (alteration_in plan m) h i ≡ false) = released-lost (planned_pointer plan m k j) h in
      let at : (r.0 ≡ k) × (r.1 ≡ j) = old-apart r.0 r.1 k j r.3 (kept-old k j keeps) r.2 in
      true_or_false (keeps_block (alteration_in plan m) k j) keeps (sym (λ t. keeps_block (alteration_in plan m) (at.0 t) (at.1 t)) ∙ r.4))

  -- nor is a fresh one
  pub fresh-stays : (q : ℕ) → is_in rest.fresh q ≡ true → is_in (outside ++ rest.released) q ≡ false
  fresh-stays q f = not_so (is_in (outside ++ rest.released) q) (λ h.
      let r : (k : ℕ) × (j : ℕ) × (planned_pointer plan m k j ≡ q) × (planned_pointer plan m k j ≢ absent) × (keeps_block (alteration_in plan m) k j ≡ false) = released-lost q h in
      old-fresh r.0 r.1 r.3 (subst (λ x. is_in rest.fresh x ≡ true) (sym r.2) f))

  -- the block of a position that doesn't keep it is given up
  pub lost-released : (k j : ℕ) → planned_pointer plan m k j ≢ absent → keeps_block (alteration_in plan m) k j ≡ false → is_in (outside ++ rest.released) (planned_pointer plan m k j) ≡ true
  lost-released k j there lost = elim (cases_lt root.levels k) [
    | inl above ↦ beyond (record { outside = λ u. let low : k ≤ root.levels = u.level in omega arith })
    | inr level ↦ elim (cases_lt (j / per_block m.holdings.size ^ (root.levels - k)) 16) [
      | inl low ↦ in_right outside rest.released (planned_pointer plan m k j)
          (b.builds.released k j (planned_pointer plan m k j) (record { under = record { level = level; from = omega arith; to = omega (arith, low) }; pointer = refl; present = there }) (ap (λ t. if t then false else true) lost))
      | inr far ↦ beyond (record { outside = λ u. let low : j / per_block m.holdings.size ^ (root.levels - k) < 0 + 16 = u.to in omega arith })
    ]
  ]
    where
      beyond : LiesOutside (per_block m.holdings.size) root.levels k j → is_in (outside ++ rest.released) (planned_pointer plan m k j) ≡ true
      beyond lies = in_left outside rest.released (planned_pointer plan m k j) (b.gone.all k j lies there)

  -- ---- blocks that are to get other bytes

  -- such a block stands above the leaves, is touched and stays
  pub edit-at : (e : EditState) → Contains rest.edits e → (k j : ℕ) → planned_pointer plan m k j ≢ absent → e.block ≡ planned_pointer plan m k j → (is_kept (alteration_in plan m) k j ≡ true) × (0 < k)
  edit-at e c k j there is =
      let r : (h : ℕ) × (i : ℕ) × IsOldPosition m plan (own_row root) h i e.block × (is_kept (alteration_in plan m) h i ≡ true) × (0 < h) = b.builds.edited e c in
      let at : (r.0 ≡ k) × (r.1 ≡ j) = old-apart r.0 r.1 k j (λ x. r.2.present (sym r.2.pointer ∙ x)) there (r.2.pointer ∙ is) in
      (sym (λ t. is_kept (alteration_in plan m) (at.0 t) (at.1 t)) ∙ r.3, omega (arith, r.4, at.0))

  -- it isn't fresh
  pub edit-fresh : (e : EditState) → Contains rest.edits e → is_in rest.fresh e.block ≡ true → ⊥
  edit-fresh e c f =
      let r : (h : ℕ) × (i : ℕ) × IsOldPosition m plan (own_row root) h i e.block × (is_kept (alteration_in plan m) h i ≡ true) × (0 < h) = b.builds.edited e c in
      old-fresh r.0 r.1 (λ x. r.2.present (sym r.2.pointer ∙ x)) (subst (λ x. is_in rest.fresh x ≡ true) (sym r.2.pointer) f)

  -- and isn't given up
  pub edit-stays : (e : EditState) → Contains rest.edits e → is_in (outside ++ rest.released) e.block ≡ false
  edit-stays e c =
      let r : (h : ℕ) × (i : ℕ) × IsOldPosition m plan (own_row root) h i e.block × (is_kept (alteration_in plan m) h i ≡ true) × (0 < h) = b.builds.edited e c in
      let a : Alteration = alteration_in plan m in
      subst (λ x. is_in (outside ++ rest.released) x ≡ false) r.2.pointer (kept-stays r.0 r.1 (passes_first (keeps_block a r.0 r.1) (is_touched a.blocksize a.old a.new a.written r.0 r.1) r.3))
