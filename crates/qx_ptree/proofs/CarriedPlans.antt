-- What a plan says of its node after a call that took blocks: the same as before it.
use Rattle.std.proofs.Common.{◌≡◌, ◌≢◌, ℕ, zero, suc, ◌*◌, ◌-◌, ◌/◌, ◌%◌, ◌<◌, ◌≤◌, inl, inr, List, refl, sym, ◌∙◌, ap, subst, arith}
use Rattle.std.specs.Prelude.{true, false, ◌||◌, ◌==◌, nat_lt, if◌then◌else◌, IsTrue, map, filter, replicate}
use Rattle.std.proofs.lemmas.Bool.{cases_eq, eq-eqb, or_left}
use Rattle.std.proofs.Math.Bool.{or-true, or-false}
use Rattle.qx_fields.specs.Number.{field}
use Rattle.qx_geom.specs.Lists.{is_in}
use Rattle.qx_geom.specs.Pointer.{absent, per_block}
use Rattle.qx_geom.specs.Positions.{shape_after}
use Rattle.qx_geom.proofs.Truths.{not_so, true_or_false}
use Rattle.qx_nodes.specs.BlockMap.{BlockMap, word}
use Rattle.qx_nodes.specs.Content.{leaf_bytes}
use Rattle.qx_nodes.specs.Visits.{Visit, is_leaf, present_of, visits_of}
use Rattle.qx_nodes.proofs.VisitLocality.{visits_local}
use Rattle.qx_blocks.specs.BlockState.{BlockState, IsConsistent}
use Rattle.qx_ptree.specs.declared.plan.Plan.{Plan}
use Rattle.qx_ptree.specs.Fates.{written_by}
use Rattle.qx_ptree.specs.Plans.{alteration_in, planned_pointer}
use Rattle.qx_ptree.specs.Takings.{Takes}
use Rattle.qx_ptree.specs.Trees.{block_map, pointer_from}
use Rattle.qx_ptree.proofs.LeavesByPointer.{AllNumbers, bytes_by_pointer, bytes_of_hole}
use Rattle.qx_ptree.proofs.PointerCounts.{words_positive}
use Rattle.qx_ptree.proofs.PlannedPointers.{IsToldPlan, planned_leads}
use Rattle.qx_ptree.proofs.PointersByPosition.{at_from}

-- ---- what a call that took blocks leaves

-- what was held isn't fresh
pub held_old : (f : List ℕ) (m n : BlockState) (b : ℕ) → Takes f m n → IsTrue (m.holdings.held b) → is_in f b ≡ false
held_old f m n b t held = not_so (is_in f b) (λ e. true_or_false (m.holdings.held b) held (t.unheld b e))

-- what was held still is
pub held_after : (f : List ℕ) (m n : BlockState) (b : ℕ) → Takes f m n → IsTrue (m.holdings.held b) → IsTrue (n.holdings.held b)
held_after f m n b t held = t.held b ∙ or_left (m.holdings.held b) (is_in f b) held

-- and what worked
pub works_after : (f : List ℕ) (m n : BlockState) (b : ℕ) → Takes f m n → IsTrue (m.holdings.works b) → IsTrue (n.holdings.works b)
works_after f m n b t works = t.works b ∙ or_left (m.holdings.works b) (is_in f b) works

-- what is fresh is held
pub fresh_held : (f : List ℕ) (m n : BlockState) (b : ℕ) → Takes f m n → is_in f b ≡ true → IsTrue (n.holdings.held b)
fresh_held f m n b t fresh = t.held b ∙ ap (λ x. m.holdings.held b || x) fresh ∙ or-true (m.holdings.held b)

-- a block that was held is private where it was
pub private_after : (f : List ℕ) (m n : BlockState) (b : ℕ) → Takes f m n → IsTrue (m.holdings.held b) → n.holdings.private b ≡ m.holdings.private b
private_after f m n b t held = t.private b ∙ ap (λ x. m.holdings.private b || x) (held_old f m n b t held) ∙ or-false (m.holdings.private b)

-- no block has the absent number
pub absent_free : (m : BlockState) → IsConsistent m → m.holdings.held absent ≡ false
absent_free m s = not_so (m.holdings.held absent) (λ h. let low : absent < m.holdings.count = s.numbers absent h in omega (arith, s.count))

-- so none is private
pub absent_shared : (m : BlockState) → IsConsistent m → m.holdings.private absent ≡ false
absent_shared m s = not_so (m.holdings.private absent) (λ h. true_or_false (m.holdings.held absent) (s.works_held absent (s.private_works absent h)) (absent_free m s))

-- ---- the plan

-- a pointer of the node
pub pointer_held : (m : BlockState) (plan : Plan) (k j : ℕ) → IsToldPlan m plan → planned_pointer plan m k j ≢ absent → IsTrue (m.holdings.held (planned_pointer plan m k j))
pointer_held m plan k j p there = p.consistent.works_held (planned_pointer plan m k j) (planned_leads m plan k j p there)

-- each is a block's number
pub planned_numbers : (m : BlockState) (plan : Plan) → IsToldPlan m plan → AllNumbers (block_map plan.order m) plan.node
planned_numbers m plan p k j h there = p.consistent.numbers (planned_pointer plan m k j) (pointer_held m plan k j p there)

-- what is the same of a plan's node over the blocks n as over m
pub record IsCarried (m n : BlockState) (plan : Plan) : Type 0 where
  pub size : n.holdings.size ≡ m.holdings.size
  pub count : n.holdings.count ≡ m.holdings.count
  pub pointers : (k j : ℕ) → planned_pointer plan n k j ≡ planned_pointer plan m k j
  pub alteration : alteration_in plan n ≡ alteration_in plan m
  pub bytes : (k j : ℕ) → planned_pointer plan m k j ≢ absent → n.bytes (planned_pointer plan m k j) ≡ m.bytes (planned_pointer plan m k j)
  pub leaves : (j : ℕ) → leaf_bytes (block_map plan.order n) plan.node j ≡ leaf_bytes (block_map plan.order m) plan.node j

module _ (f : List ℕ) (m n : BlockState) (plan : Plan) (p : IsToldPlan m plan) (t : Takes f m n) (told : IsTrue n.tells) where
  -- the bytes of a node's block
  pointer_bytes_same : (k j : ℕ) → planned_pointer plan m k j ≢ absent → n.bytes (planned_pointer plan m k j) ≡ m.bytes (planned_pointer plan m k j)
  pointer_bytes_same k j there = t.told_bytes told (planned_pointer plan m k j) (pointer_held m plan k j p there)

  -- the words of one that stands so many levels down
  words_same : (d j w : ℕ) → d ≤ plan.node.levels → pointer_from (block_map plan.order m) plan.node d j ≢ absent
      → word (block_map plan.order n) (pointer_from (block_map plan.order m) plan.node d j) w ≡ word (block_map plan.order m) (pointer_from (block_map plan.order m) plan.node d j) w
  words_same d j w h there =
      let is : planned_pointer plan m (plan.node.levels - d) j ≡ pointer_from (block_map plan.order m) plan.node d j = at_from (block_map plan.order m) plan.node (plan.node.levels - d) j d (omega arith) (omega arith) in
      let bytes : n.bytes (pointer_from (block_map plan.order m) plan.node d j) ≡ m.bytes (pointer_from (block_map plan.order m) plan.node d j) =
      subst (λ q. n.bytes q ≡ m.bytes q) is (pointer_bytes_same (plan.node.levels - d) j (λ e. there (sym is ∙ e))) in
      ap (λ (bs : List ℕ). field plan.order 4 bs (4 * w)) bytes

  -- the pointers, level by level
  from_same : (d j : ℕ) → d ≤ plan.node.levels → pointer_from (block_map plan.order n) plan.node d j ≡ pointer_from (block_map plan.order m) plan.node d j
  from_same zero j h = refl
  from_same (suc d) j h =
      let up : ℕ = j / per_block m.holdings.size in
      let x : ℕ = pointer_from (block_map plan.order m) plan.node d up in
      (λ i. let above = pointer_from (block_map plan.order n) plan.node d (j / per_block (t.size i)) in if above == absent then absent else word (block_map plan.order n) above (j % per_block (t.size i)))
      ∙ ap (λ above. if above == absent then absent else word (block_map plan.order n) above (j % per_block m.holdings.size)) (from_same d up (omega arith))
      ∙ elim (cases_eq x absent) [
        | inl none ↦ ap (λ b. if b then absent else word (block_map plan.order n) x (j % per_block m.holdings.size)) (eq-eqb x absent none) ∙ sym (ap (λ b. if b then absent else word (block_map plan.order m) x (j % per_block m.holdings.size)) (eq-eqb x absent none))
        | inr there ↦ ap (λ w. if x == absent then absent else w) (words_same d up (j % per_block m.holdings.size) (omega arith) there)
      ]

  -- the pointers by position
  pub pointers_after : (k j : ℕ) → planned_pointer plan n k j ≡ planned_pointer plan m k j
  pointers_after k j = ap (λ x. if nat_lt plan.node.levels k then absent else x) (from_same (plan.node.levels - k) j (omega arith))

  -- what is met
  visits_same : visits_of (block_map plan.order n) plan.node ≡ visits_of (block_map plan.order m) plan.node
  visits_same =
      (λ i. visits_of (record { order = plan.order; size = t.size i; count = t.count i; bytes = n.bytes }) plan.node)
      ∙ sym (visits_local (block_map plan.order m) n.bytes plan.node (λ v c. sym (t.told_bytes told v.block (p.consistent.works_held v.block (p.met.node.works p.told v c)))))

  -- the leaves that are present
  present_same : present_of (block_map plan.order n) plan.node ≡ present_of (block_map plan.order m) plan.node
  present_same = ap (λ (vs : List Visit). map (λ (v : Visit). v.index) (filter is_leaf vs)) visits_same

  -- a pointer of the node is private where it was
  private_same : IsConsistent n → (k j : ℕ) → n.holdings.private (planned_pointer plan n k j) ≡ m.holdings.private (planned_pointer plan m k j)
  private_same s k j = ap n.holdings.private (pointers_after k j) ∙ elim (cases_eq (planned_pointer plan m k j) absent) [
    | inl none ↦ subst (λ q. n.holdings.private q ≡ m.holdings.private q) (sym none) (absent_shared n s ∙ sym (absent_shared m p.consistent))
    | inr there ↦ private_after f m n (planned_pointer plan m k j) t (pointer_held m plan k j p there)
  ]

  -- what the change makes of the node
  alteration_same : IsConsistent n → alteration_in plan n ≡ alteration_in plan m
  alteration_same s = λ i. record {
    blocksize = t.size i;
    old = record { levels = plan.node.levels; present = present_same i };
    new = shape_after (t.size i) (record { levels = plan.node.levels; present = present_same i }) plan.change.size (written_by plan.change) plan.change.gone;
    written = written_by plan.change;
    private = λ k j. private_same s k j i;
  }

  -- the bytes of a leaf
  leaves_same : (j : ℕ) → leaf_bytes (block_map plan.order n) plan.node j ≡ leaf_bytes (block_map plan.order m) plan.node j
  leaves_same j =
      let old : BlockMap = block_map plan.order m in
      let new : BlockMap = block_map plan.order n in
      let words : 0 < per_block m.holdings.size = words_positive m.holdings.size p.consistent.size in
      let words_new : 0 < per_block n.holdings.size = subst (λ s. 0 < per_block s) (sym t.size) words in
      let low : AllNumbers old plan.node = planned_numbers m plan p in
      let low_new : AllNumbers new plan.node = λ k i h there.
      subst (λ q. q < n.holdings.count) (sym (pointers_after k i)) (subst (λ c. planned_pointer plan m k i < c) (sym t.count) (low k i h (λ e. there (pointers_after k i ∙ e)))) in
      elim (cases_eq (planned_pointer plan m 0 j) absent) [
        | inl none ↦ bytes_of_hole new plan.node j words_new low_new (pointers_after 0 j ∙ none) ∙ ap (λ s. replicate s 0) t.size ∙ sym (bytes_of_hole old plan.node j words low none)
        | inr there ↦
            bytes_by_pointer new plan.node j words_new low_new (λ e. there (sym (pointers_after 0 j) ∙ e)) ∙ ap n.bytes (pointers_after 0 j)
            ∙ pointer_bytes_same 0 j there ∙ sym (bytes_by_pointer old plan.node j words low there)
      ]

  -- all of it
  pub carried : IsConsistent n → IsCarried m n plan
  carried s = record { size = t.size; count = t.count; pointers = pointers_after; alteration = alteration_same s; bytes = pointer_bytes_same; leaves = leaves_same }
