-- The part of a node below a block where nothing changes, or where nothing is left.
use Rattle.std.proofs.Common.{◌≡◌, ◌≢◌, ℕ, zero, suc, ◌+◌, ◌*◌, ◌-◌, ◌^◌, ◌/◌, ◌%◌, ◌≤◌, ◌⊎◌, inl, inr, List, refl, sym, ◌∙◌, ap, subst, arith}
use Rattle.std.specs.Prelude.{Bool, true, false, not, ◌&&◌, ◌||◌, ◌==◌, if◌then◌else◌}
use Rattle.std.proofs.Math.Nat.{div-div-eq-div-mul, mod-lt, mul_comm, pow-suc}
use Rattle.std.proofs.lemmas.Nat.{pow-add}
use Rattle.std.proofs.lemmas.Bool.{cases_eq, cases_lt, eq-eqb, eqb-true, le-ltb, ne_eqb, not-false}
use Rattle.std.proofs.lemmas.Nat.{div-add-mod'}
use Rattle.qx_fields.specs.Number.{field}
use Rattle.qx_geom.specs.Lists.{is_in}
use Rattle.qx_geom.specs.Pointer.{absent, per_block}
use Rattle.qx_geom.specs.Positions.{Shape, has_position, index_above}
use Rattle.qx_geom.specs.Touch.{changed_leaves, is_touched}
use Rattle.qx_geom.proofs.ImagesAndFilters.{any_image, image_any}
use Rattle.qx_geom.proofs.Truths.{not_so, true_or_false, same_truth}
use Rattle.qx_nodes.specs.BlockMap.{BlockMap, with_bytes, word}
use Rattle.qx_blocks.specs.BlockState.{BlockState}
use Rattle.qx_ptree.specs.declared.plan.Plan.{Plan}
use Rattle.qx_ptree.specs.Altered.{keeps_block, takes_fresh}
use Rattle.qx_ptree.specs.Alterations.{Alteration}
use Rattle.qx_ptree.specs.Building.{Builds, IsBlocksOf, IsOldPosition, IsPlaced, LiesUnder, Shows, is_kept, loses_block, one_block, pointer_down, with_released}
use Rattle.qx_ptree.specs.Parts.{fresh_below, has_below}
use Rattle.qx_ptree.specs.Plans.{alteration_in, planned_pointer}
use Rattle.qx_ptree.specs.Trees.{block_map}
use Rattle.qx_ptree.specs.WorkState.{no_work}
use Rattle.qx_ptree.proofs.BuiltRows.{sum_one}
use Rattle.qx_ptree.proofs.CarriedBuilds.{position_there}
use Rattle.qx_ptree.proofs.LeafParts.{in_changed-is}
use Rattle.qx_ptree.proofs.OwnPositions.{had-above, had-below}
use Rattle.qx_ptree.proofs.PlannedPointers.{IsToldPlan, planned_above, planned_position}
use Rattle.qx_ptree.proofs.PointerCounts.{words_positive}
use Rattle.qx_ptree.proofs.PointersByPosition.{at_above, pointer_step}
use Rattle.qx_ptree.proofs.UnderRows.{index_under, under_index, under_own}

-- ---- leaves below a block and below one above it

-- the index some levels above
above_more : (blocksize k level i : ℕ) → k ≤ level → index_above blocksize k i / per_block blocksize ^ (level - k) ≡ index_above blocksize level i
above_more blocksize k level i h =
    let P : ℕ = per_block blocksize in
    div-div-eq-div-mul i (P ^ k) (P ^ (level - k)) ∙ ap (λ (q : ℕ). i / q) (sym (pow-add P k (level - k))) ∙ ap (λ d. i / P ^ d) (let e : k + (level - k) ≡ level = omega arith in e)

-- what lies below a block lies below the one above it
pub below_above : (blocksize : ℕ) (leaves : List ℕ) (level index k j : ℕ) → LiesUnder (per_block blocksize) (one_block level index) k j → has_below blocksize leaves k j ≡ true → has_below blocksize leaves level index ≡ true
below_above blocksize leaves level index k j u h =
    let r = image_any (index_above blocksize k) j leaves h in
    any_image (index_above blocksize level) index leaves r.0 r.1
    (sym (above_more blocksize k level r.0 u.level) ∙ ap (λ x. x / per_block blocksize ^ (level - k)) r.2 ∙ under_index (per_block blocksize) level index k j u)

-- so where nothing lies below the one above, nothing lies below it
pub none_below_block : (blocksize : ℕ) (leaves : List ℕ) (level index k j : ℕ) → LiesUnder (per_block blocksize) (one_block level index) k j → has_below blocksize leaves level index ≡ false → has_below blocksize leaves k j ≡ false
none_below_block blocksize leaves level index k j u none = not_so (has_below blocksize leaves k j) (λ h. true_or_false (has_below blocksize leaves level index) (below_above blocksize leaves level index k j u h) none)

-- a leaf that didn't change is present where it was
unchanged : (w h r : Bool) → (w || ((r && not h) || (h && not r))) ≡ false → r ≡ h
unchanged true h r e = absurd (cc)
unchanged false true true e = refl
unchanged false true false e = absurd (cc)
unchanged false false true e = absurd (cc)
unchanged false false false e = refl

-- where no leaf below a block changed, leaves are present below it where they were
pub unchanged_below : (blocksize : ℕ) (old new : Shape) (written : List ℕ) (k j : ℕ) → has_below blocksize (changed_leaves old new written) k j ≡ false → has_below blocksize new.present k j ≡ has_below blocksize old.present k j
unchanged_below blocksize old new written k j none =
    let leaf : (i : ℕ) → index_above blocksize k i ≡ j → is_in new.present i ≡ is_in old.present i = λ i at.
    unchanged (is_in written i) (is_in old.present i) (is_in new.present i)
    (sym (in_changed-is old new written i)
    ∙ not_so (is_in (changed_leaves old new written) i) (λ h. true_or_false (has_below blocksize (changed_leaves old new written) k j) (any_image (index_above blocksize k) j (changed_leaves old new written) i h at) none)) in
    same_truth (has_below blocksize new.present k j) (has_below blocksize old.present k j)
    (λ h. let r = image_any (index_above blocksize k) j new.present h in any_image (index_above blocksize k) j old.present r.0 (sym (leaf r.0 r.2) ∙ r.1) r.2)
    (λ h. let r = image_any (index_above blocksize k) j old.present h in any_image (index_above blocksize k) j new.present r.0 (leaf r.0 r.2 ∙ r.1) r.2)

-- ---- pointers

-- no pointer stands below an absent one
pub absent_down : (m : BlockMap) (d p j : ℕ) → p ≡ absent → pointer_down m d p j ≡ absent
absent_down m zero p j is = is
absent_down m (suc d) p j is =
    ap (λ above. if above == absent then absent else word m above (j % per_block m.size)) (absent_down m d p (j / per_block m.size) is)

-- what is no pointer's is absent
pub not_there : (p : ℕ) → not (p == absent) ≡ false → p ≡ absent
not_there p e = eqb-true p absent (not-false (p == absent) e)

-- what is there is none that is absent
pub is_there : (p : ℕ) → p ≢ absent → not (p == absent) ≡ true
is_there p there = ap not (ne_eqb p absent there)

-- ---- where nothing changes

module _ (m n : BlockState) (plan : Plan) (p : IsToldPlan m plan) (level index : ℕ) (within : level ≤ (alteration_in plan m).new.levels) where
  abbrev a : Alteration
  a = alteration_in plan m

  abbrev size : ℕ
  size = m.holdings.size

  abbrev P : ℕ
  P = per_block size

  -- the old positions, by the leaves below them, but above the node's levels for the first block
  old_below : (k j : ℕ) → (k ≤ plan.node.levels) ⊎ (j ≢ 0) → has_position size a.old k j ≡ has_below size a.old.present k j
  old_below k j at = elim (cases_lt plan.node.levels k) [
    | inl above ↦ had-above size a.old k j above ∙ sym (elim at [ inl low ↦ absurd (omega arith) | inr other ↦ planned_above m plan k j p above other ])
    | inr h ↦ had-below size a.old k j h
  ]

  -- so below a block that isn't the first above the node's levels
  old_under : (k j : ℕ) → (level ≤ plan.node.levels) ⊎ (index ≢ 0) → LiesUnder P (one_block level index) k j → has_position size a.old k j ≡ has_below size a.old.present k j
  old_under k j at u = old_below k j (elim at [
    | inl low ↦ inl (omega (arith, u.level))
    | inr other ↦ inr (λ e. let none : 0 / P ^ (level - k) ≡ 0 = omega arith in other (sym (under_index P level index k j u) ∙ ap (λ x. x / P ^ (level - k)) e ∙ none))
  ])

  -- the new positions, by the leaves below them
  new_under : (k j : ℕ) → LiesUnder P (one_block level index) k j → has_position size a.new k j ≡ has_below size a.new.present k j
  new_under k j u = had-below size a.new k j (omega (arith, u.level))

  -- ---- nothing changed

  module _ (at : (level ≤ plan.node.levels) ⊎ (index ≢ 0)) (quiet : has_below size (changed_leaves a.old a.new a.written) level index ≡ false) where
    -- no leaf changed below it
    quiet_under : (k j : ℕ) → LiesUnder P (one_block level index) k j → has_below size (changed_leaves a.old a.new a.written) k j ≡ false
    quiet_under k j u = none_below_block size (changed_leaves a.old a.new a.written) level index k j u quiet

    -- the positions are the old ones
    pub same_under : (k j : ℕ) → LiesUnder P (one_block level index) k j → has_position size a.new k j ≡ has_position size a.old k j
    same_under k j u = new_under k j u ∙ unchanged_below size a.old a.new a.written k j (quiet_under k j u) ∙ sym (old_under k j at u)

    -- none of them is touched
    pub plain_under : (k j : ℕ) → LiesUnder P (one_block level index) k j → planned_pointer plan m k j ≢ absent → is_touched size a.old a.new a.written k j ≡ false
    plain_under k j u there =
        let low : k ≤ plan.node.levels = elim (cases_lt plan.node.levels k) [ inl above ↦ absurd (there (at_above (block_map plan.order m) plan.node k j above)) | inr h ↦ h ] in
        λ i. le-ltb plan.node.levels k low i || quiet_under k j u i

    -- nor takes a fresh block
    unfresh_under : (k j : ℕ) → LiesUnder P (one_block level index) k j → has_position size a.old k j ≡ true → takes_fresh a k j ≡ false
    unfresh_under k j u had = λ i. not (had i) || (plain_under k j u (position_there m plan k j p had) i && not (a.private k j))

    -- so the old pointers are those that the blocks have
    down_in : (bytes : ℕ → List ℕ) (d k j : ℕ) → Shows m n plan no_work (one_block level index) bytes → level ≤ plan.node.levels → k + d ≡ level → LiesUnder P (one_block level index) k j
        → pointer_down (with_bytes (block_map plan.order m) bytes) d (planned_pointer plan m level index) j ≡ planned_pointer plan m k j
    down_in bytes zero k j s low far u =
        let own : (k ≡ level) × (j ≡ index) = under_own P level index k j u (omega arith) in
        λ i. planned_pointer plan m (sym own.0 i) (sym own.1 i)
    down_in bytes (suc d) k j s low far u =
        let t : BlockMap = block_map plan.order m in
        let up : ℕ = j / P in
        let x : ℕ = planned_pointer plan m (suc k) up in
        let distance : level - k ≡ suc (level - suc k) = omega arith in
        let higher : up / P ^ (level - suc k) ≡ index = go (level - suc k) ∙ ap (λ e. j / P ^ e) (sym distance) ∙ under_index P level index k j u in
        let under : LiesUnder P (one_block level index) (suc k) up = index_under P level index (suc k) up (omega arith) higher in
        let step : planned_pointer plan m k j ≡ (if x == absent then absent else word t x (j % P)) =
        ap (planned_pointer plan m k) (sym (div-add-mod' j P)) ∙ pointer_step t plan.node k up (j % P) (omega arith) (mod-lt j (words_positive size p.consistent.size)) in
        ap (λ above. if above == absent then absent else word (with_bytes t bytes) above (j % P)) (down_in bytes d (suc k) up s low (omega arith) under)
        ∙ shown x (j % P) (λ there. s.others (suc k) up under (omega arith) (planned_position m plan (suc k) up p ∙ is_there x there, plain_under (suc k) up under there))
        ∙ sym step
      where
        go : (d : ℕ) → j / P / P ^ d ≡ j / P ^ suc d
        go d = div-div-eq-div-mul j P (P ^ d) ∙ ap (λ (q : ℕ). j / q) (mul_comm P (P ^ d) ∙ sym (pow-suc P d))

        shown : (x w : ℕ) → (x ≢ absent → bytes x ≡ m.bytes x) → (if x == absent then absent else word (with_bytes (block_map plan.order m) bytes) x w) ≡ (if x == absent then absent else word (block_map plan.order m) x w)
        shown x w same = elim (cases_eq x absent) [
          | inl none ↦ ap (λ b. if b then absent else word (with_bytes (block_map plan.order m) bytes) x w) (eq-eqb x absent none) ∙ sym (ap (λ b. if b then absent else word (block_map plan.order m) x w) (eq-eqb x absent none))
          | inr there ↦ ap (λ (bs : List ℕ). if x == absent then absent else field plan.order 4 bs (4 * w)) (same there)
        ]

    -- above the node's levels as well
    down_old : (bytes : ℕ → List ℕ) (k j : ℕ) → Shows m n plan no_work (one_block level index) bytes → LiesUnder P (one_block level index) k j
        → pointer_down (with_bytes (block_map plan.order m) bytes) (level - k) (planned_pointer plan m level index) j ≡ planned_pointer plan m k j
    down_old bytes k j s u = elim (cases_lt plan.node.levels level) [
      | inr low ↦ down_in bytes (level - k) k j s low (omega (arith, u.level)) u
      | inl above ↦
          let t : BlockMap = block_map plan.order m in
          let other : index ≢ 0 = elim at [ inl low ↦ absurd (omega arith) | inr other ↦ other ] in
          let none : has_below size a.old.present k j ≡ false = none_below_block size a.old.present level index k j u (planned_above m plan level index p above other) in
          absent_down (with_bytes t bytes) (level - k) (planned_pointer plan m level index) j (at_above t plan.node level index above)
          ∙ sym (not_there (planned_pointer plan m k j) (sym (planned_position m plan k j p) ∙ old_under k j at u ∙ none))
    ]

    -- each position keeps its block
    pub keeps_under : (k j : ℕ) → LiesUnder P (one_block level index) k j → has_position size a.old k j ≡ true → keeps_block a k j ≡ true
    keeps_under k j u had = λ i. (same_under k j u ∙ had) i && not (unfresh_under k j u had i)

    -- where a position is there afterwards, it was before
    had_under : (k j : ℕ) → LiesUnder P (one_block level index) k j → has_position size a.new k j ≡ true → has_position size a.old k j ≡ true
    had_under k j u has = sym (same_under k j u) ∙ has

    -- nothing takes a fresh block
    no_fresh : (k j : ℕ) → LiesUnder P (one_block level index) k j → has_position size a.new k j ≡ true → takes_fresh a k j ≡ true → ⊥
    no_fresh k j u has fresh = true_or_false (takes_fresh a k j) fresh (unfresh_under k j u (had_under k j u has))

    -- an old position
    old_had : (k j q : ℕ) → IsOldPosition m plan (one_block level index) k j q → has_position size a.old k j ≡ true
    old_had k j q old = planned_position m plan k j p ∙ is_there (planned_pointer plan m k j) (λ e. old.present (sym old.pointer ∙ e))

    -- without any work, the part is there as it was
    pub builds_quiet : fresh_below a level index ≡ 0 → Builds m n plan no_work (one_block level index) (λ _. planned_pointer plan m level index)
    builds_quiet none = record {
      pointers = λ bytes shows k j u. subst (λ q. IsPlaced m n plan no_work k j q) (sym (down_old bytes k j shows u)) (record {
        none = λ e. not_there (planned_pointer plan m k j) (sym (planned_position m plan k j p) ∙ sym (same_under k j u) ∙ e);
        stays = λ e. refl;
        fresh = λ has fresh. absurd (no_fresh k j u has fresh);
        bytes = λ leaf has fresh. absurd (no_fresh k j u has fresh);
      });
      apart = λ bytes shows k j h i f g same. absurd (no_fresh k j f.under f.there f.fresh);
      count = sym none ∙ sym (sum_one (fresh_below a level) index);
      released = λ k j q old lost. absurd (true_or_false (loses_block a k j) lost (ap (λ b. if b then false else true) (keeps_under k j old.under (old_had k j q old))));
      only_lost = λ q s. absurd (cc);
      kept = λ k j q old keeps.
          absurd (true_or_false (is_kept a k j) keeps
          ((λ i. if keeps_under k j old.under (old_had k j q old) i then is_touched size a.old a.new a.written k j else false) ∙ plain_under k j old.under (λ e. old.present (sym old.pointer ∙ e))));
      only_kept = λ q s. absurd (cc);
      edited = λ e s. absurd (omega (arith, s.1));
      edit_once = λ e f s t same. absurd (omega (arith, s.1));
    }

  -- ---- nothing is left

  module _ (empty : has_below size a.new.present level index ≡ false) where
    -- no position is there afterwards
    gone_under : (k j : ℕ) → LiesUnder P (one_block level index) k j → has_position size a.new k j ≡ false
    gone_under k j u = new_under k j u ∙ none_below_block size a.new.present level index k j u empty

    -- so none keeps its block
    lost_under : (k j : ℕ) → LiesUnder P (one_block level index) k j → keeps_block a k j ≡ false
    lost_under k j u = λ i. gone_under k j u i && not (takes_fresh a k j)

    -- all its blocks are to be given up, and the pointer to it is absent
    pub builds_gone : (blocks : List ℕ) → fresh_below a level index ≡ 0 → IsBlocksOf m plan (LiesUnder P (one_block level index)) blocks → Builds m n plan (with_released no_work blocks) (one_block level index) (λ _. absent)
    builds_gone blocks none all = record {
      pointers = λ bytes shows k j u. subst (λ q. IsPlaced m n plan (with_released no_work blocks) k j q) (sym (absent_down (with_bytes (block_map plan.order m) bytes) (level - k) absent j refl)) (record {
        none = λ e. refl;
        stays = λ e. absurd (true_or_false (keeps_block a k j) e (lost_under k j u));
        fresh = λ has fresh. absurd (true_or_false (has_position size a.new k j) has (gone_under k j u));
        bytes = λ leaf has fresh. absurd (true_or_false (has_position size a.new k j) has (gone_under k j u));
      });
      apart = λ bytes shows k j h i f g same. absurd (true_or_false (has_position size a.new k j) f.there (gone_under k j f.under));
      count = sym none ∙ sym (sum_one (fresh_below a level) index);
      released = λ k j q old lost. subst (λ x. is_in blocks x ≡ true) old.pointer (all.all k j old.under (λ e. old.present (sym old.pointer ∙ e)));
      only_lost = λ q s. let r = all.only q s in (r.0, r.1, record { under = r.2; pointer = r.3; present = r.4 }, ap (λ b. if b then false else true) (lost_under r.0 r.1 r.2));
      kept = λ k j q old keeps. absurd (true_or_false (is_kept a k j) keeps (ap (λ b. if b then is_touched size a.old a.new a.written k j else false) (lost_under k j old.under)));
      only_kept = λ q s. absurd (cc);
      edited = λ e s. absurd (omega (arith, s.1));
      edit_once = λ e f s t same. absurd (omega (arith, s.1));
    }
