-- What the change of a plan makes of the parts of its node.
use Rattle.std.proofs.Common.{◌≡◌, ◌≢◌, ℕ, ◌<◌, ◌≤◌, ◌⊎◌, inl, inr, sym, ◌∙◌, ap, arith}
use Rattle.std.specs.Prelude.{true, false, not, ◌==◌}
use Rattle.std.specs.Int.{div_ceil}
use Rattle.std.proofs.lemmas.Bool.{cases_lt}
use Rattle.qx_geom.specs.Layout.{levels_for}
use Rattle.qx_geom.specs.Pointer.{absent, per_block}
use Rattle.qx_nodes.proofs.MetLeaves.{present_ascends}
use Rattle.qx_blocks.specs.BlockState.{BlockState, IsConsistent}
use Rattle.qx_ptree.specs.declared.change.Change.{Change}
use Rattle.qx_ptree.specs.declared.change.Fate.{Fate}
use Rattle.qx_ptree.specs.declared.change.Fate.TheVariants.{Written}
use Rattle.qx_ptree.specs.declared.plan.Plan.{Plan}
use Rattle.qx_ptree.specs.Alterations.{fresh_count}
use Rattle.qx_ptree.specs.Fates.{leaves_after}
use Rattle.qx_ptree.specs.Parts.{full_below, has_below, leaf_part, part_of}
use Rattle.qx_ptree.specs.Plans.{IsPlan, alteration_in, planned_pointer}
use Rattle.qx_ptree.specs.Trees.{block_map}
use Rattle.qx_ptree.proofs.AlikeParts.{AllFare, part-unwritten, part-written}
use Rattle.qx_ptree.proofs.PlannedPointers.{IsToldPlan, planned_above, planned_below}
use Rattle.qx_ptree.proofs.PointerCounts.{size_positive, words_positive}
use Rattle.qx_ptree.proofs.PointersByPosition.{at_above}
use Rattle.qx_ptree.proofs.SumsBelow.{sum_up_to}
use Rattle.qx_ptree.proofs.WholeNeed.{leaves-are, new-reached, whole-need}

-- whether something was below a block is whether its pointer is there, but for the first block above the node's levels
pub planned-had : (m : BlockState) (plan : Plan) (k j pointer : ℕ) → IsToldPlan m plan → (k ≤ plan.node.levels) ⊎ (j ≢ 0) → pointer ≡ planned_pointer plan m k j
    → (not (pointer == absent) ≡ has_below m.holdings.size (alteration_in plan m).old.present k j) × ((k ≤ plan.node.levels) ⊎ (not (pointer == absent) ≡ false))
planned-had m plan k j pointer known where_ is = elim (cases_lt plan.node.levels k) [
  | inl above ↦
      let other : j ≢ 0 = elim where_ [ inl within ↦ absurd (omega arith) | inr past ↦ past ] in
      let none : not (pointer == absent) ≡ false = ap (λ q. not (q == absent)) (is ∙ at_above (block_map plan.order m) plan.node k j above) in
      (none ∙ sym (planned_above m plan k j known above other), inr none)
  | inr within ↦ (ap (λ q. not (q == absent)) is ∙ sym (planned_below m plan k j known within), inl within)
]

-- where no leaf below a block is written and all fare alike
pub alike-unwritten : (m : BlockState) (plan : Plan) (k j pointer : ℕ) (f : Fate) → IsToldPlan m plan → (k ≤ plan.node.levels) ⊎ (j ≢ 0) → pointer ≡ planned_pointer plan m k j
    → k ≤ levels_for m.holdings.size (leaves_after m.holdings.size plan.change) → f ≢ Written → AllFare m.holdings.size plan.change f k j
    → leaf_part f (not (pointer == absent)) true ≡ part_of (alteration_in plan m) k j
alike-unwritten m plan k j pointer f known where_ is le un all =
    let words : 0 < per_block m.holdings.size = words_positive m.holdings.size known.consistent.size in
    let had = planned-had m plan k j pointer known where_ is in
    sym (part-unwritten m.holdings.size (alteration_in plan m).old plan.change (λ k j. m.holdings.private (planned_pointer plan m k j)) (present_ascends (block_map plan.order m) plan.node words) words f k j (not (pointer == absent)) true un le had.1 had.0 all)

-- where all of them are written and nothing was there
pub alike-written : (m : BlockState) (plan : Plan) (k j pointer : ℕ) → IsToldPlan m plan → (k ≤ plan.node.levels) ⊎ (j ≢ 0) → pointer ≡ planned_pointer plan m k j
    → k ≤ levels_for m.holdings.size (leaves_after m.holdings.size plan.change) → not (pointer == absent) ≡ false → AllFare m.holdings.size plan.change Written k j
    → record { need = full_below (per_block m.holdings.size) k; changed = true; present = true } ≡ part_of (alteration_in plan m) k j
alike-written m plan k j pointer known where_ is le none all =
    let words : 0 < per_block m.holdings.size = words_positive m.holdings.size known.consistent.size in
    let had = planned-had m plan k j pointer known where_ is in
    sym (part-written m.holdings.size (alteration_in plan m).old plan.change (λ k j. m.holdings.private (planned_pointer plan m k j)) (present_ascends (block_map plan.order m) plan.node words) words k j le (sym had.0 ∙ none) all)

-- ---- the whole

-- the level of the new node's own pointers, as the code finds it
pub level-is : (blocksize size leaves level : ℕ) (c : Change) → 0 < blocksize → size ≡ blocksize → leaves ≡ div_ceil c.size size → level ≡ levels_for size leaves → level ≡ levels_for blocksize (leaves_after blocksize c)
level-is blocksize size leaves level c some size_is leaves_is is = is ∙ (λ i. levels_for (size_is i) ((leaves_is ∙ leaves-are c blocksize size some size_is) i))

-- what the parts below them take is what the change takes
pub need-is : (m : BlockState) (plan : Plan) (level n need : ℕ) → IsConsistent m → IsPlan m plan → level ≡ levels_for m.holdings.size (leaves_after m.holdings.size plan.change) → n ≡ 16
    → need ≡ sum_up_to n (λ j. (part_of (alteration_in plan m) level j).need) → need ≡ fresh_count (alteration_in plan m)
need-is m plan level n need s met level_is all is =
    is ∙ (λ i. sum_up_to (all i) (λ j. (part_of (alteration_in plan m) (level_is i) j).need))
    ∙ sym (whole-need (alteration_in plan m) (words_positive m.holdings.size s.size) (new-reached m.holdings.size (alteration_in plan m).old plan.change (size_positive m.holdings.size s.size) met.change))
