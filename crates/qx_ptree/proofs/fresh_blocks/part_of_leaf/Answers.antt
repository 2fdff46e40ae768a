use Rattle.std.proofs.Common.{◌≡◌, ◌∙◌, ℕ, arith, sym, ap}
use Rattle.std.specs.Prelude.{not, ◌==◌}
use Rattle.qx_geom.specs.Pointer.{absent}
use Rattle.qx_geom.specs.Positions.{Shape}
use Rattle.qx_geom.specs.Lists.{is_in}
use Rattle.qx_blocks.specs.BlockState.{BlockState}
use Rattle.qx_nodes.proofs.MetLeaves.{present_ascends}
use Rattle.qx_ptree.specs.declared.plan.Plan.{Plan}
use Rattle.qx_ptree.specs.Fates.{fate_of, leaves_after}
use Rattle.qx_ptree.specs.Parts.{leaf_part}
use Rattle.qx_ptree.specs.Plans.{alteration_in, planned_pointer}
use Rattle.qx_ptree.specs.Trees.{block_map}
use Rattle.qx_ptree.proofs.LeafParts.{part-leaf}
use Rattle.qx_ptree.proofs.OwnPositions.{below-leaf}
use Rattle.qx_ptree.proofs.PlannedPointers.{IsToldPlan, planned_below}
use Rattle.qx_ptree.proofs.PointerCounts.{size_positive, words_positive}
use Rattle.qx_ptree.proofs.WholeNeed.{leaves-are}
use Rattle.qx_ptree.proofs.fresh_blocks.part_of_leaf.Goals as goal

pub returns-clause-part : goal.returns-clause-part
returns-clause-part g c = λ told.
    let m : BlockState = g.B.Blocks.state c.args.blocks.now in
    let plan : Plan = c.args.plan.now in
    let b : ℕ = m.holdings.size in
    let old : Shape = (alteration_in plan m).old in
    let known : IsToldPlan m plan = record { consistent = c.size.ensures.consistent; met = c.requires.plan; told = told } in
    let pointer : c.args.pointer ≡ planned_pointer plan m 0 c.args.index = c.requires.pointer told in
    let had : not (c.args.pointer == absent) ≡ is_in old.present c.args.index =
    ap (λ q. not (q == absent)) pointer ∙ sym (planned_below m plan 0 c.args.index known (omega arith)) ∙ below-leaf b old.present c.args.index in
    let leaves : c.div_ceil-leaves.result ≡ leaves_after b plan.change = c.div_ceil-leaves.ensures ∙ leaves-are plan.change b c.size.result (size_positive b c.size.ensures.consistent.size) c.size.ensures.size in
    let fate : c.leaf_fate.result ≡ fate_of (leaves_after b plan.change) plan.change c.args.index = c.leaf_fate.ensures ∙ ap (λ n. fate_of n plan.change c.args.index) leaves in
    c.leaf_part.ensures
    ∙ (λ i. leaf_part (fate i) (had i) ((c.is_private-private.ensures.private ∙ ap m.holdings.private pointer) i))
    ∙ sym (part-leaf b old plan.change (λ k j. m.holdings.private (planned_pointer plan m k j)) c.args.index (present_ascends (block_map plan.order m) plan.node (words_positive b c.size.ensures.consistent.size)))
