use Rattle.std.proofs.Common.{◌≡◌, ◌<◌, ◌+◌, ◌-◌, ℕ, List, take, drop, length, slice_index, arith, sym, ◌∙◌, ap, subst, Ok}
use Rattle.std.proofs.lemmas.List.{get_or_default}
use Rattle.qx_geom.specs.Pointer.{absent, per_block}
use Rattle.qx_blocks.specs.BlockState.{BlockState}
use Rattle.qx_ptree.specs.Building.{GivesUp, LiesUnder}
use Rattle.qx_ptree.specs.Trees.{block_map}
use Rattle.qx_ptree.proofs.PartBounds.{top-reach}
use Rattle.qx_ptree.proofs.PointersByPosition.{pointer_top}
use Rattle.qx_ptree.proofs.RowSlices.{later_at, own_count, own_later}
use Rattle.qx_ptree.proofs.SpineParts.{outside_gives, outside_gives_none}
use Rattle.qx_ptree.proofs.giving_up.give_up_outside.Goals as goal

pub returns-then-top-level-clause-gone : goal.returns-then-top-level-clause-gone
returns-then-top-level-clause-gone g c =
    outside_gives_none (g.B.Blocks.state c.args.blocks.now) c.args.plan.now c.args.level c.args.work.now c.requires.consistent c.requires.plan c.if-top-level.true

pub give_up_each-requires-clause-reach : goal.give_up_each-requires-clause-reach
give_up_each-requires-clause-reach g c =
    let count : length (take 15 (drop 1 c.args.plan.now.node.pointers)) ≡ 15 = own_count c.args.plan.now.node.pointers c.args.plan.now.sixteen in
    λ some. top-reach (g.B.Blocks.state c.args.blocks.now).holdings.size c.args.plan.now.node.levels (1 + length (take 15 (drop 1 c.args.plan.now.node.pointers)) - 1) c.requires.consistent.size c.requires.plan.node.levels.most (omega arith)

pub give_up_each-requires-clause-pointers : goal.give_up_each-requires-clause-pointers
give_up_each-requires-clause-pointers g c told w low =
    let own : List ℕ = c.args.plan.now.node.pointers in
    let below : w < 15 = omega (arith, own_count own c.args.plan.now.sixteen, low) in
    ap (λ xs. slice_index xs w) (own_later own c.args.plan.now.sixteen) ∙ later_at 1 own w ∙ get_or_default own (1 + w) 0 absent (omega (arith, c.args.plan.now.sixteen))
    ∙ sym (pointer_top (block_map c.args.plan.now.order (g.B.Blocks.state c.args.blocks.now)) c.args.plan.now.node (1 + w))

pub returns-clause-gone : goal.returns-clause-gone
returns-clause-gone g c =
    let m : BlockState = g.B.Blocks.state c.args.blocks.now in
    let n : BlockState = g.B.Blocks.state c.give_up_each.new.blocks in
    let Q : ℕ → Type 0 = λ k. GivesUp m n c.args.work.now c.give_up_each.new.work c.args.plan.now (LiesUnder (per_block m.holdings.size) (record { level = c.args.plan.now.node.levels; first = 1; count = k })) (Ok tt) in
    outside_gives m n (g.B.Blocks.state c.give_up_spine.new.blocks) c.args.plan.now c.args.level c.args.work.now c.give_up_each.new.work c.give_up_spine.new.work c.give_up_spine.result
    c.requires.consistent c.requires.plan c.if-top-level.false c.give_up_each.ensures.reads.keeps c.give_up_spine.ensures.reads.keeps
    (subst Q (own_count c.args.plan.now.node.pointers c.args.plan.now.sixteen) c.in_ok-give_up_each.ensures.gone) c.give_up_spine.ensures.gone
