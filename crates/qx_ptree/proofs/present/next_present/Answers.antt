use Rattle.std.proofs.Common.{rules, ◌≡◌, ℕ, ◌*◌, ◌^◌, arith, length, subst}
use Rattle.qx_geom.specs.Pointer.{per_block}
use Rattle.qx_nodes.specs.Visits.{present_of}
use Rattle.qx_blocks.specs.BlockState.{BlockState}
use Rattle.qx_ptree.specs.Present.{HasNone}
use Rattle.qx_ptree.specs.Trees.{block_map}
use Rattle.qx_ptree.proofs.FirstHoles.{own_stands}
use Rattle.qx_ptree.proofs.KeptPlans.{kept_reach}
use Rattle.qx_ptree.proofs.NextLeaves.{none_whole}
use Rattle.qx_ptree.proofs.PartBounds.{top-reach}
use Rattle.qx_ptree.proofs.PointerCounts.{words_positive}
use Rattle.qx_ptree.proofs.present.next_present.Goals as goal

pub present_below-requires-clause-reach : goal.present_below-requires-clause-reach
present_below-requires-clause-reach g c =
    let m : BlockState = g.B.Blocks.state c.args.blocks.now in
    kept_reach m (g.B.Blocks.state c.loop-j.blocks) c.args.node.now.levels c.loop-j.j c.loop-j.invariant.keeps
    (top-reach m.holdings.size c.args.node.now.levels c.loop-j.j c.size-size.ensures.consistent.size c.requires.levels.most c.loop-j-test.true)

pub present_below-requires-clause-stands : goal.present_below-requires-clause-stands
present_below-requires-clause-stands g c told =
    let long : length c.args.node.now.pointers ≡ 16 = search rules in
    own_stands (block_map c.args.order (g.B.Blocks.state c.loop-j.blocks)) c.args.node.now c.loop-j.j long c.loop-j-test.true

pub returns-clause-found : goal.returns-clause-found
returns-clause-found g c told =
    let m : BlockState = g.B.Blocks.state c.args.blocks.now in
    let P : ℕ = per_block m.holdings.size in
    let all : c.loop-j.j ≡ 16 = omega (arith, c.loop-j-test.false, c.loop-j.auto) in
    none_whole (block_map c.args.order m) c.args.node.now c.args.from (words_positive m.holdings.size c.size-size.ensures.consistent.size)
    (subst (λ j. HasNone (present_of (block_map c.args.order m) c.args.node.now) c.args.from 0 (j * P ^ c.args.node.now.levels)) all (c.loop-j.invariant.none told))
