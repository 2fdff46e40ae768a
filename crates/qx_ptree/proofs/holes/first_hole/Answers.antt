use Rattle.std.proofs.Common.{rules, ◌≡◌, ◌*◌, ◌/◌, ◌^◌, ◌<◌, ◌≤◌, false, arith, sym, subst, length}
use Rattle.qx_geom.specs.Lists.{is_in}
use Rattle.qx_geom.specs.Pointer.{per_block}
use Rattle.qx_nodes.specs.Visits.{present_of}
use Rattle.qx_blocks.specs.BlockState.{BlockState}
use Rattle.qx_ptree.specs.Trees.{block_map}
use Rattle.qx_ptree.proofs.FirstHoles.{own_stands, power_is, reach_lacks}
use Rattle.qx_ptree.proofs.KeptPlans.{kept_reach}
use Rattle.qx_ptree.proofs.PartBounds.{power-few, top-reach}
use Rattle.qx_ptree.proofs.PointerCounts.{power_fits, words_positive}
use Rattle.qx_ptree.proofs.holes.first_hole.Goals as goal

pub hole_below-requires-clause-reach : goal.hole_below-requires-clause-reach
hole_below-requires-clause-reach g c =
    let m : BlockState = g.B.Blocks.state c.args.blocks.now in
    kept_reach m (g.B.Blocks.state c.loop-j.blocks) c.args.node.now.levels c.loop-j.j c.loop-j.invariant.keeps
    (top-reach m.holdings.size c.args.node.now.levels c.loop-j.j c.size.ensures.consistent.size c.requires.levels.most c.loop-j-test.true)

pub hole_below-requires-clause-stands : goal.hole_below-requires-clause-stands
hole_below-requires-clause-stands g c told =
    let long : length c.args.node.now.pointers ≡ 16 = search rules in
    own_stands (block_map c.args.order (g.B.Blocks.state c.loop-j.blocks)) c.args.node.now c.loop-j.j long c.loop-j-test.true

pub pow-requires : goal.pow-requires
pow-requires g c =
    let fits : per_block (g.B.Blocks.state c.args.blocks.now).holdings.size ^ c.args.node.now.levels < 2 ^ 64 = power_fits _ c.args.node.now.levels c.size.ensures.consistent.size c.requires.levels.most in
    subst (λ k. (c.size.result / 4) ^ k < 2 ^ 64) (sym c.from.ensures) (subst (λ n. (n / 4) ^ c.args.node.now.levels < 2 ^ 64) (sym c.size.ensures.size) fits)

pub overflow_mul-result : goal.overflow_mul-result
overflow_mul-result g c =
    let m : BlockState = g.B.Blocks.state c.args.blocks.now in
    let power : c.pow.result ≡ per_block m.holdings.size ^ c.args.node.now.levels = power_is m c.args.node.now.levels c.size.result c.from.result c.pow.result c.size.ensures.size c.from.ensures c.pow.ensures in
    let few : per_block m.holdings.size ^ c.args.node.now.levels ≤ 2 ^ 50 = power-few m.holdings.size c.args.node.now.levels c.size.ensures.consistent.size c.requires.levels.most in
    omega (arith, power, few)

pub returns-clause-absent : goal.returns-clause-absent
returns-clause-absent g c told =
    let m : BlockState = g.B.Blocks.state c.args.blocks.now in
    let power : c.pow.result ≡ per_block m.holdings.size ^ c.args.node.now.levels = power_is m c.args.node.now.levels c.size.result c.from.result c.pow.result c.size.ensures.size c.from.ensures c.pow.ensures in
    subst (λ k. is_in (present_of (block_map c.args.order m) c.args.node.now) (16 * k) ≡ false) (sym power) (reach_lacks (block_map c.args.order m) c.args.node.now (words_positive m.holdings.size c.size.ensures.consistent.size))
