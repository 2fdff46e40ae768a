use Rattle.std.proofs.Common.{rules, ◌≡◌, ◌<◌, ◌/◌, ◌^◌, length, slice_index_or, subst, sym}
use Rattle.qx_blocks.specs.BlockState.{BlockState}
use Rattle.qx_geom.specs.Pointer.{absent, per_block}
use Rattle.qx_ptree.specs.Trees.{PathLeads}
use Rattle.qx_ptree.proofs.PointerCounts.{power_fits}
use Rattle.qx_ptree.proofs.WorkingPaths.{first_pointer, node_leads}
use Rattle.qx_ptree.proofs.leaf_path.leaf.Goals as goal

pub pow-requires : goal.pow-requires
pow-requires g c =
    let fits : per_block (g.B.Blocks.state c.args.blocks.now).holdings.size ^ c.args.node.now.levels < 2 ^ 64 = power_fits _ c.args.node.now.levels c.size.ensures.consistent.size c.requires.levels.most in
    subst (λ k. (c.size.result / 4) ^ k < 2 ^ 64) (sym c.from.ensures) (subst (λ n. (n / 4) ^ c.args.node.now.levels < 2 ^ 64) (sym c.size.ensures.size) fits)

pub leaf_below-requires-clause-leads : goal.leaf_below-requires-clause-leads
leaf_below-requires-clause-leads g c =
    let m : BlockState = g.B.Blocks.state c.args.blocks.now in
    let long : length c.args.node.now.pointers ≡ 16 = search rules in
    λ told. subst (λ p. PathLeads c.args.order m c.args.node.now.levels p c.args.index)
    (sym (first_pointer m c.args.node.now c.args.index c.size.result c.from.result c.pow.result c.size.ensures.consistent c.requires.levels c.requires.below long c.size.ensures.size c.from.ensures c.pow.ensures))
    (node_leads c.args.order m c.args.node.now c.args.index c.size.ensures.consistent c.requires.levels c.requires.below (c.requires.works told))

pub returns-clause-found : goal.returns-clause-found
returns-clause-found g c =
    let m : BlockState = g.B.Blocks.state c.args.blocks.now in
    let long : length c.args.node.now.pointers ≡ 16 = search rules in
    let first : slice_index_or c.args.node.now.pointers (c.args.index / c.pow.result) 0 ≡ slice_index_or c.args.node.now.pointers (c.args.index / per_block m.holdings.size ^ c.args.node.now.levels) absent =
    first_pointer m c.args.node.now c.args.index c.size.result c.from.result c.pow.result c.size.ensures.consistent c.requires.levels c.requires.below long c.size.ensures.size c.from.ensures c.pow.ensures in
    rw first at c.leaf_below.ensures.found
