use Rattle.std.proofs.Common.{◌≡◌, ap, length, rules, ◌^◌, ◌/◌}
use Rattle.qx_geom.specs.Pointer.{per_block}
use Rattle.qx_ptree.proofs.ReadyPaths.{power_fits, top_path, top_end}
use Rattle.qx_ptree.proofs.ready_path.ready_leaf.Goals as goal

pub pow-requires : goal.pow-requires
pow-requires g c =
    rw (c.size.ensures.size, c.from.ensures) (power_fits (g.B.Blocks.state c.args.blocks.now) c.args.node.now.levels c.size.ensures.consistent c.requires.levels.most)

pub ready_below-requires-clause-ready : goal.ready_below-requires-clause-ready
ready_below-requires-clause-ready g c =
    let top : c.pow.result ≡ per_block (g.B.Blocks.state c.args.blocks.now).holdings.size ^ c.args.node.now.levels = rw (c.pow.ensures, c.from.ensures, c.size.ensures.size) in
    let sixteen : length c.args.node.now.pointers ≡ 16 = search rules in
    top_path c.args.order (g.B.Blocks.state c.args.blocks.now) c.args.node.now c.args.index (c.args.index / c.pow.result) c.size.ensures.consistent c.requires.levels sixteen c.requires.below (ap (λ n. c.args.index / n) top) c.requires.ready

pub returns-clause-pointer : goal.returns-clause-pointer
returns-clause-pointer g c =
    let top : c.pow.result ≡ per_block (g.B.Blocks.state c.args.blocks.now).holdings.size ^ c.args.node.now.levels = rw (c.pow.ensures, c.from.ensures, c.size.ensures.size) in
    let sixteen : length c.args.node.now.pointers ≡ 16 = search rules in
    top_end c.args.order (g.B.Blocks.state c.args.blocks.now) c.args.node.now c.args.index (c.args.index / c.pow.result) c.ready_below.result c.size.ensures.consistent c.requires.levels sixteen c.requires.below (ap (λ n. c.args.index / n) top) c.requires.ready c.ready_below.ensures.leaf
