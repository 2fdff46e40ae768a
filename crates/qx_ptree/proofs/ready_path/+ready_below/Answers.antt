use Rattle.std.proofs.Common.{rules, arith, ◌≡◌, ◌-◌, ◌∙◌}
use Rattle.qx_ptree.specs.Trees.{IsReadyPath}
use Rattle.qx_ptree.proofs.ReadyPaths.{leaf_under-ready, path_below, power_above, power_fits, word_on}
use Rattle.qx_ptree.proofs.ready_path.+ready_below.Goals as goal

pub pow-requires : goal.pow-requires
pow-requires g t c = rw (c.size.ensures.size, c.from.ensures) (power_fits (g.B.Blocks.state c.args.blocks.now) (c.args.level - 1) c.size.ensures.consistent (omega arith))

pub nonzero_div-word : goal.nonzero_div-word
nonzero_div-word g t c = rw (c.pow.ensures, c.size.ensures.size) (power_above (g.B.Blocks.state c.args.blocks.now) (c.from.result - 1) c.size.ensures.consistent)

pub ready_below-requires : goal.ready_below-requires
ready_below-requires g t c κs within =
    let m = g.B.Blocks.state c.args.blocks.now in
    let next : c.ready_word-next.result ≡ word_on c.args.order m (c.args.level - 1) c.args.pointer c.args.index = rw (c.pow.ensures, c.from.ensures, c.size.ensures.size) at c.ready_word-next.ensures.word in
    let path : IsReadyPath c.args.order (g.B.Blocks.state c.ready_word-next.new.blocks) (c.args.level - 1) c.ready_word-next.result c.args.index
    = rw (c.ready_word-next.ensures.same, next) (path_below c.args.order m c.args.level c.args.pointer c.args.index c.if-level-eq0.false c.requires.ready).1 in
    search (rules, path, arith)

pub returns-clause-leaf : goal.returns-clause-leaf
returns-clause-leaf g t c =
    let m = g.B.Blocks.state c.args.blocks.now in
    let next : c.ready_word-next.result ≡ word_on c.args.order m (c.args.level - 1) c.args.pointer c.args.index = rw (c.pow.ensures, c.from.ensures, c.size.ensures.size) at c.ready_word-next.ensures.word in
    leaf_under-ready c.args.order m c.args.level c.args.pointer c.args.index c.size.ensures.consistent c.if-level-eq0.false (path_below c.args.order m c.args.level c.args.pointer c.args.index c.if-level-eq0.false c.requires.ready).0
    ∙ (rw (c.ready_word-next.ensures.same, next) at c.ready_below.ensures.leaf)
