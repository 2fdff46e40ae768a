use Rattle.std.proofs.Common.{◌≡◌, ◌∙◌, ◌-◌, ◌%◌, sym, ap, replicate}
use Rattle.qx_blocks.specs.BlockState.{BlockState, Holdings}
use Rattle.qx_file.specs.FilePlans.{size_change}
use Rattle.qx_file.specs.Puts.{CanPut}
use Rattle.qx_file.proofs.CommittedFiles.{fill_can, put_node, size_can}
use Rattle.block_tests.proofs.file.written.resize.Goals as goal

pub put_fill-requires : goal.put_fill-requires
put_fill-requires g c =
    let m : BlockState = g.B.Blocks.state c.make.new.blocks in
    let present = c.in_ok-present.present in
    let is : c.in-Ok.change ≡ size_change c.args.node.now c.args.size present c.size-block.result = cc (c.in-Ok.ensures.fits c.requires.end) in
    let same : c.size-block.result ≡ m.holdings.size = c.size-block.ensures.size ∙ sym (c.in_ok-make.ensures.blocksize ∙ ap (λ (h : Holdings). h.size) c.in_ok-present.ensures.keeps.holdings) in
    let can : CanPut c.args.order m c.make.new.node c.args.size (c.size-block.result - c.args.size % c.size-block.result) =
    size_can c.args.order m c.args.node.now c.make.new.node c.args.size c.size-block.result present c.in-Ok.change same c.in_ok-make.ensures.consistent is c.if-change-gt0.true c.in_ok-make.ensures.node.levels c.in_ok-make.ensures.size c.in_ok-make.ensures.written in
    can

pub returns-then-change-gt0 : goal.returns-then-change-gt0
returns-then-change-gt0 g c =
    let m : BlockState = g.B.Blocks.state c.make.new.blocks in
    let present = c.in_ok-present.present in
    let is : c.in-Ok.change ≡ size_change c.args.node.now c.args.size present c.size-block.result = cc (c.in-Ok.ensures.fits c.requires.end) in
    let same : c.size-block.result ≡ m.holdings.size = c.size-block.ensures.size ∙ sym (c.in_ok-make.ensures.blocksize ∙ ap (λ (h : Holdings). h.size) c.in_ok-present.ensures.keeps.holdings) in
    let can : CanPut c.args.order m c.make.new.node c.args.size (c.size-block.result - c.args.size % c.size-block.result) =
    size_can c.args.order m c.args.node.now c.make.new.node c.args.size c.size-block.result present c.in-Ok.change same c.in_ok-make.ensures.consistent is c.if-change-gt0.true c.in_ok-make.ensures.node.levels c.in_ok-make.ensures.size c.in_ok-make.ensures.written in
    let count = c.size-block.result - c.args.size % c.size-block.result in
    put_node c.args.order m (g.B.Blocks.state c.put_fill.new.blocks) c.make.new.node c.args.size (replicate count 0) c.in_ok-make.ensures.consistent (fill_can c.args.order m c.make.new.node c.args.size count 0 can)
    c.put_fill.ensures.puts c.in_ok-make.ensures.node
