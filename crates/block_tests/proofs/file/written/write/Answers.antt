use Rattle.std.proofs.Common.{◌≡◌, ◌∙◌, sym, length}
use Rattle.qx_file.specs.FilePlans.{write_change}
use Rattle.qx_file.specs.Puts.{CanPut}
use Rattle.qx_file.proofs.CommittedFiles.{plan_can, plan_is_change, put_node}
use Rattle.block_tests.proofs.file.written.write.Goals as goal

pub make-requires-clause-change : goal.make-requires-clause-change
make-requires-clause-change g c =
    let is : c.in-Ok.change ≡ write_change c.args.node.now c.args.at (length c.args.bytes.now) c.size-blocksize.result = cc (c.in-Ok.ensures.fits c.requires.end) in
    plan_is_change c.args.node.now c.args.at (length c.args.bytes.now) c.size-blocksize.result (g.B.Blocks.state c.args.blocks.now).holdings.size c.in-Ok.change c.size-blocksize.ensures.size
    c.size-blocksize.ensures.consistent.size c.requires.node.levels c.requires.some c.requires.end is

pub put-requires : goal.put-requires
put-requires g c =
    let is : c.in-Ok.change ≡ write_change c.args.node.now c.args.at (length c.args.bytes.now) c.size-blocksize.result = cc (c.in-Ok.ensures.fits c.requires.end) in
    plan_can c.args.order (g.B.Blocks.state c.make.new.blocks) c.args.node.now c.make.new.node c.args.at (length c.args.bytes.now) c.size-blocksize.result c.in-Ok.change
    (c.size-blocksize.ensures.size ∙ sym c.in_ok-make.ensures.blocksize) c.in_ok-make.ensures.consistent c.requires.some is c.in_ok-make.ensures.node.levels c.in_ok-make.ensures.size c.in_ok-make.ensures.written

pub returns : goal.returns
returns g c =
    let is : c.in-Ok.change ≡ write_change c.args.node.now c.args.at (length c.args.bytes.now) c.size-blocksize.result = cc (c.in-Ok.ensures.fits c.requires.end) in
    let can : CanPut c.args.order (g.B.Blocks.state c.make.new.blocks) c.make.new.node c.args.at (length c.args.bytes.now) =
    plan_can c.args.order (g.B.Blocks.state c.make.new.blocks) c.args.node.now c.make.new.node c.args.at (length c.args.bytes.now) c.size-blocksize.result c.in-Ok.change
    (c.size-blocksize.ensures.size ∙ sym c.in_ok-make.ensures.blocksize) c.in_ok-make.ensures.consistent c.requires.some is c.in_ok-make.ensures.node.levels c.in_ok-make.ensures.size c.in_ok-make.ensures.written in
    put_node c.args.order (g.B.Blocks.state c.make.new.blocks) (g.B.Blocks.state c.put.new.blocks) c.make.new.node c.args.at c.args.bytes.now c.in_ok-make.ensures.consistent can c.put.ensures.puts
    c.in_ok-make.ensures.node
