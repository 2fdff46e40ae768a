use Rattle.std.proofs.Common.{subst}
use Rattle.qx_blocks.specs.BlockState.{BlockState}
use Rattle.qx_file.specs.Puts.{Puts}
use Rattle.block_tests.proofs.batches.put_one.Goals as goal

pub returns-clause-ready : goal.returns-clause-ready
returns-clause-ready g c = λ ws w apart committed here root written.
    let m : BlockState = g.B.Blocks.state c.args.blocks.now in
    let n : BlockState = g.B.Blocks.state c.put.new.blocks in
    c.what_is_put_leaves_what_is_ready.ensures.ready c.args.order m n ws w c.args.at c.args.bytes.now apart committed here written (subst (λ node. Puts c.args.order node c.args.at c.args.bytes.now m n) root c.put.ensures.puts)

pub returns-clause-nodes : goal.returns-clause-nodes
returns-clause-nodes g c = λ nodes owner laid there.
    c.a_put_changes_one_node.ensures c.args.order nodes (g.B.Blocks.state c.args.blocks.now) (g.B.Blocks.state c.put.new.blocks) owner c.args.at c.args.root.now c.args.bytes.now
    (laid.node owner c.args.root.now there).consistent laid there c.requires c.put.ensures.puts
