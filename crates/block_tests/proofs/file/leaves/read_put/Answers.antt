use Rattle.std.proofs.Common.{◌+◌, ◌*◌, ◌≤◌, sym, subst, length}
use Rattle.qx_blocks.specs.BlockState.{BlockState}
use Rattle.qx_file.specs.Puts.{CanPut}
use Rattle.qx_file.proofs.PutContent.{works_after}
use Rattle.block_tests.proofs.file.leaves.read_put.Goals as goal

pub read-requires-clause-works : goal.read-requires-clause-works
read-requires-clause-works g c = λ told.
    let m : BlockState = g.B.Blocks.state c.two_leaves.new.blocks in
    let can : CanPut c.args.order m c.in_ok-node.node c.args.at (length c.args.bytes.now) =
    c.in_ok-node.ensures.can c.args.at (length c.args.bytes.now) (subst (λ b. c.args.at + (length c.args.bytes.now) ≤ 2 * b) (sym c.two_leaves.ensures.blocksize) c.requires.within) in
    works_after c.args.order m (g.B.Blocks.state c.put.new.blocks) c.in_ok-node.node c.args.at c.args.bytes.now c.in_ok-node.ensures.consistent can c.in_ok-node.ensures.once c.put.ensures.puts c.in_ok-node.ensures.works
