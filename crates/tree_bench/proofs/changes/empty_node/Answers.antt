use Rattle.qx_ptree.proofs.EmptyNodes.{empty-node}
use Rattle.tree_bench.proofs.changes.empty_node.Goals as goal

pub returns : goal.returns
returns g c = empty-node c.args.order (g.B.Blocks.state c.args.blocks.now) c.size-size.ensures.consistent.size
