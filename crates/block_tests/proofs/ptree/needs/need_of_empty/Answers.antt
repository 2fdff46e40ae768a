use Rattle.qx_fields.specs.declared.order.Order.TheVariants.{Little}
use Rattle.qx_ptree.proofs.EmptyNodes.{empty-node}
use Rattle.block_tests.proofs.ptree.needs.need_of_empty.Goals as goal

pub need-requires-clause-node : goal.need-requires-clause-node
need-requires-clause-node g c = empty-node Little (g.B.Blocks.state c.args.blocks.now) c.requires.blocksize
