use Rattle.qx_ptree.specs.Trees.{IsNode}
use Rattle.tree_bench.proofs.tests.caches.first_blocks.Given as goal

abbrev pub invariant-loop-index : goal.invariant-loop-index
invariant-loop-index g l = IsNode l.order (g.B.Blocks.state l.blocks) l.fn.node
