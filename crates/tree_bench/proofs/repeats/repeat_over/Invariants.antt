use Rattle.qx_ptree.specs.Trees.{IsNode}
use Rattle.tree_bench.proofs.repeats.repeat_over.Given as goal

abbrev pub invariant-loop : goal.invariant-loop
invariant-loop g l = IsNode l.order (g.B.Blocks.state l.blocks) l.node
