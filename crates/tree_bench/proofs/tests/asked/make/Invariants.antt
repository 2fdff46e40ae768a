use Rattle.std.proofs.Common.{◌≡◌}
use Rattle.qx_ptree.specs.Trees.{IsNode}
use Rattle.tree_bench.proofs.tests.asked.make.Given as goal

abbrev pub invariant-loop-step : goal.invariant-loop-step
invariant-loop-step g l = IsNode l.order (g.B.Blocks.state l.blocks) l.node × ((g.B.Blocks.beside l.blocks).aside ≡ (g.B.Blocks.beside l.fn.blocks).aside)
