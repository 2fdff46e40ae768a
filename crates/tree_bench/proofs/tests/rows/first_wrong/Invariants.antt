use Rattle.std.proofs.Common.{◌≡◌}
use Rattle.qx_ptree.specs.Trees.{IsNode}
use Rattle.tree_bench.proofs.tests.rows.first_wrong.Given as goal

abbrev pub invariant-loop-place : goal.invariant-loop-place
invariant-loop-place g l = IsNode l.order (g.B.Blocks.state l.blocks) l.node × ((g.B.Blocks.beside l.blocks).aside ≡ (g.B.Blocks.beside l.fn.blocks).aside)
