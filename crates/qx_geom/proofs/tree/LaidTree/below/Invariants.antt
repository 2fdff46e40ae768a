use Rattle.std.proofs.Common.{◌≡◌}
use Rattle.qx_geom.specs.Layout.{below_level}
use Rattle.qx_geom.proofs.tree.LaidTree.below.Given as goal

abbrev pub invariant-loop-k : goal.invariant-loop-k
invariant-loop-k l = l.blocks ≡ below_level l.self.blocksize l.self.leaves l.k
