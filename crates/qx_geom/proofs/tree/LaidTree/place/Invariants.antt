use Rattle.std.proofs.Common.{◌≡◌, ◌+◌}
use Rattle.qx_geom.specs.Layout.{below_level}
use Rattle.qx_geom.proofs.tree.LaidTree.place.Given as goal

-- the block, counted over the whole tree
abbrev pub invariant-loop-level : goal.invariant-loop-level
invariant-loop-level l = l.fn.behind + l.self.leaves ≡ below_level l.self.blocksize l.self.leaves l.level + l.index
