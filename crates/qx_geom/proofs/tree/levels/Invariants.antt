use Rattle.std.proofs.Common.{◌≡◌, ◌<◌, ℕ}
use Rattle.qx_geom.specs.Pointer.{reach}
use Rattle.qx_geom.proofs.tree.levels.Given as goal

-- what so many levels reach; fewer don't reach the leaves
abbrev pub invariant-loop-level : goal.invariant-loop-level
invariant-loop-level l = record {
  reached : l.reached ≡ reach l.blocksize l.level;
  fewer : (k : ℕ) → k < l.level → reach l.blocksize k < l.leaves;
}
