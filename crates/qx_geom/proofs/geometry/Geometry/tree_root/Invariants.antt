use Rattle.std.proofs.Common.{◌≡◌, ◌<◌, ℕ, get_or}
use Rattle.qx_geom.specs.Layout.{system_pointer}
use Rattle.qx_geom.proofs.geometry.Geometry.tree_root.Given as goal

-- the pointers so far are the root node's
abbrev pub invariant-loop-index : goal.invariant-loop-index
invariant-loop-index l = (k : ℕ) → k < l.index → get_or l.pointer-items k 0 ≡ system_pointer l.laid.blocksize l.base l.laid.leaves l.levels k
