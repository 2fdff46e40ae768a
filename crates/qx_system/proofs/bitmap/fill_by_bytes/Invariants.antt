use Rattle.std.proofs.Common.{◌≡◌, ℕ, ◌+◌, ◌*◌, ◌<◌, get_or}
use Rattle.qx_system.specs.SystemBytes.{bitmap_byte}
use Rattle.qx_system.proofs.bitmap.fill_by_bytes.Given as goal

abbrev pub invariant-loop-index : goal.invariant-loop-index
invariant-loop-index g l = (k : ℕ) → k < l.index → get_or l.into k 0 ≡ bitmap_byte l.geometry (g.H.Held.held l.held) (l.leaf * l.geometry.blocksize + k)
