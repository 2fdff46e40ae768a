use Rattle.std.proofs.Common.{◌≡◌, ℕ, ◌+◌, ◌*◌, ◌≤◌, ◌<◌, false}
use Rattle.qx_walk.specs.Bitmaps.{is_wrong_in}
use Rattle.qx_walk.proofs.bitmap.first_wrong_in.Given as goal

abbrev pub invariant-loop-index : goal.invariant-loop-index
invariant-loop-index l = (b : ℕ) → l.begin * 8 ≤ b → b < (l.begin + l.index) * 8 → is_wrong_in l.geometry l.met l.begin l.bytes b ≡ false
