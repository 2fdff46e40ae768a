use Rattle.std.proofs.Common.{◌≡◌, ℕ, ◌*◌, ◌<◌, false}
use Rattle.qx_nodes.specs.BlockMap.{BlockMap}
use Rattle.qx_walk.specs.Bitmaps.{is_wrong_bit}
use Rattle.std.specs.Prelude.{Ok}
use Rattle.qx_pointers.specs.Halts.{Asks}
use Rattle.qx_pointers.specs.Shown.{Shows}
use Rattle.qx_walk.proofs.bitmap.first_wrong_bit.Given as goal

abbrev pub invariant-loop-leaf : goal.invariant-loop-leaf
invariant-loop-leaf g l = record {
  asks : Asks {T = ℕ} l.leaf (g.D.Dev.outside l.fn.host) (g.D.Dev.outside l.host) (Ok 0);
  bits : (m : BlockMap) → Shows l.shape (g.D.Dev.outside l.host) m → (b : ℕ) → b < l.leaf * m.size * 8 → is_wrong_bit m l.geometry l.fn.which l.met b ≡ false;
}
