use Rattle.std.proofs.Common.{◌≡◌, ℕ, ◌<◌, ◌-◌, true}
use Rattle.qx_geom.specs.Layout.{IsPointerBlock}
use Rattle.qx_nodes.specs.BlockMap.{BlockMap}
use Rattle.qx_walk.specs.Layouts.{are_words_of}
use Rattle.std.specs.Prelude.{Ok}
use Rattle.qx_pointers.specs.Halts.{Asks}
use Rattle.qx_pointers.specs.Shown.{Shows}
use Rattle.qx_walk.proofs.halves.has_system_words.Given as goal

abbrev pub invariant-loop-block : goal.invariant-loop-block
invariant-loop-block g l = record {
  asks : Asks {T = ℕ} (l.block - l.first) (g.D.Dev.outside l.fn.host) (g.D.Dev.outside l.host) (Ok 0);
  words : (m : BlockMap) → Shows l.shape (g.D.Dev.outside l.host) m → (b : ℕ) → IsPointerBlock l.geometry l.which l.tree b → b < l.block → are_words_of l.geometry l.which l.tree b m.order (m.bytes b) ≡ true;
}
