use Rattle.std.proofs.Common.{◌≡◌, ◌<◌, ℕ, IsTrue, slice_index}
use Rattle.qx_blocks.specs.Growth.{Grows}
use Rattle.block_tests.proofs.blocks.copy_each.Given as goal

abbrev pub invariant-loop-i : goal.invariant-loop-i
invariant-loop-i g l = record {
  grows : Grows l.i (g.B.Blocks.state l.fn.blocks) (g.B.Blocks.state l.blocks);
  there : (k : ℕ) → k < l.i → IsTrue ((g.B.Blocks.state l.blocks).holdings.held (slice_index l.into k));
  copies : IsTrue (g.B.Blocks.state l.blocks).tells → (k : ℕ) → k < l.i
      → (g.B.Blocks.state l.blocks).bytes (slice_index l.into k) ≡ (g.B.Blocks.state l.fn.blocks).bytes (slice_index l.from k);
  aside : (g.B.Blocks.beside l.blocks).aside ≡ (g.B.Blocks.beside l.fn.blocks).aside;
  faults : (g.B.Blocks.beside l.blocks).faults ≡ (g.B.Blocks.beside l.fn.blocks).faults;
}
