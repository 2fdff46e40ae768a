use Rattle.std.proofs.Common.{◌≡◌, length}
use Rattle.qx_resolve.proofs.tests.give_links.Given as goal

abbrev pub invariant-loop-n : goal.invariant-loop-n
invariant-loop-n g l = record {
  size : (g.B.Blocks.state l.blocks).holdings.size ≡ (g.B.Blocks.state l.initial.blocks).holdings.size;
  tells : (g.B.Blocks.state l.blocks).tells ≡ (g.B.Blocks.state l.initial.blocks).tells;
  places : length l.state.links ≡ length l.state.table.inodes;
  order : l.state.table.order ≡ l.state.order;
}
