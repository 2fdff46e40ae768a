use Rattle.std.proofs.Common.{◌≡◌, length, IsTrue}
use Rattle.qx_ptree.proofs.WholeNodes.{IsUnderway}
use Rattle.qx_ptree.proofs.preparing.prepare_tree.Given as goal

-- the parts below the pointers so far are prepared
abbrev pub invariant-loop-j : goal.invariant-loop-j
invariant-loop-j g l = record {
  underway : IsUnderway (g.B.Blocks.state l.fn.blocks) (g.B.Blocks.state l.blocks) l.fn.work l.work l.plan l.level l.j l.pointers;
  long : length l.pointers ≡ 16;
  told : IsTrue (g.B.Blocks.state l.blocks).tells → IsTrue (g.B.Blocks.state l.initial.blocks).tells;
  aside : (g.B.Blocks.beside l.blocks).aside ≡ (g.B.Blocks.beside l.fn.blocks).aside;
  faults : (g.B.Blocks.beside l.blocks).faults ≡ (g.B.Blocks.beside l.fn.blocks).faults;
}
