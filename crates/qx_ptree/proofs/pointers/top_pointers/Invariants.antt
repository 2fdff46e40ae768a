use Rattle.std.proofs.Common.{◌≡◌, ◌<◌, ◌+◌, ◌-◌, ℕ, IsTrue, slice_index}
use Rattle.qx_blocks.specs.Calls.{Keeps}
use Rattle.qx_ptree.specs.Plans.{planned_pointer}
use Rattle.qx_ptree.proofs.pointers.top_pointers.Given as goal

-- the pointers are those of the level that is reached so far
abbrev pub invariant-loop : goal.invariant-loop
invariant-loop g l = record {
  pointers : IsTrue (g.B.Blocks.state l.blocks).tells → (j : ℕ) → j < 16 → slice_index l.pointers j ≡ planned_pointer l.plan (g.B.Blocks.state l.fn.blocks) (l.plan.node.levels + l.level - l.counter) j;
  keeps : Keeps (g.B.Blocks.state l.fn.blocks) (g.B.Blocks.state l.blocks);
  aside : (g.B.Blocks.beside l.blocks).aside ≡ (g.B.Blocks.beside l.fn.blocks).aside;
  faults : (g.B.Blocks.beside l.blocks).faults ≡ (g.B.Blocks.beside l.fn.blocks).faults;
}
