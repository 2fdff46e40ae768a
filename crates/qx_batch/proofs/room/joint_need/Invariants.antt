use Rattle.std.proofs.Common.{◌≡◌, ◌≤◌, ◌*◌, ◌^◌}
use Rattle.std.specs.Prelude.{take, IsTrue}
use Rattle.qx_blocks.specs.Calls.{Keeps}
use Rattle.qx_batch.specs.Plans.{need_of_all}
use Rattle.qx_batch.proofs.room.joint_need.Given as goal

abbrev pub invariant-loop-plan : goal.invariant-loop-plan
invariant-loop-plan g l = record {
  keeps : Keeps (g.B.Blocks.state l.initial.blocks) (g.B.Blocks.state l.blocks);
  total : IsTrue (g.B.Blocks.state l.blocks).tells → l.total ≡ need_of_all l.order (g.B.Blocks.state l.initial.blocks) (take l.plan-index l.planned);
  few : l.total ≤ l.plan-index * 2 ^ 55;
  aside : (g.B.Blocks.beside l.blocks).aside ≡ (g.B.Blocks.beside l.initial.blocks).aside;
  faults : (g.B.Blocks.beside l.blocks).faults ≡ (g.B.Blocks.beside l.initial.blocks).faults;
}
