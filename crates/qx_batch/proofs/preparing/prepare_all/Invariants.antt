use Rattle.std.proofs.Common.{◌≡◌}
use Rattle.std.specs.Prelude.{take}
use Rattle.qx_blocks.specs.BlockState.{IsConsistent}
use Rattle.qx_batch.proofs.PreparedBatches.{AreSoFar}
use Rattle.qx_batch.proofs.preparing.prepare_all.Given as goal

abbrev pub invariant-loop-plan : goal.invariant-loop-plan
invariant-loop-plan g l = record {
  so_far : AreSoFar l.order (g.B.Blocks.state l.initial.blocks) (g.B.Blocks.state l.blocks) (take l.plan-index l.planned) l.batch;
  consistent : IsConsistent (g.B.Blocks.state l.blocks);
  aside : (g.B.Blocks.beside l.blocks).aside ≡ (g.B.Blocks.beside l.initial.blocks).aside;
  faults : (g.B.Blocks.beside l.blocks).faults ≡ (g.B.Blocks.beside l.initial.blocks).faults;
}
