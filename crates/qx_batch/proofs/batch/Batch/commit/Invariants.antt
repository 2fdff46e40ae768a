use Rattle.std.proofs.Common.{◌≡◌}
use Rattle.qx_batch.proofs.CommittedStates.{IsCommitting}
use Rattle.qx_batch.proofs.batch.Batch.commit.Given as goal

abbrev pub invariant-loop-last : goal.invariant-loop-last
invariant-loop-last g l = record {
  committing : IsCommitting (g.B.Blocks.state l.initial.blocks) (g.B.Blocks.state l.blocks) l.initial.waiting.items l.waiting.items;
  others : g.B.Blocks.beside l.blocks ≡ g.B.Blocks.beside l.initial.blocks;
}

abbrev pub decreases-loop-last : goal.decreases-loop-last
decreases-loop-last g l = goal.left-loop-last g l
