use Rattle.qx_model.proofs.SeparatePositions.{positions_distinct}
use Rattle.qx_placing.proofs.FreeAfter.{free_after}
use Rattle.qx_placing.proofs.HeldAfter.{held_after}
use Rattle.qx_placing.proofs.LostPositions.{lost_same}
use Rattle.qx_placing.proofs.room_laws.what_an_edit_gives_up.Goals as goal

pub returns-clause-lost : goal.returns-clause-lost
returns-clause-lost c = λ order m c t nodes ps e private pl are. lost_same order m c t nodes ps e private pl are

pub returns-clause-held : goal.returns-clause-held
returns-clause-held c = λ s e ids old new. held_after s e ids (positions_distinct s.volume.blocksize s.working.tree old) (positions_distinct s.volume.blocksize e.tree new)

pub returns-clause-free : goal.returns-clause-free
returns-clause-free c = free_after
