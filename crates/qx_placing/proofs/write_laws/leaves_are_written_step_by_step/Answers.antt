use Rattle.qx_placing.proofs.WrittenLeaves.{added_writes, bytes_write, cleared_writes, lost_writes, moved_writes, name_writes, pointed_writes, step_writes}
use Rattle.qx_placing.proofs.write_laws.leaves_are_written_step_by_step.Goals as goal

pub returns-clause-step : goal.returns-clause-step
returns-clause-step c = step_writes

pub returns-clause-name : goal.returns-clause-name
returns-clause-name c = name_writes

pub returns-clause-added : goal.returns-clause-added
returns-clause-added c = added_writes

pub returns-clause-cleared : goal.returns-clause-cleared
returns-clause-cleared c = cleared_writes

pub returns-clause-pointed : goal.returns-clause-pointed
returns-clause-pointed c = pointed_writes

pub returns-clause-moved : goal.returns-clause-moved
returns-clause-moved c = moved_writes

pub returns-clause-lost : goal.returns-clause-lost
returns-clause-lost c = lost_writes

pub returns-clause-bytes : goal.returns-clause-bytes
returns-clause-bytes c = bytes_write
