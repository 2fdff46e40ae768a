use Rattle.qx_super.proofs.ActiveAreas.{active_area-same, active_super-same}
use Rattle.qx_super.proofs.laws.the_areas_decide.Goals as goal

pub returns-clause-area : goal.returns-clause-area
returns-clause-area c = active_area-same

pub returns-clause-superblock : goal.returns-clause-superblock
returns-clause-superblock c = active_super-same
