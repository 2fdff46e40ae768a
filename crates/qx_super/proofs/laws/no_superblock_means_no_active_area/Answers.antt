use Rattle.qx_super.proofs.ActiveAreas.{active-none}
use Rattle.qx_super.proofs.laws.no_superblock_means_no_active_area.Goals as goal

pub returns-clause-area : goal.returns-clause-area
returns-clause-area c = λ img first second. (active-none img first second).0

pub returns-clause-superblock : goal.returns-clause-superblock
returns-clause-superblock c = λ img first second. (active-none img first second).1
