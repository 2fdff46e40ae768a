use Rattle.qx_super.proofs.ActiveAreas.{active_area-chosen, active_super-chosen}
use Rattle.qx_super.proofs.laws.the_choice_is_the_active_area.Goals as goal

pub returns-clause-area : goal.returns-clause-area
returns-clause-area c = active_area-chosen

pub returns-clause-superblock : goal.returns-clause-superblock
returns-clause-superblock c = active_super-chosen
