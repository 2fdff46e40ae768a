use Rattle.qx_super.proofs.ActiveAreas.{active_super-first, active_super-second, IsSome-active_super}
use Rattle.qx_super.proofs.laws.the_active_superblock_is_its_areas.Goals as goal

pub returns-clause-first : goal.returns-clause-first
returns-clause-first c = active_super-first

pub returns-clause-second : goal.returns-clause-second
returns-clause-second c = active_super-second

pub returns-clause-there : goal.returns-clause-there
returns-clause-there c = IsSome-active_super
