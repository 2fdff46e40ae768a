use Rattle.qx_super.proofs.ActiveAreas.{active-first_alone, active-second_alone}
use Rattle.qx_super.proofs.laws.a_superblock_alone_is_active.Goals as goal

pub returns-clause-first : goal.returns-clause-first
returns-clause-first c = active-first_alone

pub returns-clause-second : goal.returns-clause-second
returns-clause-second c = active-second_alone
