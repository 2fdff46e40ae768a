use Rattle.qx_super.proofs.ActiveAreas.{active-first_later, active-second_later}
use Rattle.qx_super.proofs.laws.the_later_of_two_superblocks_is_active.Goals as goal

pub returns-clause-second : goal.returns-clause-second
returns-clause-second c = active-second_later

pub returns-clause-first : goal.returns-clause-first
returns-clause-first c = active-first_later
