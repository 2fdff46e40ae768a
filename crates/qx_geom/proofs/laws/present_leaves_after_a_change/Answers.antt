use Rattle.qx_geom.proofs.PresentLeaves.{present_after_ascends, present_after_members}
use Rattle.qx_geom.proofs.laws.present_leaves_after_a_change.Goals as goal

pub returns-clause-members : goal.returns-clause-members
returns-clause-members c = present_after_members

pub returns-clause-ascending : goal.returns-clause-ascending
returns-clause-ascending c = present_after_ascends
