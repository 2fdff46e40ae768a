use Rattle.qx_long.proofs.PlannedNames.{present_planned}
use Rattle.qx_long.proofs.laws.the_leaves_after_a_plan.Goals as goal

pub returns : goal.returns
returns c = present_planned
