use Rattle.qx_long.proofs.PlannedNames.{change_of, size_grows, size_whole}
use Rattle.qx_long.proofs.laws.a_plan_may_be_made.Goals as goal

pub returns-clause-change : goal.returns-clause-change
returns-clause-change c = change_of

pub returns-clause-grows : goal.returns-clause-grows
returns-clause-grows c = size_grows

pub returns-clause-whole : goal.returns-clause-whole
returns-clause-whole c = size_whole
