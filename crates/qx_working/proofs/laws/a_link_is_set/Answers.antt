use Rattle.qx_working.proofs.SetLinks.{link_beside, link_here}
use Rattle.qx_working.proofs.laws.a_link_is_set.Goals as goal

pub returns-clause-here : goal.returns-clause-here
returns-clause-here c = link_here

pub returns-clause-others : goal.returns-clause-others
returns-clause-others c = link_beside
