use Rattle.qx_working.proofs.LaidNodes.{nodes_laid}
use Rattle.qx_working.proofs.laws.the_nodes_of_a_state_are_laid.Goals as goal

pub returns : goal.returns
returns c = nodes_laid
