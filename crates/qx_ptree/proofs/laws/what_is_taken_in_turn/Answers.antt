use Rattle.qx_ptree.proofs.TakenBlocks.{Takes-none, Takes-then}
use Rattle.qx_ptree.proofs.laws.what_is_taken_in_turn.Goals as goal

pub returns-clause-then : goal.returns-clause-then
returns-clause-then c = Takes-then

pub returns-clause-none : goal.returns-clause-none
returns-clause-none c = Takes-none
