use Rattle.qx_model.proofs.SteadyTurns.{start_places, turn_places}
use Rattle.qx_model.proofs.whole_laws.trees_keep_the_inodes_of_the_volume.Goals as goal

pub returns-clause-start : goal.returns-clause-start
returns-clause-start c = start_places

pub returns-clause-turn : goal.returns-clause-turn
returns-clause-turn c = turn_places
