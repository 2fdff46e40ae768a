use Rattle.qx_model.proofs.SteadyTurns.{start_sound, turn_sound}
use Rattle.qx_model.proofs.whole_laws.trees_stay_sound.Goals as goal

pub returns-clause-start : goal.returns-clause-start
returns-clause-start c = start_sound

pub returns-clause-turn : goal.returns-clause-turn
returns-clause-turn c = turn_sound
