use Rattle.qx_model.proofs.KeptSerials.{start_serials, turn_serials}
use Rattle.qx_model.proofs.snapshot_laws.serials_follow_one_another.Goals as goal

pub returns-clause-start : goal.returns-clause-start
returns-clause-start c = start_serials

pub returns-clause-turn : goal.returns-clause-turn
returns-clause-turn c = turn_serials
