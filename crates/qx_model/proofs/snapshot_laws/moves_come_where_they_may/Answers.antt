use Rattle.qx_model.proofs.KeptSerials.{serials_step}
use Rattle.qx_model.proofs.OrderedMoves.{act_may, background_may, timed_may}
use Rattle.qx_model.proofs.snapshot_laws.moves_come_where_they_may.Goals as goal

pub returns-clause-timed : goal.returns-clause-timed
returns-clause-timed c = timed_may

pub returns-clause-act : goal.returns-clause-act
returns-clause-act c = λ f s e h. act_may f s e (serials_step s.durable.serial s.frozen h.frozen)

pub returns-clause-background : goal.returns-clause-background
returns-clause-background c = background_may
