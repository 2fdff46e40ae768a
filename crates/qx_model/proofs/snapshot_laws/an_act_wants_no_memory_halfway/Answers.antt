use Rattle.qx_model.proofs.KeptSerials.{serials_step}
use Rattle.qx_model.proofs.OrderedMoves.{memory_between}
use Rattle.qx_model.proofs.snapshot_laws.an_act_wants_no_memory_halfway.Goals as goal

pub returns : goal.returns
returns c = λ f s e stop h may is cause. memory_between f s e stop (serials_step s.durable.serial s.frozen h.frozen) may is cause
