use Rattle.qx_model.proofs.ShownFaults.{uncalled_answer}
use Rattle.qx_model.proofs.fault_laws.an_act_that_calls_nothing_never_fails.Goals as goal

pub returns : goal.returns
returns c = uncalled_answer
