use Rattle.qx_file.proofs.PlannedChanges.{written_can}
use Rattle.qx_batch.proofs.PutIntoNodes.{committed_still}
use Rattle.qx_batch.proofs.laws.what_is_put_leaves_what_is_ready.Goals as goal

pub returns-clause-can : goal.returns-clause-can
returns-clause-can c = λ order m w at count i below within. written_can order m w.prep.root w.plan.change at count i.levels below within i.ready

pub returns-clause-ready : goal.returns-clause-ready
returns-clause-ready c = λ order m n ws w at bytes apart committed here within puts. committed_still order m n ws w at bytes apart committed here within puts
