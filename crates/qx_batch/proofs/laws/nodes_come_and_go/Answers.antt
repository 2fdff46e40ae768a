use Rattle.qx_batch.proofs.PlacedNodes.{laid_with, laid_without, met_with, met_without}
use Rattle.qx_batch.proofs.laws.nodes_come_and_go.Goals as goal

pub returns-clause-comes : goal.returns-clause-comes
returns-clause-comes c = λ order m nodes o node l is apart. laid_with order m nodes o l node is apart

pub returns-clause-goes : goal.returns-clause-goes
returns-clause-goes c = λ order m nodes o l. laid_without order m nodes o l

pub returns-clause-met_with : goal.returns-clause-met_with
returns-clause-met_with c = met_with

pub returns-clause-met_without : goal.returns-clause-met_without
returns-clause-met_without c = met_without
