use Rattle.qx_batch.proofs.KeptNodes.{kept_still, laid_still, met_still}
use Rattle.qx_batch.proofs.laws.a_refusal_leaves_all_nodes.Goals as goal

pub returns-clause-laid : goal.returns-clause-laid
returns-clause-laid c = λ order m n nodes s after told t l. laid_still order m n nodes s after told t l

pub returns-clause-kept : goal.returns-clause-kept
returns-clause-kept c = λ order m n nodes o node s after told t l is. kept_still order m n nodes s after told t l o node is

pub returns-clause-met : goal.returns-clause-met
returns-clause-met c = λ order m n nodes s after told t l all. met_still order m n nodes s after told t l all
