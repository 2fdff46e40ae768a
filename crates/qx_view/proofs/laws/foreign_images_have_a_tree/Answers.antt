use Rattle.qx_view.proofs.Verdicts.{judged_foreign, foreign_judged}
use Rattle.qx_view.proofs.laws.foreign_images_have_a_tree.Goals as goal

pub returns-clause-foreign : goal.returns-clause-foreign
returns-clause-foreign c = judged_foreign

pub returns-clause-reason : goal.returns-clause-reason
returns-clause-reason c = foreign_judged
