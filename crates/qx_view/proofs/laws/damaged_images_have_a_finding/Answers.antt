use Rattle.qx_view.proofs.Verdicts.{judged_damaged, damaged_judged}
use Rattle.qx_view.proofs.laws.damaged_images_have_a_finding.Goals as goal

pub returns-clause-damaged : goal.returns-clause-damaged
returns-clause-damaged c = judged_damaged

pub returns-clause-found : goal.returns-clause-found
returns-clause-found c = damaged_judged
