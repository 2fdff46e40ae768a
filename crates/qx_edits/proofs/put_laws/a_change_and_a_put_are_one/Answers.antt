use Rattle.qx_edits.proofs.PutLeaves.{both_are_one, change_alone}
use Rattle.qx_edits.proofs.put_laws.a_change_and_a_put_are_one.Goals as goal

pub returns-clause-both : goal.returns-clause-both
returns-clause-both c = both_are_one

pub returns-clause-change : goal.returns-clause-change
returns-clause-change c = change_alone
