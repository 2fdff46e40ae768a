use Rattle.qx_ptree.proofs.SeveralChanges.{wait_before, wait_begins, wait_commits, wait_later, wait_others, wait_taken}
use Rattle.qx_ptree.proofs.laws.a_prepared_change_waits.Goals as goal

pub returns-clause-begins : goal.returns-clause-begins
returns-clause-begins c = wait_begins

pub returns-clause-later : goal.returns-clause-later
returns-clause-later c = wait_later

pub returns-clause-taken : goal.returns-clause-taken
returns-clause-taken c = wait_taken

pub returns-clause-others : goal.returns-clause-others
returns-clause-others c = wait_others

pub returns-clause-before : goal.returns-clause-before
returns-clause-before c = wait_before

pub returns-clause-commits : goal.returns-clause-commits
returns-clause-commits c = wait_commits
