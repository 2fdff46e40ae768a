use Rattle.qx_shell.proofs.AddedTurns.{end_added, line_added, more_left, more_over, quit_added}
use Rattle.qx_shell.proofs.run_laws.turns_are_added_at_the_end.Goals as goal

pub returns-clause-line : goal.returns-clause-line
returns-clause-line c = line_added

pub returns-clause-quit : goal.returns-clause-quit
returns-clause-quit c = quit_added

pub returns-clause-end : goal.returns-clause-end
returns-clause-end c = end_added

pub returns-clause-left : goal.returns-clause-left
returns-clause-left c = more_left

pub returns-clause-over : goal.returns-clause-over
returns-clause-over c = more_over
