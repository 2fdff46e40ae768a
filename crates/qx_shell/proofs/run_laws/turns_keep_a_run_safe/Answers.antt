use Rattle.qx_shell.proofs.ServedRuns.{more_safe, mount_served, part_safe, put_served, safe_whole, silent_served, take_served, turn_unput}
use Rattle.qx_shell.proofs.run_laws.turns_keep_a_run_safe.Goals as goal

pub returns-clause-mount : goal.returns-clause-mount
returns-clause-mount c = mount_served

pub returns-clause-take : goal.returns-clause-take
returns-clause-take c = take_served

pub returns-clause-turn : goal.returns-clause-turn
returns-clause-turn c = turn_unput

pub returns-clause-put : goal.returns-clause-put
returns-clause-put c = put_served

pub returns-clause-silent : goal.returns-clause-silent
returns-clause-silent c = silent_served

pub returns-clause-part : goal.returns-clause-part
returns-clause-part c = part_safe

pub returns-clause-more : goal.returns-clause-more
returns-clause-more c = more_safe

pub returns-clause-whole : goal.returns-clause-whole
returns-clause-whole c = safe_whole
