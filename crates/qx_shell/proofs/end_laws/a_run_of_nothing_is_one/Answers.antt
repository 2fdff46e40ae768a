use Rattle.qx_shell.proofs.EmptyRuns.{empty_run_mounts}
use Rattle.qx_shell.proofs.end_laws.a_run_of_nothing_is_one.Goals as goal

pub returns : goal.returns
returns c = empty_run_mounts
