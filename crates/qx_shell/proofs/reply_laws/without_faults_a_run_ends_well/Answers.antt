use Rattle.qx_shell.proofs.FaultlessRuns.{ends_well}
use Rattle.qx_shell.proofs.reply_laws.without_faults_a_run_ends_well.Goals as goal

pub returns : goal.returns
returns c = ends_well
