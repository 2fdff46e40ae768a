use Rattle.qx_shell.proofs.JoinedScripts.{ended-joined, lines-joined}
use Rattle.qx_shell.proofs.run_laws.a_newline_parts_a_script.Goals as goal

pub returns-clause-lines : goal.returns-clause-lines
returns-clause-lines c = lines-joined

pub returns-clause-ended : goal.returns-clause-ended
returns-clause-ended c = ended-joined
