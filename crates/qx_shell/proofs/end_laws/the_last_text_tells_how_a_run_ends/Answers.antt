use Rattle.std.proofs.Common.{ap}
use Rattle.qx_model.specs.Findable.{found_in}
use Rattle.qx_shell.proofs.LastTexts.{device_text, done_text, memory_text}
use Rattle.qx_shell.proofs.LastTurns.{end_settles, end_status, settled_end, silent_end}
use Rattle.qx_shell.proofs.RunEnds.{turn_some}
use Rattle.qx_shell.proofs.end_laws.the_last_text_tells_how_a_run_ends.Goals as goal

pub returns-clause-status : goal.returns-clause-status
returns-clause-status c = end_status

pub returns-clause-done : goal.returns-clause-done
returns-clause-done c = done_text

pub returns-clause-device : goal.returns-clause-device
returns-clause-device c = device_text

pub returns-clause-memory : goal.returns-clause-memory
returns-clause-memory c = memory_text

pub returns-clause-kept : goal.returns-clause-kept
returns-clause-kept c = end_settles

pub returns-clause-others : goal.returns-clause-others
returns-clause-others c = turn_some

pub returns-clause-silent : goal.returns-clause-silent
returns-clause-silent c = silent_end

pub returns-clause-trees : goal.returns-clause-trees
returns-clause-trees c s t k moment turn marked next empty = ap found_in (silent_end s t k moment turn marked next empty).1

pub returns-clause-nothing : goal.returns-clause-nothing
returns-clause-nothing c = settled_end
