use Rattle.qx_shell.proofs.Neighbours.{neighbours_allow}
use Rattle.qx_shell.proofs.QuietConsole.{console_leaves, leaves_then, nothing_leaves}
use Rattle.qx_shell.proofs.cut_laws.cuts_find_neighbours.Goals as goal

pub returns-clause-turns : goal.returns-clause-turns
returns-clause-turns c places a d s later rests turns = neighbours_allow places rests turns

pub returns-clause-console : goal.returns-clause-console
returns-clause-console c = console_leaves

pub returns-clause-nothing : goal.returns-clause-nothing
returns-clause-nothing c = nothing_leaves

pub returns-clause-further : goal.returns-clause-further
returns-clause-further c = leaves_then
