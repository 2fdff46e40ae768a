use Rattle.qx_super.proofs.ActiveAreas.{first_read-is, second_read-is, pick_of-read}
use Rattle.qx_super.proofs.laws.what_was_read_decides.Goals as goal

pub returns-clause-first : goal.returns-clause-first
returns-clause-first c = first_read-is

pub returns-clause-second : goal.returns-clause-second
returns-clause-second c = second_read-is

pub returns-clause-active : goal.returns-clause-active
returns-clause-active c = pick_of-read
