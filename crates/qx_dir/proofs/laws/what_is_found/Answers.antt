use Rattle.qx_dir.proofs.FirstRows.{found_none, found_name, found_maybe}
use Rattle.qx_dir.proofs.laws.what_is_found.Goals as goal

pub returns-clause-none : goal.returns-clause-none
returns-clause-none c = found_none

pub returns-clause-name : goal.returns-clause-name
returns-clause-name c = found_name

pub returns-clause-maybe : goal.returns-clause-maybe
returns-clause-maybe c = found_maybe
