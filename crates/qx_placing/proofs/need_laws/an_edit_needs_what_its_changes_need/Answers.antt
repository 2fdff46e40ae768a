use Rattle.qx_placing.proofs.EditNeeds.{machine_needs, needs_same}
use Rattle.qx_placing.proofs.need_laws.an_edit_needs_what_its_changes_need.Goals as goal

pub returns-clause-positions : goal.returns-clause-positions
returns-clause-positions c = needs_same

pub returns-clause-machine : goal.returns-clause-machine
returns-clause-machine c = machine_needs
