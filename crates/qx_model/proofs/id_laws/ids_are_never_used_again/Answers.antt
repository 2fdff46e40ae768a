use Rattle.qx_model.proofs.GrowingIds.{turn_gone, turn_grows, turn_in_snapshots, turn_used}
use Rattle.qx_model.proofs.id_laws.ids_are_never_used_again.Goals as goal

pub returns-clause-grow : goal.returns-clause-grow
returns-clause-grow c = turn_grows

pub returns-clause-new : goal.returns-clause-new
returns-clause-new c = turn_used

pub returns-clause-snapshots : goal.returns-clause-snapshots
returns-clause-snapshots c = turn_in_snapshots

pub returns-clause-gone : goal.returns-clause-gone
returns-clause-gone c = turn_gone
