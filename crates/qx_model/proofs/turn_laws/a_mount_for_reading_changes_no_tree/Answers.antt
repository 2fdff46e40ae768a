use Rattle.qx_model.proofs.QuietMounts.{reading_keeps, reading_stays, start_reads}
use Rattle.qx_model.proofs.turn_laws.a_mount_for_reading_changes_no_tree.Goals as goal

pub returns-clause-start : goal.returns-clause-start
returns-clause-start c = start_reads

pub returns-clause-turn : goal.returns-clause-turn
returns-clause-turn c = reading_stays

pub returns-clause-copies : goal.returns-clause-copies
returns-clause-copies c = reading_keeps
