use Rattle.qx_model.proofs.SpentSerials.{spent_refusal}
use Rattle.qx_model.proofs.snapshot_laws.nothing_changes_at_the_last_serial.Goals as goal

pub returns : goal.returns
returns c = spent_refusal
