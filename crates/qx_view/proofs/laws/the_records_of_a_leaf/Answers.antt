use Rattle.qx_view.proofs.RecordPlaces.{numbered_record, placed_record}
use Rattle.qx_view.proofs.laws.the_records_of_a_leaf.Goals as goal

pub returns-clause-placed : goal.returns-clause-placed
returns-clause-placed c = placed_record

pub returns-clause-numbered : goal.returns-clause-numbered
returns-clause-numbered c = numbered_record
