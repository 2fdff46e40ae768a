use Rattle.qx_records.proofs.RecordLists.{length-records_in, slice_get-records_in}
use Rattle.qx_records.proofs.laws.the_records_of_a_block.Goals as goal

pub returns-clause-count : goal.returns-clause-count
returns-clause-count c = length-records_in

pub returns-clause-each : goal.returns-clause-each
returns-clause-each c = slice_get-records_in
