use Rattle.qx_records.proofs.RecordLists.{length-records_in}
use Rattle.qx_records.proofs.directory.Records.new.Goals as goal

pub returns-clause-count : goal.returns-clause-count
returns-clause-count c = length-records_in c.args.order c.args.block.now
