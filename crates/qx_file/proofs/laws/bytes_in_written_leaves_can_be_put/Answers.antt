use Rattle.qx_file.proofs.PlannedChanges.{written_can}
use Rattle.qx_file.proofs.laws.bytes_in_written_leaves_can_be_put.Goals as goal

pub returns : goal.returns
returns c = λ order m node change at count levels below within ready. written_can order m node change at count levels below within ready
