use Rattle.qx_bytes.proofs.Puts.{range_range}
use Rattle.qx_bytes.proofs.a_range_of_a_range.Goals as goal

pub returns : goal.returns
returns c = range_range
