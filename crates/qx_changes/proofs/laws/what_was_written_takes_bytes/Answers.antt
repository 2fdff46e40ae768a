use Rattle.qx_changes.proofs.WrittenNodes.{can_put_into}
use Rattle.qx_changes.proofs.laws.what_was_written_takes_bytes.Goals as goal

pub returns : goal.returns
returns c old new w after ps held p owner at count of written among writes below = can_put_into old new w after ps held of written p owner at count among writes below
