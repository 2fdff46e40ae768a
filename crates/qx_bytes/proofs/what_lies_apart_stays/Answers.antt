use Rattle.qx_bytes.proofs.Puts.{range_put_apart, byte_put_apart}
use Rattle.std.proofs.Common.{refl, length}
use Rattle.qx_bytes.proofs.what_lies_apart_stays.Goals as goal

pub returns-clause-range : goal.returns-clause-range
returns-clause-range c = λ bytes others at k n room apart. range_put_apart bytes others at (length others) k n refl apart room

pub returns-clause-byte : goal.returns-clause-byte
returns-clause-byte c = λ bytes others at k room apart. byte_put_apart bytes others at (length others) k refl apart room
