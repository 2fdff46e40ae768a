use Rattle.qx_bytes.proofs.Puts.{range_put_same, byte_put_within}
use Rattle.std.proofs.Common.{refl, length}
use Rattle.qx_bytes.proofs.what_is_put_stands_there.Goals as goal

pub returns-clause-range : goal.returns-clause-range
returns-clause-range c = λ bytes others at room. range_put_same bytes others at (length others) refl room

pub returns-clause-byte : goal.returns-clause-byte
returns-clause-byte c = λ bytes others at k room from to. byte_put_within bytes others at (length others) k refl from to room
