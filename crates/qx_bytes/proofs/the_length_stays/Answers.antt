use Rattle.qx_bytes.proofs.Puts.{length_put}
use Rattle.std.proofs.Common.{refl, length}
use Rattle.qx_bytes.proofs.the_length_stays.Goals as goal

pub returns : goal.returns
returns c = λ bytes others at room. length_put bytes others at (length others) refl room
