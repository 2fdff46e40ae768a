use Rattle.qx_outside.proofs.Cuts.{image_range}
use Rattle.qx_outside.proofs.laws.an_image_has_what_is_not_pending.Goals as goal

pub returns : goal.returns
returns c = image_range
