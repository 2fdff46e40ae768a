use Rattle.qx_outside.proofs.Cuts.{image_settled}
use Rattle.qx_outside.proofs.laws.a_settled_device_has_one_image.Goals as goal

pub returns : goal.returns
returns c = image_settled
