use Rattle.qx_outside.proofs.Cuts.{image_whole}
use Rattle.qx_outside.proofs.laws.the_device_is_an_image.Goals as goal

pub returns : goal.returns
returns c = image_whole
