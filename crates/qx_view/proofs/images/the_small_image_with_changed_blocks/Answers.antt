use Rattle.qx_view.proofs.SmallImages.{bit_too_many, into_a_half}
use Rattle.qx_view.proofs.images.the_small_image_with_changed_blocks.Goals as goal

pub returns-clause-halves : goal.returns-clause-halves
returns-clause-halves c = into_a_half

pub returns-clause-bitmap : goal.returns-clause-bitmap
returns-clause-bitmap c = bit_too_many
