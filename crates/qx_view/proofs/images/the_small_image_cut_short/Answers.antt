use Rattle.std.proofs.Common.{ap, refl}
use Rattle.std.specs.Prelude.{take}
use Rattle.qx_fields.specs.Number.{field, fields}
use Rattle.qx_super.specs.Active.{active_area}
use Rattle.qx_super.specs.Checksum.{checksum_of, divided, shift}
use Rattle.qx_super.specs.RootNode.{root_of}
use Rattle.qx_super.specs.Superblock.{order_of}
use Rattle.qx_view.specs.SmallImage.{first_bytes, image_of, second_bytes, small_image, zeros}
use Rattle.qx_view.specs.Sound.{verdict_at}
use Rattle.qx_view.proofs.images.the_small_image_cut_short.Goals as goal

pub returns-clause-whole : goal.returns-clause-whole
unfolding image_of first_bytes second_bytes zeros checksum_of divided shift order_of field fields root_of active_area
returns-clause-whole c = refl

pub returns-clause-part : goal.returns-clause-part
unfolding image_of first_bytes second_bytes zeros checksum_of divided shift order_of field fields root_of active_area
returns-clause-part c = refl

pub returns-clause-no_volume : goal.returns-clause-no_volume
returns-clause-no_volume c = ap (verdict_at (take 61951 small_image)) (returns-clause-part c)
