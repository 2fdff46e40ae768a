use Rattle.qx_geom.specs.declared.area.Which.TheVariants.{Second}
use Rattle.qx_view.proofs.SmallImages.{whole, whole-sound}
use Rattle.qx_view.proofs.Verdicts.{sound_clean}
use Rattle.qx_view.specs.Examples.{made_super, made_tree}
use Rattle.qx_view.specs.SmallImage.{small_image}
use Rattle.qx_view.proofs.images.the_small_image_is_clean.Goals as goal

pub returns-clause-length : goal.returns-clause-length
returns-clause-length c = whole.long

pub returns-clause-active : goal.returns-clause-active
returns-clause-active c = whole.active

pub returns-clause-superblock : goal.returns-clause-superblock
returns-clause-superblock c = whole.names

pub returns-clause-sound : goal.returns-clause-sound
returns-clause-sound c = whole-sound

pub returns-clause-clean : goal.returns-clause-clean
returns-clause-clean c = sound_clean small_image made_tree Second made_super whole-sound whole.active whole.names
