use Rattle.std.proofs.Common.{ap}
use Rattle.qx_view.specs.Sound.{verdict_at}
use Rattle.qx_geom.specs.declared.area.Which.TheVariants.{First, Second}
use Rattle.qx_view.proofs.SmallImages.{both_changed, first_changed, first_changed-sound, second_changed, second_changed-sound}
use Rattle.qx_view.proofs.Verdicts.{sound_clean}
use Rattle.qx_view.specs.Examples.{made_super, made_tree}
use Rattle.qx_view.specs.SmallImage.{changed, first_bytes, image_with, made_first, second_bytes}
use Rattle.qx_view.proofs.images.the_small_image_with_changed_superblocks.Goals as goal

pub returns-clause-first : goal.returns-clause-first
returns-clause-first c = sound_clean (image_with (changed first_bytes) second_bytes) made_tree Second made_super first_changed-sound first_changed.active first_changed.names

pub returns-clause-first_tree : goal.returns-clause-first_tree
returns-clause-first_tree c = first_changed-sound

pub returns-clause-second : goal.returns-clause-second
returns-clause-second c = sound_clean (image_with first_bytes (changed second_bytes)) made_tree First made_first second_changed-sound second_changed.active second_changed.names

pub returns-clause-second_tree : goal.returns-clause-second_tree
returns-clause-second_tree c = second_changed-sound

pub returns-clause-both : goal.returns-clause-both
returns-clause-both c = ap (verdict_at (image_with (changed first_bytes) (changed second_bytes))) both_changed
