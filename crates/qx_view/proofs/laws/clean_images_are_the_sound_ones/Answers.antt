use Rattle.qx_view.proofs.Verdicts.{clean_sound, sound_clean}
use Rattle.qx_view.proofs.laws.clean_images_are_the_sound_ones.Goals as goal

pub returns-clause-clean : goal.returns-clause-clean
returns-clause-clean c = clean_sound

pub returns-clause-sound : goal.returns-clause-sound
returns-clause-sound c = sound_clean
