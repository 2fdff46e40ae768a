use Rattle.qx_view.proofs.SoundPlaces.{sound_places}
use Rattle.qx_view.proofs.laws.a_sound_image_has_a_place_for_each_inode.Goals as goal

pub returns : goal.returns
returns c = sound_places
