use Rattle.qx_copies.proofs.SoundCopies.{sound_own, sound_represents}
use Rattle.qx_copies.proofs.laws.a_sound_image_is_laid_out_as_its_own.Goals as goal

pub returns-clause-tree : goal.returns-clause-tree
returns-clause-tree c = λ img t s c sound names has. sound_represents img t s c sound names has

pub returns-clause-own : goal.returns-clause-own
returns-clause-own c = λ img t s c sound names has. sound_own img t s c sound names has
