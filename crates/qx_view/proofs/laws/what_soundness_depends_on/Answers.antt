use Rattle.qx_view.proofs.SoundLocality.{sound_together}
use Rattle.qx_view.proofs.laws.what_soundness_depends_on.Goals as goal

pub returns : goal.returns
returns c = sound_together
