use Rattle.std.proofs.Common.{refl}
use Rattle.qx_outside.proofs.Throughout.{throughout_every}
use Rattle.qx_shell.specs.Cuts.{CutsFindAllowed, places_in}
use Rattle.qx_shell.specs.MadeTurns.{machines_of, texts_of}
use Rattle.qx_shell.specs.Unmounted.{first_history}
use Rattle.qx_shell.proofs.cut_laws.cuts_come_at_each_prefix.Goals as goal

pub returns : goal.returns
returns c h status r n within = throughout_every (CutsFindAllowed (places_in h.starting) (texts_of r.made) (machines_of r.start r.made)) (first_history h) h n r.cuts refl within
