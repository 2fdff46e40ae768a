use Rattle.std.proofs.Common.{arith}
use Rattle.std.proofs.lemmas.Grind.{common_steps}
use Rattle.qx_outside.proofs.Events.{events_of_deeds_of}
use Rattle.qx_outside.proofs.memory.MemHost.output.Goals as goal

pub returns : goal.returns
returns c = rw events_of_deeds_of (grind (arith, common_steps))
