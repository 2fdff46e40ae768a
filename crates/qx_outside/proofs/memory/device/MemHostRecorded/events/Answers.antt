use Rattle.std.proofs.Common.{arith}
use Rattle.std.proofs.lemmas.Grind.{common_steps}
use Rattle.qx_outside.proofs.Events.{length_deeds_of}
use Rattle.qx_outside.proofs.memory.device.MemHostRecorded.events.Goals as goal

pub returns : goal.returns
returns c = λ told. rw length_deeds_of (grind (arith, common_steps))
