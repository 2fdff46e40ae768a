-- What a call that only reads leaves, where it answers as an act does.
use Rattle.std.specs.Prelude.{◌≡◌, Result}
use Rattle.qx_outside.specs.Causes.{IsCausedBy}
use Rattle.qx_blocks.specs.Beside.{Beside}
use Rattle.qx_blocks.specs.BlockState.{BlockState}
use Rattle.qx_blocks.specs.Calls.{Keeps}
use Rattle.qx_blocks.specs.declared.blocks.Stop.{Stop}
use Rattle.qx_blocks.specs.declared.blocks.Stop.TheVariants as stops
use Rattle.qx_model.specs.declared.refusal.Refusal.{Refusal}
use Rattle.qx_model.specs.declared.refusal.Refusal.TheVariants as refusals

-- nothing changed, but that bytes may be told no more and that the device may have failed, which is the cause of that refusal alone
pub record OnlyLooks {B A T : Type 0} (state : B → BlockState) (beside : B → Beside A) (old new : B) (result : Result T Refusal) : Type 0 where
  pub keeps : Keeps (state old) (state new)
  pub aside : (beside new).aside ≡ (beside old).aside
  pub cause : IsCausedBy refusals.Device (beside old).faults (beside new).faults result

-- how an act answers where a call on blocks stopped
abbrev pub stop_refusal : Stop → Refusal
stop_refusal stops.Device = refusals.Device
stop_refusal stops.NoMemory = refusals.NoMemory
