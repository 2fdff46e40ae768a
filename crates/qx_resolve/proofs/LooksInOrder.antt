-- Calls that only read, one after another.
use Rattle.std.proofs.Common.{◌≡◌, ◌∙◌}
use Rattle.std.specs.Prelude.{Result, Err}
use Rattle.qx_blocks.specs.Beside.{Beside}
use Rattle.qx_blocks.specs.BlockState.{BlockState}
use Rattle.qx_blocks.specs.Calls.{Keeps}
use Rattle.qx_ptree.proofs.KeptPlans.{kept_again}
use Rattle.qx_model.specs.declared.refusal.Refusal.{Refusal}
use Rattle.qx_model.specs.declared.refusal.Refusal.TheVariants as refusals
use Rattle.qx_resolve.specs.Looks.{OnlyLooks}

-- nothing changed, but that bytes may be told no more
pub record Stays {B A : Type 0} (state : B → BlockState) (beside : B → Beside A) (old new : B) : Type 0 where
  pub keeps : Keeps (state old) (state new)
  pub aside : (beside new).aside ≡ (beside old).aside
  pub faults : (beside new).faults ≡ (beside old).faults

module _ {B A : Type 0} (state : B → BlockState) (beside : B → Beside A) where
  -- a call that didn't fail, after others
  pub stays_after : {T : Type 0} (a b c : B) (r : Result T Refusal) → (r ≡ Err refusals.Device → ⊥) → Stays state beside a b → OnlyLooks state beside b c r → Stays state beside a c
  stays_after a b c r other s l = record {
    keeps = kept_again (state a) (state b) (state c) s.keeps l.keeps;
    aside = l.aside ∙ s.aside;
    faults = l.cause.kept other ∙ s.faults;
  }
