-- What stands beside the blocks, and what a call leaves of it.
use Rattle.std.specs.Prelude.{◌≡◌, ℕ, Result}
use Rattle.qx_outside.specs.Causes.{IsCausedBy}
use Rattle.qx_blocks.specs.declared.blocks.Stop.{Stop}
use Rattle.qx_blocks.specs.declared.blocks.Stop.TheVariants.{Device}

-- what else an implementer keeps that no call on blocks changes, and how often the device failed, which never falls
pub record Beside (A : Type 0) : Type 0 where
  pub aside : A
  pub faults : ℕ

-- the device alone may have failed, which has its cause in the count of its faults, and nothing else changed
pub record LeavesBeside {A T : Type 0} (old new : Beside A) (result : Result T Stop) : Type 0 where
  pub aside : new.aside ≡ old.aside
  pub cause : IsCausedBy Device old.faults new.faults result
