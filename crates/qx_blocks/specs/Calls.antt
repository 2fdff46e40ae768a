-- What a call on blocks answers, and what it leaves.
use Rattle.std.specs.Prelude.{◌≡◌, ℕ, IsTrue, Result}
use Rattle.qx_blocks.specs.declared.blocks.Stop.{Stop}
use Rattle.qx_blocks.specs.BlockState.{BlockState, with_ready}
use Rattle.qx_blocks.specs.Beside.{Beside, LeavesBeside}

-- nothing changed, but that bytes may be told no more
pub record Keeps (old new : BlockState) : Type 0 where
  pub told : IsTrue new.tells → new ≡ old
  pub holdings : new.holdings ≡ old.holdings
  pub ready : (b : ℕ) → IsTrue (old.holdings.ready b) → new.bytes b ≡ old.bytes b

-- a call that only reads: nothing changed, but that bytes may be told no more and that the device may have failed
pub record OnlyReads {B A T : Type 0} (state : B → BlockState) (beside : B → Beside A) (old new : B) (result : Result T Stop) : Type 0 where
  pub keeps : Keeps (state old) (state new)
  pub others : LeavesBeside (beside old) (beside new) result

-- block b became ready, with the bytes that it had where they were told, and nothing else changed, but that bytes may be told no more
pub record MakesReady (b : ℕ) (old new : BlockState) : Type 0 where
  pub told : IsTrue new.tells → new ≡ with_ready old b
  pub holdings : new.holdings ≡ (with_ready old b).holdings
  pub ready : (q : ℕ) → IsTrue (old.holdings.ready q) → new.bytes q ≡ old.bytes q
