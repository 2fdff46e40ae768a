-- What a call leaves that takes fresh blocks and changes no others.
use Rattle.std.specs.Prelude.{◌≡◌, ℕ, ◌+◌, IsTrue}
use Rattle.qx_blocks.specs.BlockState.{BlockState}

-- so many blocks were taken, and each block that was held still is; where bytes are told it has its own, and nothing was done outside
pub record Grows (taken : ℕ) (old new : BlockState) : Type 0 where
  pub size : new.holdings.size ≡ old.holdings.size
  pub free : new.holdings.free + taken ≡ old.holdings.free
  pub before : IsTrue new.tells → IsTrue old.tells
  pub held : (b : ℕ) → IsTrue (old.holdings.held b) → IsTrue (new.holdings.held b)
  pub history : IsTrue new.tells → new.history ≡ old.history
  pub bytes : IsTrue new.tells → (b : ℕ) → IsTrue (old.holdings.held b) → new.bytes b ≡ old.bytes b
