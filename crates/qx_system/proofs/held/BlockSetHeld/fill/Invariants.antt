use Rattle.std.proofs.Common.{◌≡◌, ℕ, ◌+◌, ◌*◌, ◌<◌, get_or}
use Rattle.std.specs.Prelude.{◌==◌}
use Rattle.std.specs.Int.{bit_at}
use Rattle.qx_blockset.specs.Members.{has}
use Rattle.qx_system.proofs.held.BlockSetHeld.fill.Given as goal

abbrev pub invariant-loop-index : goal.invariant-loop-index
invariant-loop-index l = (i k : ℕ) → i < l.index → k < 8 → (bit_at (get_or l.into i 0) k == 1) ≡ has l.self ((l.place + i) * 8 + k)
