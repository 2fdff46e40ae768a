-- Bytes that are written.
use Rattle.std.proofs.Common.{◌≡◌, ◌<◌, ℕ, zero, suc, arith}
use Rattle.std.specs.Prelude.{false, ◌==◌}

-- what isn't empty has a byte
pub some_bytes : (n : ℕ) → (n == 0) ≡ false → 0 < n
some_bytes zero is = absurd (cc is)
some_bytes (suc n) is = omega arith
