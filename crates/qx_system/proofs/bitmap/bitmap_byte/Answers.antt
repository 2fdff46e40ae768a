use Rattle.std.proofs.Common.{◌+◌, ◌*◌, ℕ, arith}
use Rattle.qx_system.specs.SystemBytes.{bitmap_byte, is_taken}
use Rattle.qx_system.proofs.TakenBits.{byte_from_bits}
use Rattle.qx_system.proofs.bitmap.bitmap_byte.Goals as goal

pub returns-clause-byte : goal.returns-clause-byte
unfolding bitmap_byte
returns-clause-byte g c =
    byte_from_bits (λ (j : ℕ). is_taken c.args.geometry.now (g.H.Held.held c.args.held.now) (c.args.place * 8 + j)) c.byte_at_once.result (omega arith) c.byte_at_once.ensures
