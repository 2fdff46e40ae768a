use Rattle.qx_system.proofs.TakenBits.{IsFilledTo}
use Rattle.qx_system.proofs.bitmap.byte_by_bits.Given as goal

abbrev pub invariant-loop-bit : goal.invariant-loop-bit
invariant-loop-bit g l = IsFilledTo l.geometry (g.H.Held.held l.held) l.place l.bit l.byte
