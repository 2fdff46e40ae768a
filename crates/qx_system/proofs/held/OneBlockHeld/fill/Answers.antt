use Rattle.std.proofs.Common.{arith}
use Rattle.qx_system.proofs.OneBit.{one_among}
use Rattle.qx_system.proofs.held.OneBlockHeld.fill.Goals as goal

pub returns-then-own-place : goal.returns-then-own-place
returns-then-own-place c = rw (c.fill.ensures.after (λ y e. cc)) (one_among c.args.self.now.number c.args.place _ (omega (arith, c.if-place-own.true)) (omega (arith, c.if-own-place.true, c.fill.ensures.len)))
