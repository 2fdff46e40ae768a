use Rattle.std.proofs.Common.{arith}
use Rattle.qx_system.proofs.OneBit.{one_bit}
use Rattle.qx_system.proofs.held.OneBlockHeld.byte.Goals as goal

pub returns : goal.returns
returns c = one_bit c.args.self.now.number c.args.place (omega arith)
