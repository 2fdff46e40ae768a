use Rattle.std.proofs.Common.{arith}
use Rattle.qx_system.proofs.TakenBits.{halves_taken, past_taken}
use Rattle.qx_system.proofs.bitmap.byte_at_once.Goals as goal

pub returns-then-first-halves : goal.returns-then-first-halves
returns-then-first-halves g c = halves_taken c.args.geometry.now (g.H.Held.held c.args.held.now) c.args.place (omega (arith, c.from-halves.ensures, c.if-first-halves.true))

pub returns-then-count-first : goal.returns-then-count-first
returns-then-count-first g c = past_taken c.args.geometry.now (g.H.Held.held c.args.held.now) c.args.place (omega (arith, c.from-count.ensures, c.if-count-first.true))
