use Rattle.std.proofs.Common.{◌<◌, refl, arith}
use Rattle.qx_patch.proofs.BlocksComeAndGo.{least-first}
use Rattle.qx_patch.proofs.patch.Patch.least.Goals as goal

pub returns-in-Some : goal.returns-in-Some
returns-in-Some c =
    let some : 0 < c.self.inside.entries.len = c.in-Some.ensures.variant.0 refl in
    least-first c.self.inside c.args.self.now c.in-Some.first.now c.self.invariant c.self.view_is (omega (arith, some, c.self.inside.entries.ok.0)) c.in-Some.ensures.lookup
