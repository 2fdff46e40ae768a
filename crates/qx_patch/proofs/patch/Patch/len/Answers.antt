use Rattle.std.proofs.Common.{◌∙◌}
use Rattle.qx_patch.proofs.BlocksComeAndGo.{len-view}
use Rattle.qx_patch.proofs.patch.Patch.len.Goals as goal

pub returns : goal.returns
returns c = c.len.ensures ∙ c.self.inside.entries.ok.0 ∙ len-view c.self.inside c.args.self.now c.self.invariant c.self.view_is
