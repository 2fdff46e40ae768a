use Rattle.std.proofs.Common.{◌∙◌}
use Rattle.qx_path.proofs.JoinedNames.{names-shorter}
use Rattle.qx_path.proofs.names.without_slashes_behind.Goals as goal

pub loop-front-preserved : goal.loop-front-preserved
loop-front-preserved c = names-shorter c.loop-front.front.now c.in-len1-up.len_at_least c.if-byte-ne47.false ∙ c.loop-front.invariant
