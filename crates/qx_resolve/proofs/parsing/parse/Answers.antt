use Rattle.std.proofs.Common.{sym, ◌∙◌}
use Rattle.qx_resolve.proofs.ParsedPaths.{parts_read}
use Rattle.qx_resolve.proofs.parsing.parse.Goals as goal

pub returns-in-Ok-clause-parts : goal.returns-in-Ok-clause-parts
returns-in-Ok-clause-parts c = parts_read c.args.bytes.now c.in-Ok.path (sym c.parse.ensures ∙ c.in-Ok.is)
