use Rattle.std.proofs.lemmas.List.{take-replicate}
use Rattle.qx_make.proofs.halves.zeros.Goals as goal

pub returns : goal.returns
returns c = take-replicate c.args.len 65536 0 c.requires
