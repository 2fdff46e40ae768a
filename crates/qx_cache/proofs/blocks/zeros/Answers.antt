use Rattle.std.proofs.lemmas.List.{take-replicate}
use Rattle.qx_cache.proofs.blocks.zeros.Goals as goal

pub returns : goal.returns
returns c = take-replicate c.args.size 4096 0 c.requires
