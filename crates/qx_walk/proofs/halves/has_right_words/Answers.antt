use Rattle.std.proofs.Common.{arith}
use Rattle.qx_walk.proofs.PointerWords.{pointer_counted}
use Rattle.qx_walk.proofs.halves.has_right_words.Goals as goal

pub read_block-requires-clause-block : goal.read_block-requires-clause-block
read_block-requires-clause-block g c = omega (arith, pointer_counted c.args.geometry.now c.args.which c.args.tree c.args.block c.requires.volume.volume.volume c.requires.block, c.requires.volume.volume.count)
