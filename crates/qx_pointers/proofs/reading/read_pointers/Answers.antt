use Rattle.qx_pointers.proofs.ShownBlocks.{pointers_read}
use Rattle.qx_pointers.proofs.reading.read_pointers.Goals as goal

pub returns-clause-pointers : goal.returns-clause-pointers
returns-clause-pointers g c = λ m s. pointers_read c.args.shape (g.D.Dev.outside c.read_block.new.host) m c.args.block _ _ c.get32s.new.into s (c.in_ok-read_block.ensures.bytes m s) c.requires.long c.get32s.ensures
