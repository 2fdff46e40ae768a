use Rattle.std.proofs.Common.{◌*◌}
use Rattle.qx_blockset.proofs.FirstAbsent.{AllIn}
use Rattle.qx_blockset.proofs.set.BlockSet.first_absent.Given as goal

abbrev pub invariant-loop-place : goal.invariant-loop-place
invariant-loop-place l = AllIn l.self-inside.words.items l.from (l.place * 64)
