use Rattle.std.proofs.Common.{length}
use Rattle.qx_path.proofs.JoinedNames.{Ends}
use Rattle.qx_path.proofs.names.before_last_slash.Given as goal

abbrev pub invariant-loop-front : goal.invariant-loop-front
invariant-loop-front l = Ends l.front l.fn.bytes

abbrev pub decreases-loop-front : goal.decreases-loop-front
decreases-loop-front l = length l.front
