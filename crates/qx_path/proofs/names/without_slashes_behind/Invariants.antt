use Rattle.std.proofs.Common.{◌≡◌, length}
use Rattle.qx_path.specs.Names.{names_in}
use Rattle.qx_path.proofs.names.without_slashes_behind.Given as goal

abbrev pub invariant-loop-front : goal.invariant-loop-front
invariant-loop-front l = names_in l.front ≡ names_in l.fn.bytes

abbrev pub decreases-loop-front : goal.decreases-loop-front
decreases-loop-front l = length l.front
