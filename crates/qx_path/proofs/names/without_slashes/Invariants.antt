use Rattle.std.proofs.Common.{◌≡◌, length}
use Rattle.qx_path.specs.Names.{names_in}
use Rattle.qx_path.proofs.names.without_slashes.Given as goal

abbrev pub invariant-loop-rest : goal.invariant-loop-rest
invariant-loop-rest l = names_in l.rest ≡ names_in l.fn.bytes

abbrev pub decreases-loop-rest : goal.decreases-loop-rest
decreases-loop-rest l = length l.rest
