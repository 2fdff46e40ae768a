use Rattle.std.proofs.Common.{◌≡◌, ℕ, ◌≤◌, ◌<◌, false}
use Rattle.qx_blockset.specs.Members.{has}
use Rattle.qx_walk.proofs.halves.has_block_of_half.Given as goal

abbrev pub invariant-loop-block : goal.invariant-loop-block
invariant-loop-block l = (b : ℕ) → l.first ≤ b → b < l.block → has l.met b ≡ false
