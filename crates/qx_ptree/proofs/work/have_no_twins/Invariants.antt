use Rattle.std.proofs.Common.{◌≡◌, ℕ, ◌+◌, ◌<◌, length, get_or}
use Rattle.qx_ptree.proofs.work.have_no_twins.Given as goal

abbrev pub invariant-loop-k : goal.invariant-loop-k
invariant-loop-k l = (j : ℕ) → j < l.k → j + 1 < length l.blocks → get_or l.blocks j 0 ≡ get_or l.blocks (j + 1) 0 → ⊥
