use Rattle.std.proofs.Common.{◌≡◌, ◌+◌, ◌<◌, ℕ}
use Rattle.std.specs.Prelude.{true}
use Rattle.qx_tables.specs.Tables.{is_behind, leaf_in}
use Rattle.qx_tables.proofs.runs.run_length.Given as goal

-- the leaves so far stand side by side
abbrev pub invariant-loop-count : goal.invariant-loop-count
invariant-loop-count l = record {
  each : (k : ℕ) → k + 1 < l.count → is_behind (leaf_in l.leaves (l.from + k)) (leaf_in l.leaves (l.from + k + 1)) ≡ true;
}
