use Rattle.std.proofs.Common.{◌≡◌, ◌≤◌, length}
use Rattle.std.specs.Prelude.{drop}
use Rattle.qx_changes.specs.Made.{with_waiting}
use Rattle.qx_changes.proofs.changing.put_nodes.Given as goal

-- the changes from here on have their nodes
abbrev pub invariant-loop-left : goal.invariant-loop-left
invariant-loop-left l = record {
  within : l.left ≤ length l.batch;
  state : l.state ≡ with_waiting l.fn.state (drop l.left l.batch);
}

abbrev pub decreases-loop-left : goal.decreases-loop-left
decreases-loop-left l = l.left
