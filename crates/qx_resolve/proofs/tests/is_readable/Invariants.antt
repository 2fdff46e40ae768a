use Rattle.std.proofs.Common.{◌≡◌, ◌≤◌, ℕ}
use Rattle.std.specs.Prelude.{Some}
use Rattle.qx_geom.specs.declared.root.Root.{Root}
use Rattle.qx_copies.specs.Copies.{node_in}
use Rattle.qx_working.specs.States.{copy_of}
use Rattle.qx_resolve.proofs.ReadableStates.{IsSmall}
use Rattle.qx_resolve.proofs.tests.is_readable.Given as goal

abbrev pub invariant-loop-k : goal.invariant-loop-k
invariant-loop-k g l = (o : ℕ) (node : Root) → node_in (copy_of l.fn.state) o ≡ Some node → 1 ≤ o → o ≤ l.k → IsSmall node
