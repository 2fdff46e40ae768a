-- Where the moves of snapshots may come.
use Rattle.std.specs.Prelude.{◌≡◌, ℕ, true, List, [], ◌∷◌, None, is_some}
use Rattle.qx_model.specs.Machine.{Machine, hold_count}
use Rattle.qx_model.specs.Snapshots.{Begin, Move, Step, begun, stepped}

-- each move comes where it may: a begin where no snapshot is in progress, there is something to keep and no session holds, a step where a snapshot is in progress
abbrev pub MayMove : ℕ → Machine → List Move → Type 0
MayMove moment s [] = Unit {0}
MayMove moment s (Begin ∷ ms) = (s.frozen ≡ None) × (s.changed ≡ true) × (hold_count s ≡ 0) × MayMove moment (begun moment s) ms
MayMove moment s (Step ∷ ms) = (is_some s.frozen ≡ true) × MayMove moment (stepped s s.frozen) ms
