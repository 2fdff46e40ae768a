-- What a step of an edit writes.
use Rattle.std.specs.Prelude.{◌≡◌, ◌≢◌, ℕ, List, ◌++◌}
use Rattle.qx_model.specs.Edits.{Edit}
use Rattle.qx_model.specs.Owners.{Owner}
use Rattle.qx_model.specs.TreeTouch.{written_in}

-- these leaves of an owner are written besides, and nothing else is
pub record WritesLeaves (o : Owner) (leaves : List ℕ) (before after : Edit) : Type 0 where
  pub own : written_in o after.written ≡ written_in o before.written ++ leaves
  pub others : (q : Owner) → q ≢ o → written_in q after.written ≡ written_in q before.written
