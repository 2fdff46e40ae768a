-- Unused records, over the records as they stand.
use Rattle.std.specs.Prelude.{◌≡◌, ℕ, ◌≤◌, ◌<◌, Bool, true, false, Option, Some, None}
use Rattle.qx_model.specs.Tree.{Slot}
use Rattle.qx_model.specs.Directories.{is_unused}

-- what a record says, if it says something, is that it is unused
abbrev pub says_unused : Option Slot → Bool
says_unused None = false
says_unused (Some slot) = is_unused slot

-- of the numbers from one on, before another, the first that passes is this one, or none passes
abbrev pub IsFirstOf : (ℕ → Bool) → ℕ → ℕ → Option ℕ → Type 0
IsFirstOf test from to None = (k : ℕ) → from ≤ k → k < to → test k ≡ false
IsFirstOf test from to (Some n) = (from ≤ n) × (n < to) × (test n ≡ true) × ((k : ℕ) → from ≤ k → k < n → test k ≡ false)
