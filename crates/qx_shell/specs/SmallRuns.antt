-- A run of a script with nothing in it.
use Rattle.std.specs.Prelude.{ℕ, true, List, [], ◌∷◌}
use Rattle.qx_outside.specs.Trail.{History, synced, told_moment, took}

-- the clock tells the mount's moment, the mount syncs and walks, the end of the input is taken, and the clock tells the last turn's moment
abbrev pub empty_run : List ℕ → ℕ → ℕ → History
empty_run img moment last = record { starting = img; deeds = told_moment last ∷ took [] ∷ synced true ∷ told_moment moment ∷ [] }
