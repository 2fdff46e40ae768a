-- When a call of the host in memory fails.
use Rattle.std.specs.Prelude.{ℕ, ◌==◌, ◌||◌, ◌-◌, ◌^◌, Bool, List, if◌then◌else◌}
use Rattle.std.specs.List.{list_any}
use Rattle.qx_outside.specs.declared.schedule.Fate.{Fate}
use Rattle.qx_outside.specs.declared.schedule.Fate.TheVariants.{Good, Bad, NoRoom}

-- the fate of the call with this number, where these numbers fail, and where the trail is full
abbrev pub fate_of : List ℕ → ℕ → Bool → Fate
fate_of failing number full =
    if full then NoRoom else (if (number == 2 ^ 64 - 1) || list_any (λ n. n == number) failing then Bad else Good)
