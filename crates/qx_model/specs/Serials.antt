-- What holds of the serials of every machine.
use Rattle.std.specs.Prelude.{◌≡◌, ℕ, ◌+◌, ◌-◌, ◌^◌, ◌<◌, true, Option, Some, None}
use Rattle.qx_model.specs.Machine.{Frozen, Machine}
use Rattle.qx_model.specs.Decisions.{last_serial}

-- the frozen copy has the serial after the durable one, of 64 bits, and a step left
pub record FollowsSerial (serial : ℕ) (p : Frozen) : Type 0 where
  pub next : p.snapshot.serial ≡ serial + 1
  pub within : p.snapshot.serial < 2 ^ 64
  pub unfinished : 0 < p.due

-- the frozen copy, if there is one, has the serial after the durable one
abbrev pub MayFollowSerial : ℕ → Option Frozen → Type 0
MayFollowSerial serial None = Unit {0}
MayFollowSerial serial (Some p) = FollowsSerial serial p

-- the durable serial has 64 bits, the frozen one follows it, and where there is something to keep a serial is left for it
pub record HasSerials (s : Machine) : Type 0 where
  pub durable : s.durable.serial < 2 ^ 64
  pub frozen : MayFollowSerial s.durable.serial s.frozen
  pub spare : s.changed ≡ true → last_serial s < 2 ^ 64 - 1
