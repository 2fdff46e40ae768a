-- Mounts for reading.
use Rattle.std.specs.Prelude.{◌≡◌, true, false, None}
use Rattle.qx_model.specs.Machine.{Machine}

-- a mount for reading, with nothing to write: no snapshot is in progress, and there is nothing to keep
pub record IsMountedForReading (s : Machine) : Type 0 where
  pub read_only : s.volume.is_read_only ≡ true
  pub no_snapshot : s.frozen ≡ None
  pub unchanged : s.changed ≡ false

-- the second machine has the working and the durable copy of the first
pub record HasCopiesOf (s t : Machine) : Type 0 where
  pub working : t.working ≡ s.working
  pub durable : t.durable ≡ s.durable
