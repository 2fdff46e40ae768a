-- Machines whose newest snapshot has all that was done, unless they know that it hasn't.
use Rattle.std.specs.Prelude.{◌≡◌, ◌<◌, ◌⊎◌, false, Option, Some, None}
use Rattle.qx_model.specs.Machine.{Copy, Machine, Frozen}
use Rattle.qx_model.specs.Snapshots.{due_of}

-- the copy of the snapshot in progress, or else of the last one done
abbrev pub newest_copy_by : Copy → Option Frozen → Copy
newest_copy_by durable None = durable
newest_copy_by durable (Some p) = p.snapshot.copy

-- that of a machine
abbrev pub newest_copy : Machine → Copy
newest_copy s = newest_copy_by s.durable.copy s.frozen

-- a snapshot in progress has a good step left, and where nothing changed since the newest begin, that snapshot has the working copy
pub record IsMarked (s : Machine) : Type 0 where
  pub steps : (s.frozen ≡ None) ⊎ (0 < due_of s.frozen)
  pub kept : s.changed ≡ false → newest_copy s ≡ s.working

-- all that was done is durable: no snapshot is in progress, nothing changed since, and the last one has the working copy
pub record IsAllDurable (s : Machine) : Type 0 where
  pub none : s.frozen ≡ None
  pub unchanged : s.changed ≡ false
  pub kept : s.durable.copy ≡ s.working
