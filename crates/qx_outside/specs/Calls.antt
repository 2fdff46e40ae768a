-- What one call does to a host that tells: its history before and after, whatever else it keeps.
-- `before` says that what is told after was told before.
use Rattle.std.specs.Prelude.{ℕ, ◌≡◌, ◌+◌, ◌≤◌, Bool, false, List, ◌⊎◌, length, take, IsTrue}
use Rattle.std.specs.Option.{option_map}
use Rattle.qx_outside.specs.Outside.{Outside}
use Rattle.qx_outside.specs.Causes.{StaysWhereTold}
use Rattle.qx_outside.specs.Trail.{Deed, took, gave, wrote, synced, sized, told_moment, after}

-- nothing was done
pub record Idles (old new : Outside) : Type 0 where
  pub before : IsTrue new.tells → IsTrue old.tells
  pub step : IsTrue new.tells → new.history ≡ old.history

-- this deed was done
pub record Did (deed : Deed) (old new : Outside) : Type 0 where
  pub before : IsTrue new.tells → IsTrue old.tells
  pub step : IsTrue new.tells → new.history ≡ after deed old.history

-- this deed was done, or none
pub record MayDo (deed : Deed) (old new : Outside) : Type 0 where
  pub before : IsTrue new.tells → IsTrue old.tells
  pub step : IsTrue new.tells → (new.history ≡ old.history) ⊎ (new.history ≡ after deed old.history)

-- these bytes were asked to be put there, well or not, or nothing was done
pub record Writes (at : ℕ) (asked : List ℕ) (old new : Outside) : Type 0 where
  pub before : IsTrue new.tells → IsTrue old.tells
  pub step : IsTrue new.tells → (new.history ≡ old.history) ⊎ ((left : List ℕ) × ((ok : Bool) × (length left ≡ length asked) × (new.history ≡ after (wrote at asked left ok) old.history)))

-- the write failed: any bytes may stand there, or nothing was done
pub record FailsToWrite (at : ℕ) (asked : List ℕ) (old new : Outside) : Type 0 where
  pub before : IsTrue new.tells → IsTrue old.tells
  pub step : IsTrue new.tells → (new.history ≡ old.history) ⊎ ((left : List ℕ) × (length left ≡ length asked) × (new.history ≡ after (wrote at asked left false) old.history))

-- a sync was asked for, well or not, or nothing was done
pub record Syncs (old new : Outside) : Type 0 where
  pub before : IsTrue new.tells → IsTrue old.tells
  pub step : IsTrue new.tells → (new.history ≡ old.history) ⊎ ((ok : Bool) × (new.history ≡ after (synced ok) old.history))

-- this length was asked for, well or not, or nothing was done
pub record Sizes (len : ℕ) (old new : Outside) : Type 0 where
  pub before : IsTrue new.tells → IsTrue old.tells
  pub step : IsTrue new.tells → (new.history ≡ old.history) ⊎ ((ok : Bool) × (new.history ≡ after (sized len ok) old.history))

-- a prefix of these bytes was given, or nothing was done
pub record FailsToGive (bytes : List ℕ) (old new : Outside) : Type 0 where
  pub before : IsTrue new.tells → IsTrue old.tells
  pub step : IsTrue new.tells → (new.history ≡ old.history) ⊎ ((n : ℕ) × (n ≤ length bytes) × (new.history ≡ after (gave (take n bytes)) old.history))

-- the deed is of the console or the clock
abbrev pub IsOfConsole : Deed → Type 0
IsOfConsole (took bytes) = Unit {0}
IsOfConsole (gave bytes) = Unit {0}
IsOfConsole (told_moment moment) = Unit {0}
IsOfConsole (wrote at asked left ok) = ⊥
IsOfConsole (synced ok) = ⊥
IsOfConsole (sized len ok) = ⊥

-- at most one deed was done, of the console or the clock
pub record Converses (old new : Outside) : Type 0 where
  pub before : IsTrue new.tells → IsTrue old.tells
  pub step : IsTrue new.tells → (new.history ≡ old.history) ⊎ ((deed : Deed) × IsOfConsole deed × (new.history ≡ after deed old.history))

-- a call of the device leaves the console alone
pub record LeavesConsole (old new : Outside) : Type 0 where
  pub paths : new.attached ≡ old.attached
  pub console : new.con_faults ≡ old.con_faults

-- a call of the device that neither reads its bytes nor sets its length leaves all but its history and its count of faults
pub record LeavesRest (old new : Outside) : Type 0 where
  pub extent_same : StaysWhereTold old.extent new.extent
  pub paths : new.attached ≡ old.attached
  pub reads : new.dev_reads ≡ old.dev_reads
  pub console : new.con_faults ≡ old.con_faults

-- a call of the console or the clock leaves the device alone
pub record LeavesDevice (old new : Outside) : Type 0 where
  pub extent_same : StaysWhereTold old.extent new.extent
  pub paths : new.attached ≡ old.attached
  pub reads : new.dev_reads ≡ old.dev_reads
  pub device : new.dev_faults ≡ old.dev_faults

-- at most so many device reads were Ok, where they are counted
pub record ReadsAtMost (most : ℕ) (old new : Outside) : Type 0 where
  pub count : ℕ
  pub few : count ≤ most
  pub reads : new.dev_reads ≡ option_map (λ n. n + count) old.dev_reads
