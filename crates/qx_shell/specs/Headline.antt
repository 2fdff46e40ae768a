-- The theorem on a run of the shell: its replies are the machine's, and wherever power is cut, the tree that is found is allowed by them.
use Rattle.std.specs.Prelude.{◌≡◌, ◌≢◌, ℕ, zero, suc, ◌+◌, ◌-◌, ◌^◌, ◌<◌, ◌≤◌, ◌⊎◌, min, IsTrue, false, List, [], ◌∷◌, length}
use Rattle.qx_outside.specs.declared.event.Attachment.{Attachment}
use Rattle.qx_outside.specs.Causes.{Becomes, Rose}
use Rattle.qx_outside.specs.Moments.{HoldsThroughout}
use Rattle.qx_outside.specs.Outside.{Outside}
use Rattle.qx_outside.specs.Trail.{History, input, lengths_asked}
use Rattle.qx_model.specs.Machine.{Machine}
use Rattle.qx_shell.specs.Occasions.{occasions_of}
use Rattle.qx_shell.specs.MadeTurns.{AreMade, MadeTurn, Reach, machines_of, texts_of}
use Rattle.qx_shell.specs.Allowed.{moments_of}
use Rattle.qx_shell.specs.Mounts.{How, IsStart, Reading, Writing}
use Rattle.qx_shell.specs.Cuts.{CutsFindAllowed, LeavesDisk, places_in}
use Rattle.qx_shell.specs.Ends.{Ends, device_faults_of, script_limit}
use Rattle.qx_shell.specs.Unmounted.{IsUnmountedRun, first_history}

-- ---- a run that mounted

-- wherever power is cut: of a mount for writing an allowed tree is found, and one for reading leaves the device alone
abbrev pub IsCutSafe : How → History → List (List ℕ) → List Machine → Type 0
IsCutSafe Writing h texts machines = HoldsThroughout (CutsFindAllowed (places_in h.starting) texts machines) (first_history h) h
IsCutSafe Reading h texts machines = LeavesDisk h

-- one run of machines, from the mount of the starting bytes on, carries both halves: what was put, and at each moment what a cut leaves
pub record IsMountedRun (how : How) (h : History) (status : ℕ) : Type 0 where
  -- the clock told the mount's moment, and one for each turn
  pub moment : ℕ
  pub moments : List ℕ
  pub clock : moments_of h ≡ moment ∷ moments
  -- the turns are the machine's, for one occasion of the input after another
  pub start : Machine
  pub starts : IsStart h.starting moment start how
  pub made : List MadeTurn
  pub reach : Reach
  pub turns : AreMade start moments (occasions_of h) made reach
  -- their texts are put, and the status is theirs
  pub few : length (input h) ≤ script_limit
  pub ends : Ends h made reach status
  -- at each moment a cut leaves what the texts allow that were put until then
  pub cuts : IsCutSafe how h (texts_of made) (machines_of start made)

-- ---- causes

-- a count of faults is so many more than before, or stands at its last value
abbrev pub HasRisenBy : ℕ → ℕ → ℕ → Type 0
HasRisenBy zero before now = now ≡ before
HasRisenBy (suc n) before now = now ≡ min (before + suc n) (2 ^ 64 - 1)

-- whether anything is told or not: status 3 comes only where a device call failed, 4 exactly where one of the console or the clock did, and it is the only one
pub record HasShellCauses (status : ℕ) (old new : Outside) : Type 0 where
  pub exits : status < 7
  pub accepted : status ≢ 1
  pub faults : ℕ
  pub device : HasRisenBy faults old.dev_faults new.dev_faults
  pub device_failed : status ≡ 3 → 0 < faults
  pub console_failed : status ≡ 4 → Rose old.con_faults new.con_faults
  pub console_kept : status ≢ 4 → new.con_faults ≡ old.con_faults

-- ---- the theorem

-- the image is attached, and never made
abbrev pub found_image : List ℕ → Attachment
found_image image = record { path = image; create = false }

-- it alone was attached
abbrev pub AttachesImage : List ℕ → Outside → Outside → Type 0
AttachesImage image old new = Becomes old.attached new.attached (λ before now. now ≡ found_image image ∷ before)

-- or nothing was
abbrev pub MayAttachImage : List ℕ → Outside → Outside → Type 0
MayAttachImage image old new = Becomes old.attached new.attached (λ before now. (now ≡ found_image image ∷ before) ⊎ (now ≡ before))

-- a run that is told, with or without a mount: each device call that failed is told of, in a turn or as the reason why there is no mount
pub data IsToldRun (image : List ℕ) (how : How) (status : ℕ) (old new : Outside) : Type 0 where
  mounted : (r : IsMountedRun how new.history status) → HasRisenBy (device_faults_of r.made) old.dev_faults new.dev_faults → AttachesImage image old new → IsToldRun image how status old new
  unmounted : (faults : ℕ) → IsUnmountedRun how new.history status faults → HasRisenBy faults old.dev_faults new.dev_faults → IsToldRun image how status old new

-- what a run of the shell on an image does that ends with this status, from a host with nothing done and nothing attached
pub record RunsShell (image : List ℕ) (how : How) (status : ℕ) (old new : Outside) : Type 0 where
  pub before : IsTrue new.tells → IsTrue old.tells
  pub same_start : IsTrue new.tells → new.history.starting ≡ old.history.starting
  pub told : IsTrue new.tells → IsToldRun image how status old new
  pub causes : HasShellCauses status old new
  -- no length is asked for, and nothing but the image is attached; without a console fault and with memory it is
  pub sizes : IsTrue new.tells → lengths_asked new.history.deeds ≡ []
  pub paths : MayAttachImage image old new
  pub attached : status ≢ 4 → status ≢ 5 → AttachesImage image old new
