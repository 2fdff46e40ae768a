-- What a run does by its words.
use Rattle.std.specs.Prelude.{ℕ, ◌≡◌, ◌≢◌, ◌<◌, ◌⊎◌, ◌↔◌, false, IsTrue, List, ◌∷◌, Option, Some, None, Result, Ok, Err}
use Rattle.qx_geom.specs.declared.geometry.GeomFault.{GeomFault}
use Rattle.qx_geom.specs.declared.geometry.Geometry.{Geometry}
use Rattle.qx_make.specs.Cut.{IsReadyToMake, LeavesByMaker}
use Rattle.qx_make.specs.Make.{moments_told, tree_for}
use Rattle.qx_outside.specs.declared.event.Attachment.{Attachment}
use Rattle.qx_outside.specs.Causes.{Rose}
use Rattle.qx_outside.specs.Images.{IsImage}
use Rattle.qx_outside.specs.Moments.{HoldsThroughout}
use Rattle.qx_outside.specs.Outside.{Outside}
use Rattle.qx_outside.specs.Trail.{History, bytes_of}
use Rattle.qx_top.specs.declared.lines.Line.TheVariants.{BadNumbers, DeviceFault, NoMemory, Usage}
use Rattle.qx_top.specs.declared.reports.Report.{Report}
use Rattle.qx_top.specs.declared.sizes.VolumeOptions.{VolumeOptions}
use Rattle.qx_top.specs.Lines.{check_report, supers_report}
use Rattle.qx_top.specs.Says.{Attaches, Gives, GivesPartOf, HasStatusCause, Refuses, code_of}
use Rattle.qx_top.specs.Sizes.{options_of, volume_of}
use Rattle.qx_top.specs.Volumes.{MakesVolume}
use Rattle.qx_top.specs.Words.{Asked, supers, verdict, volume}

-- ---- what is done

-- the image is attached, and never made
abbrev pub found : List ℕ → Attachment
found image = record { path = image; create = false }

-- the report was given, and nothing else was done
abbrev pub Reports : Report → ℕ → History → History → Type 0
Reports report status old new = Gives report.line old new × (status ≡ code_of report.status)

-- a part of the line for a device call that failed was given, where one did
abbrev pub HasFaultCut : Outside → Outside → Type 0
HasFaultCut old new = Rose old.dev_faults new.dev_faults × GivesPartOf DeviceFault old.history new.history

-- the run gives the report on the superblocks of the device's bytes and nothing else, or at status 3 that a device call failed
pub record ReportsSupers (status : ℕ) (old new : Outside) : Type 0 where
  pub before : IsTrue new.tells → IsTrue old.tells
  pub report : status ≢ 3 → status ≢ 4 → IsTrue new.tells
      → Reports (supers_report (bytes_of old.history)) status old.history new.history
  pub fault : status ≡ 3 → IsTrue new.tells → Gives DeviceFault old.history new.history
  pub cut : status ≡ 4 → IsTrue new.tells
      → GivesPartOf (supers_report (bytes_of old.history)).line old.history new.history ⊎ HasFaultCut old new

-- the run gives the report on the verdict on the device's bytes and nothing else, or at status 3 that a device call failed, or at 5 that there was no memory
pub record ReportsVerdict (status : ℕ) (old new : Outside) : Type 0 where
  pub before : IsTrue new.tells → IsTrue old.tells
  pub report : status ≢ 3 → status ≢ 4 → status ≢ 5 → IsTrue new.tells
      → Reports (check_report (bytes_of old.history)) status old.history new.history
  pub fault : status ≡ 3 → IsTrue new.tells → Gives DeviceFault old.history new.history
  pub memory : status ≡ 5 → IsTrue new.tells → Gives NoMemory old.history new.history
  pub cut : status ≡ 4 → IsTrue new.tells
      → GivesPartOf (check_report (bytes_of old.history)).line old.history new.history
      ⊎ (HasFaultCut old new ⊎ GivesPartOf NoMemory old.history new.history)

-- a volume of these numbers is made on the image, or what is wrong with them is said
abbrev pub MakesOrRefuses :
    Result Geometry GeomFault → List ℕ → VolumeOptions → ℕ → Outside → Outside → Type 0
MakesOrRefuses (Ok g) image options status old new = MakesVolume image options g status old new
MakesOrRefuses (Err fault) image options status old new = Refuses (BadNumbers fault) status old new

-- what a run does, by what is asked for: what isn't accepted is refused, an image that is reported on is attached alone and never made, and one that gets a volume is made where it is missing
abbrev pub Does : Option Asked → ℕ → Outside → Outside → Type 0
Does None status old new = Refuses Usage status old new
Does (Some (supers image)) status old new = ReportsSupers status old new × Attaches (found image) old new
Does (Some (verdict image)) status old new = ReportsVerdict status old new × Attaches (found image) old new
Does (Some (volume image options)) status old new =
    MakesOrRefuses (volume_of options) image options status old new

-- ---- why it ends so

-- the numbers are those of no volume
abbrev pub IsNoVolume : Result Geometry GeomFault → Type 0
IsNoVolume (Ok g) = ⊥
IsNoVolume (Err fault) = Unit {0}

-- the words aren't accepted, or their numbers are those of no volume
abbrev pub IsRefused : Option Asked → Type 0
IsRefused None = Unit {0}
IsRefused (Some (supers image)) = ⊥
IsRefused (Some (verdict image)) = ⊥
IsRefused (Some (volume image options)) = IsNoVolume (volume_of options)

-- the verdict on an image is asked for
abbrev pub IsOfVerdict : Option Asked → Type 0
IsOfVerdict None = ⊥
IsOfVerdict (Some (supers image)) = ⊥
IsOfVerdict (Some (verdict image)) = Unit {0}
IsOfVerdict (Some (volume image options)) = ⊥

-- each status has its cause: memory is taken for the verdict alone
pub record HasCauses (asked : Option Asked) (status : ℕ) (old new : Outside) : Type 0 where
  pub exits : status < 6
  pub words : status ≡ 1 → IsRefused asked
  pub memory : status ≡ 5 → IsOfVerdict asked
  pub faults : HasStatusCause status old new

-- how a run for a volume of these numbers ends where no call failed
abbrev pub EndsByNumbers : Result Geometry GeomFault → ℕ → Type 0
EndsByNumbers (Ok g) status = status ≡ 0
EndsByNumbers (Err fault) status = status ≡ 1

-- how a run ends where no call failed
abbrev pub Ends : Option Asked → ℕ → Type 0
Ends None status = status ≡ 1
Ends (Some (supers image)) status = (status ≡ 0) ⊎ (status ≡ 2)
Ends (Some (verdict image)) status = (status ≡ 0) ⊎ ((status ≡ 2) ⊎ (status ≡ 5))
Ends (Some (volume image options)) status = EndsByNumbers (volume_of options) status

-- where no call failed, the run ends so
abbrev pub IsComplete : Option Asked → ℕ → Outside → Outside → Type 0
IsComplete asked status old new =
    (Rose old.dev_faults new.dev_faults → ⊥) → (Rose old.con_faults new.con_faults → ⊥) → Ends asked status

-- ---- wherever the power is cut

-- a power cut may leave of the device what it might have left before
pub record HasSameImages (old h : History) : Type 0 where
  pub each : (img : List ℕ) → IsImage h img ↔ IsImage old img

-- these options, where their numbers are a volume's
abbrev pub options_if : Result Geometry GeomFault → VolumeOptions → Option VolumeOptions
options_if (Ok g) options = Some options
options_if (Err fault) options = None

-- the options of the volume that is made, if one is
abbrev pub made_by : Option Asked → Option VolumeOptions
made_by None = None
made_by (Some (supers image)) = None
made_by (Some (verdict image)) = None
made_by (Some (volume image options)) = options_if (volume_of options) options

-- the device is ready for it
abbrev pub IsReady : Option VolumeOptions → History → Type 0
IsReady None h = Unit {0}
IsReady (Some options) h = IsReadyToMake h

-- what stands at a moment of a run that makes this volume, or none
abbrev pub IsLeft : Option VolumeOptions → ℕ → History → History → Type 0
IsLeft None moment old h = HasSameImages old h
IsLeft (Some options) moment old h =
    LeavesByMaker (bytes_of old) options.size (tree_for (options_of options moment)) h

-- the clock told this moment, or none
abbrev pub MayHaveTold : ℕ → History → History → Type 0
MayHaveTold moment old new =
    (moments_told new.deeds ≡ moment ∷ moments_told old.deeds)
    ⊎ (moments_told new.deeds ≡ moments_told old.deeds)

-- at each moment of a run that is told, on a device that is ready for it, stands what may be left then
pub record IsSafe (making : Option VolumeOptions) (old new : Outside) : Type 0 where
  pub before : IsTrue new.tells → IsTrue old.tells
  pub step : (moment : ℕ) → IsTrue new.tells → IsReady making old.history
      → MayHaveTold moment old.history new.history
      → HoldsThroughout (IsLeft making moment old.history) old.history new.history
