-- What a run of the maker does.
use Rattle.std.specs.Prelude.{ℕ, ◌≡◌, ◌≤◌, ◌⊎◌, true, IsTrue, List, ◌∷◌, ◌++◌, length, take}
use Rattle.qx_geom.specs.declared.geometry.Geometry.{Geometry}
use Rattle.qx_outside.specs.declared.event.Attachment.{Attachment}
use Rattle.qx_outside.specs.Calls.{Idles, LeavesDevice}
use Rattle.qx_outside.specs.Causes.{Rose}
use Rattle.qx_outside.specs.Outside.{Outside}
use Rattle.qx_outside.specs.Trail.{History, bytes_of, input, output}
use Rattle.qx_make.specs.Make.{HasMade, made_of, moments_told}
use Rattle.qx_make.specs.Stages.{AsksOneLength}
use Rattle.qx_top.specs.declared.lines.Line.{Line}
use Rattle.qx_top.specs.declared.lines.Line.TheVariants.{DeviceFault, Made}
use Rattle.qx_top.specs.declared.sizes.VolumeOptions.{VolumeOptions}
use Rattle.qx_top.specs.Lines.{text_of}
use Rattle.qx_top.specs.Says.{Attaches}
use Rattle.qx_top.specs.Sizes.{options_of}

-- the image is attached, and made where it is missing
abbrev pub created : List ℕ → Attachment
created image = record { path = image; create = true }

-- the line was added to the output
abbrev pub Adds : Line → History → History → Type 0
Adds line old new = output new ≡ output old ++ text_of line

-- a prefix of the line was added to the output
abbrev pub AddsPartOf : Line → History → History → Type 0
AddsPartOf line old new =
    (n : ℕ) × (n ≤ length (text_of line)) × (output new ≡ output old ++ take n (text_of line))

-- the device has the volume that was asked for at this moment
abbrev pub HasVolume : VolumeOptions → Geometry → ℕ → History → History → Type 0
HasVolume options g moment old new = HasMade (options_of options moment) g (bytes_of old) new

-- once the clock told this moment, the run makes the volume on the image as far as no call fails, says so, and takes no input
pub record MakesAt (image : List ℕ) (options : VolumeOptions) (g : Geometry) (moment status : ℕ) (old new : Outside)
    : Type 0 where
  pub before : IsTrue new.tells → IsTrue old.tells
  pub ends : (status ≡ 0) ⊎ ((status ≡ 3) ⊎ (status ≡ 4))
  pub paths : Attaches (created image) old new
  pub clock : IsTrue new.tells → moments_told new.history.deeds ≡ moment ∷ moments_told old.history.deeds
  pub taken : IsTrue new.tells → input new.history ≡ input old.history
  -- what is said, and what was done then
  pub made : status ≡ 0 → IsTrue new.tells → Adds (Made (made_of g)) old.history new.history
  pub volume : status ≡ 0 → IsTrue new.tells → HasVolume options g moment old.history new.history
  pub fault : status ≡ 3 → IsTrue new.tells → Adds DeviceFault old.history new.history
  pub cut : status ≡ 4 → IsTrue new.tells
      → (HasVolume options g moment old.history new.history
      × AddsPartOf (Made (made_of g)) old.history new.history)
      ⊎ (Rose old.dev_faults new.dev_faults × AddsPartOf DeviceFault old.history new.history)
  -- which length was asked for
  pub lengths : IsTrue new.tells → AsksOneLength options.size old.history new.history

-- what a run of the maker does by its words, where their numbers are a volume's
pub data MakesVolume (image : List ℕ) (options : VolumeOptions) (g : Geometry) (status : ℕ) (old new : Outside)
    : Type 0 where
  -- the clock failed, and nothing else was done
  without_moment : status ≡ 4 → Idles old new → LeavesDevice old new
      → MakesVolume image options g status old new
  with_moment : (moment : ℕ) → MakesAt image options g moment status old new
      → MakesVolume image options g status old new
