-- A shell that doesn't come to a mount: why, and what it says.
use Rattle.std.specs.Prelude.{◌≡◌, ℕ, ◌≤◌, List, [], ◌++◌, length, Option, Some, None, codes, decimal}
use Rattle.qx_outside.specs.Moments.{HoldsThroughout}
use Rattle.qx_outside.specs.Trail.{History, input, output}
use Rattle.qx_view.specs.declared.findings.Finding.{Finding}
use Rattle.qx_view.specs.declared.reasons.Foreign.{Foreign as Why}
use Rattle.qx_view.specs.Numbers.{code_number, reason_number}
use Rattle.qx_view.specs.Sound.{Clean, Damaged, Disagree, Foreign, NoVolume, Verdict, verdict_of}
use Rattle.qx_shell.specs.Allowed.{moments_of}
use Rattle.qx_shell.specs.Cuts.{HasSameImages, LeavesDisk}
use Rattle.qx_shell.specs.Ends.{IsFront}
use Rattle.qx_shell.specs.Mounts.{How, Reading, Writing}

-- ---- why

-- the line about damage
abbrev pub damage_text : Finding → List ℕ
damage_text f = codes "damaged " ++ decimal (code_number f.code) ++ codes " inode " ++ decimal f.inode ++ codes " block " ++ decimal f.block ++ codes "\n"

-- the line about a foreign image
abbrev pub foreign_text : Why → List ℕ
foreign_text why = codes "foreign " ++ decimal (reason_number why.reason) ++ codes " at " ++ decimal why.at ++ codes "\n"

-- what is said of an image that can't be mounted so, by the verdict on it; none where it can
abbrev pub refusal_line : How → Verdict → Option (List ℕ)
refusal_line how NoVolume = Some (codes "no volume\n")
refusal_line how Disagree = Some (codes "disagree\n")
refusal_line how (Damaged f) = Some (damage_text f)
refusal_line Writing (Foreign why) = Some (foreign_text why)
refusal_line Reading (Foreign why) = None
refusal_line how (Clean area s) = None

-- why there is no mount: the status, the line, and how many device calls failed
pub data IsUnmountable (how : How) (img : List ℕ) (status : ℕ) (line : List ℕ) (faults : ℕ) : Type 0 where
  -- the image can't be mounted
  by_image : status ≡ 2 → refusal_line how (verdict_of img) ≡ Some line → faults ≡ 0 → IsUnmountable how img status line faults
  -- a device call failed while attaching or mounting
  by_device : status ≡ 3 → line ≡ codes "device fault\n" → faults ≡ 1 → IsUnmountable how img status line faults
  -- memory was wanting for the words or the mount
  by_memory : status ≡ 5 → line ≡ codes "out of memory\n" → faults ≡ 0 → IsUnmountable how img status line faults

-- ---- what is put

-- the line was put, or at status 4 some of it, or nothing where the clock failed
pub data SaysWhy (how : How) (h : History) (status faults : ℕ) : Type 0 where
  said : IsUnmountable how h.starting status (output h) faults → SaysWhy how h status faults
  cut_short : (owed : ℕ) (line : List ℕ) → status ≡ 4 → IsUnmountable how h.starting owed line faults → IsFront (output h) line → SaysWhy how h status faults
  without_moment : status ≡ 4 → faults ≡ 0 → output h ≡ [] → SaysWhy how h status faults

-- ---- the device

-- before anything was done
abbrev pub first_history : History → History
first_history h = record h { deeds = [] }

-- a mount for writing that fails leaves what a cut may find, and one for reading leaves the device alone
abbrev pub IsLeftUnmounted : How → History → Type 0
IsLeftUnmounted Writing h = HoldsThroughout (HasSameImages (first_history h)) (first_history h) h
IsLeftUnmounted Reading h = LeavesDisk h

-- a run that comes to no mount: no input is taken, and the clock tells the mount's moment at most
pub record IsUnmountedRun (how : How) (h : History) (status faults : ℕ) : Type 0 where
  pub says : SaysWhy how h status faults
  pub untaken : input h ≡ []
  pub moments : length (moments_of h) ≤ 1
  pub left : IsLeftUnmounted how h
