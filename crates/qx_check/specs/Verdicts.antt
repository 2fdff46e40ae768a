-- What the checker says of an image, against the verdict of the definitions.
use Rattle.std.specs.Prelude.{◌≡◌, ◌+◌, ◌≤◌, ℕ, List, Result, Ok, Err, Some}
use Rattle.qx_outside.specs.Outside.{Outside}
use Rattle.qx_pointers.specs.Shown.{Looks}
use Rattle.qx_super.specs.Superblock.{Superblock}
use Rattle.qx_view.specs.Sound.{Clean, Damaged, Disagree, Foreign, NoVolume, verdict_of}
use Rattle.qx_check.specs.declared.verdict.CheckFault.{CheckFault}
use Rattle.qx_check.specs.declared.verdict.CheckFault.TheVariants as faults
use Rattle.qx_check.specs.declared.verdict.Verdict.{Verdict}
use Rattle.qx_check.specs.declared.verdict.Verdict.TheVariants as verdicts

-- a verdict is that of the definitions; a clean one has the active superblock's numbers
abbrev pub IsVerdict : List ℕ → Verdict → Type 0
IsVerdict img (verdicts.Clean which serial free_blocks free_inodes) =
    (s : Superblock) × (verdict_of img ≡ Clean which s) × (serial ≡ s.serial) × (free_blocks ≡ s.free_blocks) × (free_inodes ≡ s.free_inodes)
IsVerdict img (verdicts.Foreign why) = verdict_of img ≡ Foreign why
IsVerdict img (verdicts.Damaged found) = verdict_of img ≡ Damaged found

-- an answer without a verdict says why there is none, want of memory and faults aside
abbrev pub IsFault : List ℕ → CheckFault → Type 0
IsFault img faults.NoVolume = verdict_of img ≡ NoVolume
IsFault img faults.Disagree = verdict_of img ≡ Disagree
IsFault img faults.Device = Unit {0}
IsFault img faults.NoMemory = Unit {0}

-- what the checker answers
abbrev pub SaysVerdict : List ℕ → Result Verdict CheckFault → Type 0
SaysVerdict img (Ok verdict) = IsVerdict img verdict
SaysVerdict img (Err fault) = IsFault img fault

-- the checker looks alone, and where the device tells its length, it reads no more often than there are bytes, and twice
pub record LooksOver {T : Type 0} (old new : Outside) (result : Result T CheckFault) : Type 0 where
  pub most : ℕ
  pub few : (len : ℕ) → new.extent ≡ Some len → most ≤ len + 2
  pub looks : Looks faults.Device 0 most old new result
