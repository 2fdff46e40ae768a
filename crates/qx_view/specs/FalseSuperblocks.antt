-- The premise that no torn superblock matches its checksum by chance.
use Rattle.std.specs.Prelude.{ℕ, ◌≡◌, ◌+◌, ◌≤◌, List, length, slice_range, Ok, Contains}
use Rattle.qx_outside.specs.Trail.{History}
use Rattle.qx_outside.specs.Images.{IsAsked, kept_bytes}
use Rattle.qx_super.specs.Superblock.{Superblock, superblock_of}

-- what may stand at the place of a superblock: what was kept there, what a write since was asked to put there, or no valid superblock
pub data MayStand (h : History) (len place : ℕ) (bytes : List ℕ) : Type 0 where
  kept : bytes ≡ slice_range (kept_bytes h) place (place + 512) → MayStand h len place bytes
  asked : IsAsked h.deeds place bytes → MayStand h len place bytes
  invalid : ((s : Superblock) → superblock_of bytes len ≡ Ok s → ⊥) → MayStand h len place bytes

-- an image has nothing else at these places; where no write reached, what was kept stands there anyway
pub record HasNoFalseSuperblock (places : List ℕ) (h : History) (img : List ℕ) : Type 0 where
  pub stands : (place : ℕ) → Contains places place → place + 512 ≤ length img → MayStand h (length img) place (slice_range img place (place + 512))
