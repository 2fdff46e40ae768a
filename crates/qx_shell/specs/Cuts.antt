-- What a power cut leaves of a run: images with one of some trees.
use Rattle.std.specs.Prelude.{◌≡◌, ℕ, ◌↔◌, List, [], ◌∷◌, Option, Some, None, Contains}
use Rattle.qx_outside.specs.Calls.{IsOfConsole}
use Rattle.qx_outside.specs.Images.{IsImage}
use Rattle.qx_outside.specs.Trail.{Deed, History}
use Rattle.qx_geom.specs.Layout.{first_place}
use Rattle.qx_super.specs.Superblock.{Superblock, second_place_of}
use Rattle.qx_super.specs.Active.{active_super}
use Rattle.qx_model.specs.Tree.{Tree}
use Rattle.qx_model.specs.Machine.{Machine}
use Rattle.qx_model.specs.Findable.{FoundTree}
use Rattle.qx_view.specs.FalseSuperblocks.{HasNoFalseSuperblock}
use Rattle.qx_view.specs.Sound.{IsSound}
use Rattle.qx_shell.specs.Allowed.{allowed_trees}

-- ---- images with one of some trees

-- a sound image has one of these trees, and its active superblock has the serial that the tree has there
pub record FindsOne (found : List FoundTree) (img : List ℕ) : Type 0 where
  pub tree : Tree
  pub superblock : Superblock
  pub active : active_super img ≡ Some superblock
  pub sound : IsSound img tree
  pub is_one : Contains found (record { tree = tree; serial = superblock.serial })

-- so has each image that a cut may leave, unless a torn superblock at one of the places matches its checksum by chance
pub record CutsFind (places : List ℕ) (found : List FoundTree) (h : History) : Type 0 where
  pub finds : (img : List ℕ) → IsImage h img → HasNoFalseSuperblock places h img → FindsOne found img

-- the places of a volume's two superblocks
abbrev pub super_places : Superblock → List ℕ
super_places s = first_place ∷ second_place_of s ∷ []

-- those of the active superblock's volume, if there is one
abbrev pub places_by : Option Superblock → List ℕ
places_by None = []
places_by (Some s) = super_places s

-- those of an image
abbrev pub places_in : List ℕ → List ℕ
places_in img = places_by (active_super img)

-- what a cut may leave at a moment of a run with these texts and machines is allowed by what was put until then
abbrev pub CutsFindAllowed : List ℕ → List (List ℕ) → List Machine → History → Type 0
CutsFindAllowed places texts machines h = CutsFind places (allowed_trees texts machines h) h

-- ---- devices that are left alone

-- but for the console and the clock nothing was done
pub record LeavesDisk (h : History) : Type 0 where
  pub each : (deed : Deed) → Contains h.deeds deed → IsOfConsole deed

-- a power cut may leave what it might have left before
pub record HasSameImages (old h : History) : Type 0 where
  pub each : (img : List ℕ) → IsImage h img ↔ IsImage old img
