-- What a cut of the maker may leave, and on which premises.
use Rattle.std.specs.Prelude.{ℕ, ◌≡◌, ◌≢◌, ◌+◌, ◌≤◌, ◌⊎◌, ◌↔◌, true, List, [], ◌∷◌, ◌++◌, flat_map, length, replicate, slice_index, slice_range, option_to_list, None, Some, Ok, Contains}
use Rattle.qx_geom.specs.Layout.{first_place}
use Rattle.qx_geom.specs.declared.area.Which.{Which}
use Rattle.qx_outside.specs.Trail.{History, bytes_of}
use Rattle.qx_outside.specs.Images.{IsImage, IsSettled}
use Rattle.qx_outside.specs.Puts.{IsApartFrom, IsPartOf}
use Rattle.qx_model.specs.Tree.{Tree}
use Rattle.qx_super.specs.declared.choice.Pick.TheVariants as picks
use Rattle.qx_super.specs.Superblock.{Superblock, has_right_checksum, superblock_of}
use Rattle.qx_super.specs.Active.{active_area, active_super, searched_place, second_search}
use Rattle.qx_view.specs.Reading.{IsTree}
use Rattle.qx_view.specs.Sound.{IsSound}
use Rattle.qx_view.specs.FalseSuperblocks.{HasNoFalseSuperblock}
use Rattle.qx_make.specs.Stages.{Stage}

-- the places at which a superblock is looked for in the old bytes or in the new ones: that of the first area, and where the second is looked for if the first is none, or by the old first one
abbrev pub places_of : List ℕ → ℕ → List ℕ
places_of old size = first_place ∷ flat_map option_to_list (searched_place size None ∷ searched_place (length old) None ∷ second_search old ∷ [])

-- the old bytes, followed by any number of bytes 0, have a superblock's magic and a right checksum at no other place than the two at which their areas are looked for
pub record HasNoOtherSuperblock (old : List ℕ) : Type 0 where
  pub others : (place n : ℕ) → place + 512 ≤ length old + n → has_right_checksum (slice_range (old ++ replicate n 0) place (place + 512)) ≡ true
      → (place ≡ first_place) ⊎ (second_search old ≡ Some place)

-- the premises on the device as the maker finds it
pub record IsReadyToMake (h : History) : Type 0 where
  pub settled : IsSettled h
  pub agree : active_area (bytes_of h) ≢ picks.Disagree
  pub alone : HasNoOtherSuperblock (bytes_of h)

-- an image gives no volume; or the old active area with the same trees; or a sound volume with the new tree
pub data IsLeftByMaker (old : List ℕ) (t : Tree) (img : List ℕ) : Type 0 where
  nothing : active_area img ≡ picks.None → IsLeftByMaker old t img
  old_volume : (which : Which) → active_area old ≡ picks.Active which → active_area img ≡ picks.Active which → active_super img ≡ active_super old
      → ((u : Tree) → IsTree img u ↔ IsTree old u) → IsLeftByMaker old t img
  new_volume : IsSound img t → IsLeftByMaker old t img

-- each image after a cut is left so, unless a torn superblock matches its checksum by chance
abbrev pub LeavesByMaker : List ℕ → ℕ → Tree → History → Type 0
LeavesByMaker old size t h = (img : List ℕ) → IsImage h img → HasNoFalseSuperblock (places_of old size) h img → IsLeftByMaker old t img

-- ---- by stages

-- what a cut may leave at a superblock's place: what was kept, a part of a put, or no valid superblock
pub data MayBeLeft (stage : Stage) (len place : ℕ) (bytes : List ℕ) : Type 0 where
  kept : bytes ≡ slice_range stage.kept place (place + 512) → MayBeLeft stage len place bytes
  put : IsPartOf stage.puts place bytes → MayBeLeft stage len place bytes
  invalid : ((s : Superblock) → superblock_of bytes len ≡ Ok s → ⊥) → MayBeLeft stage len place bytes

-- what a cut may leave of a stage: all but the places of its puts is as it was kept, and at these places stands what may be left there
pub record IsTorn (stage : Stage) (places : List ℕ) (img : List ℕ) : Type 0 where
  pub size : length img ≡ length stage.kept
  pub apart : (k : ℕ) → IsApartFrom stage.puts k → slice_index img k ≡ slice_index stage.kept k
  pub stands : (place : ℕ) → Contains places place → place + 512 ≤ length img → MayBeLeft stage (length img) place (slice_range img place (place + 512))
