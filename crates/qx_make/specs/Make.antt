-- What the maker promises for its options.
use Rattle.std.specs.Prelude.{ℕ, ◌≡◌, ◌-◌, IsTrue, List, [], ◌∷◌, Result, Some}
use Rattle.qx_geom.specs.declared.area.Which.TheVariants.{Second}
use Rattle.qx_geom.specs.declared.geometry.GeomFault.{GeomFault}
use Rattle.qx_geom.specs.declared.geometry.Geometry.{Geometry}
use Rattle.qx_geom.specs.Layout.{geometry_of, user_blocks}
use Rattle.qx_model.specs.EmptyTree.{empty_tree}
use Rattle.qx_model.specs.Tree.{Tree}
use Rattle.qx_outside.specs.Images.{IsSettled}
use Rattle.qx_outside.specs.Moments.{HoldsThroughout}
use Rattle.qx_outside.specs.Outside.{Outside}
use Rattle.qx_outside.specs.Trail.{History, Deed, took, gave, wrote, synced, sized, told_moment, bytes_of, input, output}
use Rattle.qx_super.specs.declared.choice.Pick.TheVariants as picks
use Rattle.qx_super.specs.Active.{active_area, active_super}
use Rattle.qx_view.specs.Sound.{IsSound}
use Rattle.qx_make.specs.declared.options.Made.{Made}
use Rattle.qx_make.specs.declared.options.MakeOptions.{MakeOptions}
use Rattle.qx_make.specs.Cut.{IsReadyToMake, LeavesByMaker}
use Rattle.qx_make.specs.NewVolume.{made_superblock}
use Rattle.qx_make.specs.Stages.{made_bytes}

-- the numbers of the volume that the options ask for, or why they are those of none
abbrev pub geometry_for : MakeOptions → Result Geometry GeomFault
geometry_for o = geometry_of o.size o.blocksize o.inodes

-- what is answered of a volume that was made
abbrev pub made_of : Geometry → Made
made_of g = record { blocks = g.num_blocks; user = user_blocks g; free = user_blocks g - 1; inodes = g.num_inodes }

-- its tree
abbrev pub tree_for : MakeOptions → Tree
tree_for o = empty_tree o.blocksize o.inodes o.moment

-- a device with these old bytes has the new volume, byte for byte as the format lays it out, and nothing is pending
pub record HasMade (o : MakeOptions) (g : Geometry) (old : List ℕ) (h : History) : Type 0 where
  pub bytes : bytes_of h ≡ made_bytes g o.order o.moment o.size old
  pub settled : IsSettled h
  pub active : active_area (bytes_of h) ≡ picks.Active Second
  pub superblock : active_super (bytes_of h) ≡ Some (made_superblock g o.order o.moment 2 Second)
  pub sound : IsSound (bytes_of h) (tree_for o)

-- on a device that is ready for it an image gives at each moment no volume, or the old active area with its trees, or a sound volume with the new tree, unless a torn superblock matches its checksum by chance
pub record MakesAtEachMoment (o : MakeOptions) (old new : Outside) : Type 0 where
  pub before : IsTrue new.tells → IsTrue old.tells
  pub step : IsTrue new.tells → IsReadyToMake old.history → HoldsThroughout (LeavesByMaker (bytes_of old.history) o.size (tree_for o)) old.history new.history

-- the moments that the clock told, the newest first
abbrev pub moments_told : List Deed → List ℕ
moments_told [] = []
moments_told (told_moment moment ∷ before) = moment ∷ moments_told before
moments_told (took bytes ∷ before) = moments_told before
moments_told (gave bytes ∷ before) = moments_told before
moments_told (wrote at asked left ok ∷ before) = moments_told before
moments_told (synced ok ∷ before) = moments_told before
moments_told (sized len ok ∷ before) = moments_told before

-- nothing was taken from the console, nothing given to it, and the clock told no moment
pub record KeepsQuiet (old new : History) : Type 0 where
  pub taken : input new ≡ input old
  pub given : output new ≡ output old
  pub moments : moments_told new.deeds ≡ moments_told old.deeds
