-- Which superblocks of a new volume an image has, and which area is active by them.
use Rattle.std.proofs.Common.{◌≡◌, ℕ, ◌+◌, ◌^◌, ◌≤◌, ◌<◌, ◌⊎◌, inl, inr, List, length, Some, None, Ok, refl, ap, ◌∙◌, arith}
use Rattle.qx_fields.specs.declared.order.Order.{Order}
use Rattle.qx_geom.specs.declared.area.Which.{Which}
use Rattle.qx_geom.specs.declared.area.Which.TheVariants.{First, Second}
use Rattle.qx_geom.specs.declared.geometry.Geometry.{Geometry}
use Rattle.qx_geom.specs.Layout.{IsGeometry, area_place, geometry_of, whole_length}
use Rattle.qx_geom.proofs.SystemBlocks.{area_place-second}
use Rattle.qx_geom.proofs.VolumeNumbers.{IsGeometry-of, geometry_of-numbers}
use Rattle.qx_model.specs.Tree.{Tree}
use Rattle.qx_super.specs.declared.choice.Pick.TheVariants as picks
use Rattle.qx_super.specs.Superblock.{Superblock}
use Rattle.qx_super.specs.Written.{superblock_written}
use Rattle.qx_super.specs.Active.{active_area, active_super, second_super}
use Rattle.qx_super.proofs.ActiveAreas.{active-first_alone, active-second_alone, active-second_later}
use Rattle.qx_view.specs.Images.{image_blocks}
use Rattle.qx_view.specs.Sound.{IsSound}
use Rattle.qx_make.specs.Blocks.{AreMade}
use Rattle.qx_make.proofs.SearchedPlaces.{last_place}
use Rattle.qx_make.specs.Cut.{IsLeftByMaker, new_volume, nothing}
use Rattle.qx_make.specs.Superblocks.{made_super}
use Rattle.qx_make.proofs.MadeBlocks.{HasBlocks, block_bytes-made}
use Rattle.qx_make.proofs.MadeSuperblocks.{made-later, made-one_volume, second_place_of-made}
use Rattle.qx_make.proofs.SuperblocksAt.{none_active, second_at, second_at-here, second_at-none, second_search-last, second_search-named, second_super-at, super_at}

module _ (g : Geometry) (order : Order) (moment size : ℕ) (is_geometry : geometry_of size g.blocksize g.num_inodes ≡ Ok g) (in_time : moment < 2 ^ 32) where
  -- ---- places

  -- the device's geometry is a volume's
  pub own_geometry : IsGeometry g
  own_geometry = IsGeometry-of size g.blocksize g.num_inodes g is_geometry

  -- its length is that of the device, without what lies past the last whole 4096 bytes
  whole : whole_length size ≡ g.len4
  whole = ap (λ (h : Geometry). h.len4) (geometry_of-numbers size g.blocksize g.num_inodes g is_geometry)

  -- the second area is where it is looked for if the first is none
  pub last_place-second : last_place size ≡ area_place g Second
  last_place-second = omega (arith, whole, area_place-second g own_geometry)

  -- it lies within the device
  pub second-room : area_place g Second + 4096 ≤ size
  second-room = omega (arith, whole, area_place-second g own_geometry)

  -- it lies behind the first
  pub second-behind : 0x3000 ≤ area_place g Second
  second-behind = omega arith

  -- ---- what decides

  -- the superblock of an area
  abbrev pub made : Which → Superblock
  made which = superblock_written (made_super g order moment which)

  -- the new blocks, as blocks of an image with either superblock
  pub AreMade-image : (img : List ℕ) (which : Which) → length img ≡ size → HasBlocks g own_geometry order moment img → AreMade g order moment (image_blocks img (made which))
  unfolding made_super
  AreMade-image img which long has = record { order_is = refl; size = refl; count = refl; bytes = block_bytes-made g own_geometry order moment img (omega (arith, second-room)) has }

  -- the second superblock is that at its place, whatever the first area has
  second_super-unnamed : (img : List ℕ) → length img ≡ size → super_at img 0x2000 ≡ None → second_super img ≡ second_at img (area_place g Second)
  second_super-unnamed img long none =
      second_super-at img (area_place g Second) (second_search-last img none (omega (arith, second-room)) ∙ ap (λ (n : ℕ). Some (last_place n)) long ∙ ap (λ (p : ℕ). Some p) last_place-second)

  -- or has the new superblock
  second_super-named : (img : List ℕ) → super_at img 0x2000 ≡ Some (made First) → second_super img ≡ second_at img (area_place g Second)
  second_super-named img first =
      second_super-at img (area_place g Second) (second_search-named img (made First) first ∙ ap (λ (p : ℕ). Some p) (second_place_of-made g own_geometry order moment in_time First))

  -- the new second superblock counts
  counts : (img : List ℕ) → super_at img (area_place g Second) ≡ Some (made Second) → second_at img (area_place g Second) ≡ Some (made Second)
  counts img second = second_at-here img (area_place g Second) (made Second) second (second_place_of-made g own_geometry order moment in_time Second)

  -- with neither no area is active
  pub neither_active : (img : List ℕ) → length img ≡ size → super_at img 0x2000 ≡ None → second_at img (area_place g Second) ≡ None → active_area img ≡ picks.None
  neither_active img long first second =
      none_active img first (λ enough. ap (λ (n : ℕ). second_at img (last_place n)) long ∙ ap (λ (p : ℕ). second_at img p) last_place-second ∙ second)

  -- with both the second is
  pub both_active : (img : List ℕ) → super_at img 0x2000 ≡ Some (made First) → super_at img (area_place g Second) ≡ Some (made Second) → (active_area img ≡ picks.Active Second) × (active_super img ≡ Some (made Second))
  both_active img first second =
      active-second_later img (made First) (made Second) first (second_super-named img first ∙ counts img second) (made-one_volume g own_geometry order moment in_time) (made-later g own_geometry order moment in_time)

  module _ (old : List ℕ) (t : Tree) (new_sound : (img : List ℕ) (which : Which) → length img ≡ size → active_area img ≡ picks.Active which → active_super img ≡ Some (made which) → AreMade g order moment (image_blocks img (made which)) → IsSound img t) where
    -- an image with the new blocks gives no volume or the new one, with any of the two superblocks
    pub left_new : (img : List ℕ) → length img ≡ size → HasBlocks g own_geometry order moment img → (super_at img 0x2000 ≡ None) ⊎ (super_at img 0x2000 ≡ Some (made First))
        → (super_at img (area_place g Second) ≡ None) ⊎ (super_at img (area_place g Second) ≡ Some (made Second)) → IsLeftByMaker old t img
    left_new img long has (inl first) (inl second) = nothing (neither_active img long first (second_at-none img (area_place g Second) second))
    left_new img long has (inl first) (inr second) =
        let active = active-second_alone img (made Second) first (second_super-unnamed img long first ∙ counts img second) in
        new_volume (new_sound img Second long active.0 active.1 (AreMade-image img Second long has))
    left_new img long has (inr first) (inl second) =
        let active = active-first_alone img (made First) first (second_super-named img first ∙ second_at-none img (area_place g Second) second) in
        new_volume (new_sound img First long active.0 active.1 (AreMade-image img First long has))
    left_new img long has (inr first) (inr second) =
        let active = both_active img first second in
        new_volume (new_sound img Second long active.0 active.1 (AreMade-image img Second long has))
