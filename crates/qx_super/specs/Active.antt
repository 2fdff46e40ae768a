-- Which of the two superblock areas of an image is active.
use Rattle.std.specs.Prelude.{◌≡◌, ℕ, ◌+◌, ◌-◌, ◌*◌, ◌/◌, Bool, true, false, List, length, replicate, slice_range, nat_le, nat_lt, ◌==◌, ◌&&◌, Option, Some, None, option_and_then, unwrap_or, if◌then◌else◌}
use Rattle.std.specs.Result.{result_ok}
use Rattle.qx_fields.specs.declared.order.Order.{Order}
use Rattle.qx_fields.specs.declared.order.Order.TheVariants.{Little, Big}
use Rattle.qx_geom.specs.Layout.{first_place}
use Rattle.qx_geom.specs.declared.area.Which.TheVariants.{First, Second}
use Rattle.qx_super.specs.declared.active.Later.{Later}
use Rattle.qx_super.specs.declared.active.Later.TheVariants as laters
use Rattle.qx_super.specs.declared.supers.Areas.{Areas}
use Rattle.qx_super.specs.declared.choice.Choice.{Choice}
use Rattle.qx_super.specs.declared.choice.Choice.TheVariants as choices
use Rattle.qx_super.specs.declared.choice.Pick.{Pick}
use Rattle.qx_super.specs.declared.choice.Pick.TheVariants as picks
use Rattle.qx_super.specs.Superblock.{Superblock, superblock_of, second_place_of}

-- the 512 bytes at a place, where the image has them
abbrev pub area_at : List ℕ → ℕ → Option (List ℕ)
area_at img place = if nat_le (place + 512) (length img) then Some (slice_range img place (place + 512)) else None

-- the valid superblock of an area, on a device of this length
abbrev pub valid_area : ℕ → Option (List ℕ) → Option Superblock
valid_area len area = option_and_then (λ bytes. result_ok (superblock_of bytes len)) area

-- a superblock counts as the second only where it says that it stands
abbrev pub only_at : ℕ → Option Superblock → Option Superblock
only_at place None = None
only_at place (Some s) = if second_place_of s == place then Some s else None

-- where the second area is looked for: where the first says, or at the last 4096 bytes of the whole ones, if there are any
abbrev pub searched_place : ℕ → Option Superblock → Option ℕ
searched_place len (Some first) = Some (second_place_of first)
searched_place len None = if nat_le 4096 len then Some (len / 4096 * 4096 - 0x1000) else None

-- the bytes of the first area
abbrev pub first_area : List ℕ → Option (List ℕ)
first_area img = area_at img first_place

-- the valid superblock of the first area
abbrev pub first_super : List ℕ → Option Superblock
first_super img = valid_area (length img) (first_area img)

-- where the second area of an image is looked for
abbrev pub second_search : List ℕ → Option ℕ
second_search img = searched_place (length img) (first_super img)

-- the bytes of the second area
abbrev pub second_area : List ℕ → Option (List ℕ)
second_area img = option_and_then (λ place. area_at img place) (second_search img)

-- the valid superblock of the second area
abbrev pub second_super : List ℕ → Option Superblock
second_super img = option_and_then (λ place. only_at place (valid_area (length img) (area_at img place))) (second_search img)

-- two orders are one
abbrev pub is_same_order : Order → Order → Bool
is_same_order Little Little = true
is_same_order Little Big = false
is_same_order Big Little = false
is_same_order Big Big = true

-- two superblocks are of one volume
abbrev pub is_same_volume : Superblock → Superblock → Bool
is_same_volume a b = is_same_order a.order b.order && ((a.blocksize == b.blocksize) && ((a.num_blocks == b.num_blocks) && (a.num_inodes == b.num_inodes)))

-- of two of one volume the one with the greater serial, the first at equal serials
abbrev pub later_of : Superblock → Superblock → Later
later_of a b = if is_same_volume a b then (if nat_lt a.serial b.serial then laters.Second else laters.First) else laters.Neither

-- the area that is then active
abbrev pub pick_later : Later → Pick
pick_later laters.First = picks.Active First
pick_later laters.Second = picks.Active Second
pick_later laters.Neither = picks.Disagree

-- the same, with its superblock
abbrev pub choice_later : Later → Superblock → Superblock → Choice
choice_later laters.First a b = choices.Active First a
choice_later laters.Second a b = choices.Active Second b
choice_later laters.Neither a b = choices.Disagree

-- the choice: the only one, or of two the later
abbrev pub pick_of : Option Superblock → Option Superblock → Pick
pick_of None None = picks.None
pick_of (Some a) None = picks.Active First
pick_of None (Some b) = picks.Active Second
pick_of (Some a) (Some b) = pick_later (later_of a b)

-- the active area of an image, if there is one
unfoldable pub active_area : List ℕ → Pick
active_area img = pick_of (first_super img) (second_super img)

-- the superblock that a pick means
abbrev pub super_of_pick : Pick → Option Superblock → Option Superblock → Option Superblock
super_of_pick (picks.Active First) a b = a
super_of_pick (picks.Active Second) a b = b
super_of_pick picks.None a b = None
super_of_pick picks.Disagree a b = None

-- the active superblock, if there is one
unfoldable pub active_super : List ℕ → Option Superblock
active_super img = super_of_pick (pick_of (first_super img) (second_super img)) (first_super img) (second_super img)

-- ---- the area that counts, with its superblock

-- the choice: the only one, or of two the later
abbrev pub choice_of : Option Superblock → Option Superblock → Choice
choice_of None None = choices.None
choice_of (Some a) None = choices.Active First a
choice_of None (Some b) = choices.Active Second b
choice_of (Some a) (Some b) = choice_later (later_of a b) a b

-- of an image
unfoldable pub choice_in : List ℕ → Choice
choice_in img = choice_of (first_super img) (second_super img)

-- the area alone
abbrev pub pick_in : Choice → Pick
pick_in (choices.Active which s) = picks.Active which
pick_in choices.None = picks.None
pick_in choices.Disagree = picks.Disagree

-- the superblock alone
abbrev pub super_in : Choice → Option Superblock
super_in (choices.Active which s) = Some s
super_in choices.None = None
super_in choices.Disagree = None

-- ---- the same by what was read into two buffers

-- a buffer has the area's bytes, or 0 where the image lacks them
abbrev pub buffer_of : Option (List ℕ) → List ℕ
buffer_of area = unwrap_or area (replicate 512 0)

-- the valid superblock of the first buffer, on a device of this length
abbrev pub first_read : List ℕ → ℕ → Option Superblock
first_read first len = result_ok (superblock_of first len)

-- the valid superblock of the second buffer, where the first names its place
abbrev pub second_read : List ℕ → List ℕ → ℕ → Option Superblock
second_read first second len = option_and_then (λ place. only_at place (result_ok (superblock_of second len))) (searched_place len (first_read first len))

-- two buffers are what the image has in its areas
pub record AreRead (img first second : List ℕ) : Type 0 where
  pub first_bytes : first ≡ buffer_of (first_area img)
  pub second_bytes : second ≡ buffer_of (second_area img)

-- these are the superblocks of two buffers of 512 bytes that were read, on a device of this length
pub record IsReadFrom (len : ℕ) (areas : Areas) : Type 0 where
  pub first : List ℕ
  pub second : List ℕ
  pub first_long : length first ≡ 512
  pub second_long : length second ≡ 512
  pub first_is : areas.first ≡ first_read first len
  pub second_is : areas.second ≡ second_read first second len

-- these are the superblocks of an image
pub record IsOfImage (img : List ℕ) (areas : Areas) : Type 0 where
  pub first : areas.first ≡ first_super img
  pub second : areas.second ≡ second_super img
