-- The superblock at a place of an image, and how those at the places that are looked at decide which area is active.
use Rattle.std.proofs.Common.{◌≡◌, replicate, ℕ, ◌+◌, ◌≤◌, ◌<◌, inl, inr, Bool, true, false, List, length, Option, Some, None, Result, Ok, Err, refl, ap, sym, ◌∙◌, arith, if◌then◌else◌}
use Rattle.std.specs.Prelude.{option_and_then, slice_range, ◌==◌}
use Rattle.std.specs.Result.{result_ok}
use Rattle.std.proofs.lemmas.Bool.{cases_lt, lt-leb, le-leb, eqb-true, eq-eqb}
use Rattle.qx_super.specs.declared.choice.Pick.TheVariants as picks
use Rattle.qx_super.specs.Superblock.{Superblock, has_right_checksum, second_place_of, superblock_of}
use Rattle.qx_super.specs.declared.superblock.SuperFault.{SuperFault}
use Rattle.qx_super.specs.Active.{active_area, active_super, area_at, first_super, only_at, pick_of, second_search, second_super, searched_place, super_of_pick, valid_area}
use Rattle.qx_super.proofs.ActiveAreas.{active-none, superblock_of-zeros, none_picked}
use Rattle.qx_super.proofs.SuperblockTests.{superblock_of-wrong}
use Rattle.qx_super.proofs.ValidSuperblocks.{ok_of}
use Rattle.qx_make.proofs.SearchedPlaces.{last_place, searched_last}
use Rattle.qx_make.proofs.BytesAt.{HasSame, HasZeros, range_same, range_zeros}

-- the valid superblock at a place of an image
abbrev pub super_at : List ℕ → ℕ → Option Superblock
super_at img place = valid_area (length img) (area_at img place)

-- the one that counts as the second there
abbrev pub second_at : List ℕ → ℕ → Option Superblock
second_at img place = only_at place (super_at img place)

-- ---- at one place

-- what stands there decides, where the image has it
pub super_at-there : (img : List ℕ) (place : ℕ) → place + 512 ≤ length img → super_at img place ≡ result_ok (superblock_of (slice_range img place (place + 512)) (length img))
super_at-there img place room =
    ap (λ (b : Bool). valid_area (length img) (if b then Some (slice_range img place (place + 512)) else None)) (le-leb (place + 512) (length img) room)

-- past the end there is none
pub super_at-past : (img : List ℕ) (place : ℕ) → length img < place + 512 → super_at img place ≡ None
super_at-past img place past =
    ap (λ (b : Bool). valid_area (length img) (if b then Some (slice_range img place (place + 512)) else None)) (lt-leb (place + 512) (length img) past)

-- none where what stands there is none
pub super_at-none : (img : List ℕ) (place : ℕ) → (place + 512 ≤ length img → result_ok (superblock_of (slice_range img place (place + 512)) (length img)) ≡ None) → super_at img place ≡ None
super_at-none img place none = elim (cases_lt (length img) (place + 512)) [
  | inl past ↦ super_at-past img place past
  | inr room ↦ super_at-there img place room ∙ none room
]

-- images with these bytes there have the one that they are
pub super_at-bytes : (img : List ℕ) (place : ℕ) (bytes : List ℕ) (len : ℕ) → place + 512 ≤ length img → slice_range img place (place + 512) ≡ bytes → length img ≡ len → super_at img place ≡ result_ok (superblock_of bytes len)
super_at-bytes img place bytes len room are long =
    super_at-there img place room ∙ ap (λ (xs : List ℕ). result_ok (superblock_of xs (length img))) are ∙ ap (λ (n : ℕ). result_ok (superblock_of bytes n)) long

-- bytes 0 are none
pub super_at-zeros : (img : List ℕ) (place : ℕ) → HasZeros img place (place + 512) → super_at img place ≡ None
super_at-zeros img place zeros =
    super_at-none img place (λ room. sym (super_at-there img place room) ∙ super_at-bytes img place (replicate 512 0) (length img) room (range_zeros img place 512 room zeros) refl ∙ ap result_ok (superblock_of-zeros (length img)))

-- bytes that are no superblock are none
pub super_at-invalid : (img : List ℕ) (place : ℕ) → place + 512 ≤ length img → ((s : Superblock) → superblock_of (slice_range img place (place + 512)) (length img) ≡ Ok s → ⊥) → super_at img place ≡ None
super_at-invalid img place room invalid = super_at-there img place room ∙ refused (superblock_of (slice_range img place (place + 512)) (length img)) invalid
  where
    refused : (r : Result Superblock SuperFault) → ((s : Superblock) → r ≡ Ok s → ⊥) → result_ok r ≡ None
    refused (Ok s) none = absurd (none s refl)
    refused (Err e) none = refl

-- nor are bytes without a right checksum
pub super_at-wrong : (img : List ℕ) (place : ℕ) → (place + 512 ≤ length img → has_right_checksum (slice_range img place (place + 512)) ≡ true → ⊥) → super_at img place ≡ None
super_at-wrong img place wrong = super_at-none img place (λ room. superblock_of-wrong (slice_range img place (place + 512)) (length img) (wrong room))

-- images of one length have the same one where they have the same bytes
pub super_at-same : (img other : List ℕ) (place : ℕ) → length img ≡ length other → HasSame img other place (place + 512) → super_at img place ≡ super_at other place
super_at-same img other place long same = elim (cases_lt (length img) (place + 512)) [
  | inl past ↦ super_at-past img place past ∙ sym (super_at-past other place (omega arith))
  | inr room ↦
      super_at-bytes img place (slice_range other place (place + 512)) (length other) room (range_same img other place (place + 512) room (omega arith) same) long
      ∙ sym (super_at-there other place (omega arith))
]

-- where there is one, the image has its bytes, and they are valid
pub super_at-valid : (img : List ℕ) (place : ℕ) (s : Superblock) → super_at img place ≡ Some s → (place + 512 ≤ length img) × (superblock_of (slice_range img place (place + 512)) (length img) ≡ Ok s)
super_at-valid img place s e = elim (cases_lt (length img) (place + 512)) [
  | inl past ↦ absurd (let none = super_at-past img place past in cc)
  | inr room ↦ (room, ok_of (superblock_of (slice_range img place (place + 512)) (length img)) s (sym (super_at-there img place room) ∙ e))
]

-- the one that counts is there, and says that it stands there
only_at-is : (place : ℕ) (o : Option Superblock) (s : Superblock) → only_at place o ≡ Some s → (o ≡ Some s) × (second_place_of s ≡ place)
only_at-is place None s e = absurd (cc)
only_at-is place (Some x) s e = by_place (second_place_of x == place) refl e
  where
    by_place : (b : Bool) → (second_place_of x == place) ≡ b → (if b then Some x else None) ≡ Some s → (Some x ≡ Some s) × (second_place_of s ≡ place)
    by_place true here e = let same : x ≡ s = cc e in (e, ap (λ (y : Superblock). second_place_of y) (sym same) ∙ eqb-true (second_place_of x) place here)
    by_place false here e = absurd (cc e)

-- of an image
pub second_at-is : (img : List ℕ) (place : ℕ) (s : Superblock) → second_at img place ≡ Some s → (super_at img place ≡ Some s) × (second_place_of s ≡ place)
second_at-is img place s e = only_at-is place (super_at img place) s e

-- and one that says so counts
pub second_at-here : (img : List ℕ) (place : ℕ) (s : Superblock) → super_at img place ≡ Some s → second_place_of s ≡ place → second_at img place ≡ Some s
second_at-here img place s there says =
    ap (λ (o : Option Superblock). only_at place o) there ∙ ap (λ (b : Bool). if b then Some s else None) (eq-eqb (second_place_of s) place says)

-- where there is none, none counts
pub second_at-none : (img : List ℕ) (place : ℕ) → super_at img place ≡ None → second_at img place ≡ None
second_at-none img place none = ap (λ (o : Option Superblock). only_at place o) none

-- ---- where the second is looked for

-- the second where it is looked for at a place, and where it isn't looked for
pub second_super-at : (img : List ℕ) (place : ℕ) → second_search img ≡ Some place → second_super img ≡ second_at img place
second_super-at img place e = ap (λ (search : Option ℕ). option_and_then (λ p. second_at img p) search) e

-- where it is looked for nowhere there is none
pub second_super-unsearched : (img : List ℕ) → second_search img ≡ None → second_super img ≡ None
second_super-unsearched img e = ap (λ (search : Option ℕ). option_and_then (λ p. second_at img p) search) e

-- where the first says
pub second_search-named : (img : List ℕ) (s : Superblock) → super_at img 0x2000 ≡ Some s → second_search img ≡ Some (second_place_of s)
second_search-named img s e = ap (λ (first : Option Superblock). searched_place (length img) first) e

-- or at the last whole 4096 bytes
pub second_search-last : (img : List ℕ) → super_at img 0x2000 ≡ None → 4096 ≤ length img → second_search img ≡ Some (last_place (length img))
second_search-last img e long =
    ap (λ (first : Option Superblock). searched_place (length img) first) e ∙ searched_last (length img) long

-- on a short device nowhere
pub second_search-none : (img : List ℕ) → super_at img 0x2000 ≡ None → length img < 4096 → second_search img ≡ None
second_search-none img e short =
    ap (λ (first : Option Superblock). searched_place (length img) first) e ∙ ap (λ (b : Bool). if b then Some (last_place (length img)) else None) (lt-leb 4096 (length img) short)

-- with both superblocks those of another image, that image's area is active
pub active-same : (img other : List ℕ) → first_super img ≡ first_super other → second_super img ≡ second_super other → (active_area img ≡ active_area other) × (active_super img ≡ active_super other)
unfolding active_area active_super
active-same img other first second = (
  ap (λ (a : Option Superblock). pick_of a (second_super img)) first ∙ ap (λ (b : Option Superblock). pick_of (first_super other) b) second,
  ap (λ (a : Option Superblock). super_of_pick (pick_of a (second_super img)) a (second_super img)) first
      ∙ ap (λ (b : Option Superblock). super_of_pick (pick_of (first_super other) b) (first_super other) b) second,
)

-- with no active area there are none
pub none_there : (img : List ℕ) → active_area img ≡ picks.None → (super_at img 0x2000 ≡ None) × (second_super img ≡ None)
unfolding active_area
none_there img e = none_picked (first_super img) (second_super img) e

-- with no first superblock, and none that counts at the last place, no area is active
pub none_active : (img : List ℕ) → super_at img 0x2000 ≡ None → (4096 ≤ length img → second_at img (last_place (length img)) ≡ None) → active_area img ≡ picks.None
none_active img first last = (active-none img first (elim (cases_lt (length img) 4096) [
  | inl short ↦ second_super-unsearched img (second_search-none img first short)
  | inr long ↦ second_super-at img (last_place (length img)) (second_search-last img first long) ∙ last long
])).0
