-- Bytes that are put into a device between two good syncs, in parts.
use Rattle.std.specs.Prelude.{ℕ, ◌≡◌, ◌+◌, ◌-◌, ◌≤◌, ◌<◌, true, false, List, [], ◌∷◌, ◌⊎◌, length, slice_index, slice_range, Contains}
use Rattle.qx_bytes.specs.Ranges.{put_at}
use Rattle.qx_outside.specs.Trail.{History, Deed, took, gave, wrote, synced, sized, told_moment, bytes_of}
use Rattle.qx_outside.specs.Images.{IsSettled, kept_bytes}

-- bytes for a place
pub record Put : Type 0 where
  pub at : ℕ
  pub bytes : List ℕ

-- the bytes of a device once all of these are put, one after another
abbrev pub with_puts : List ℕ → List Put → List ℕ
with_puts bytes [] = bytes
with_puts bytes (put ∷ puts) = with_puts (put_at bytes put.at put.bytes) puts

-- a byte lies in the place of none of them
abbrev pub IsApartFrom : List Put → ℕ → Type 0
IsApartFrom puts k = (put : Put) → Contains puts put → put.at ≤ k → k < put.at + length put.bytes → ⊥

-- these bytes at this place are a part of one of the puts
pub record IsPartOf (puts : List Put) (at : ℕ) (bytes : List ℕ) : Type 0 where
  pub put : Put
  pub among : Contains puts put
  pub from : put.at ≤ at
  pub to : at + length bytes ≤ put.at + length put.bytes
  pub same : bytes ≡ slice_range put.bytes (at - put.at) (at - put.at + length bytes)

-- each write since the last good sync that reached a byte was asked for a part of one of the puts
abbrev pub ArePartsOf : List Put → List Deed → Type 0
ArePartsOf puts [] = Unit {0}
ArePartsOf puts (wrote at asked left ok ∷ before) = ((left ≡ []) ⊎ ((length left ≡ length asked) × IsPartOf puts at asked)) × ArePartsOf puts before
ArePartsOf puts (synced true ∷ before) = Unit {0}
ArePartsOf puts (synced false ∷ before) = ArePartsOf puts before
ArePartsOf puts (sized len ok ∷ before) = ArePartsOf puts before
ArePartsOf puts (took bytes ∷ before) = ArePartsOf puts before
ArePartsOf puts (gave bytes ∷ before) = ArePartsOf puts before
ArePartsOf puts (told_moment moment ∷ before) = ArePartsOf puts before

-- these bytes were kept, and since the last good sync nothing but parts of the puts was asked for, so that all else is as it was kept
pub record IsPutting (kept : List ℕ) (puts : List Put) (h : History) : Type 0 where
  pub kept_is : kept_bytes h ≡ kept
  pub size : length (bytes_of h) ≡ length kept
  pub parts : ArePartsOf puts h.deeds
  pub outside : (k : ℕ) → IsApartFrom puts k → slice_index (bytes_of h) k ≡ slice_index kept k

-- the same, and the device has these bytes now
pub record HasPut (kept : List ℕ) (puts : List Put) (now : List ℕ) (h : History) : Type 0 where
  pub putting : IsPutting kept puts h
  pub now_is : bytes_of h ≡ now

-- the device has these bytes, and none is pending
pub record IsAtRest (bytes : List ℕ) (h : History) : Type 0 where
  pub bytes_are : bytes_of h ≡ bytes
  pub settled : IsSettled h

-- the puts are on their way, or all stand and are kept
abbrev pub PutsOrRests : List ℕ → List Put → List ℕ → History → Type 0
PutsOrRests kept puts all h = IsPutting kept puts h ⊎ IsAtRest all h
