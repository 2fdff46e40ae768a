-- The places at which a superblock is looked for, where a device has 4096 bytes.
use Rattle.std.proofs.Common.{◌≡◌, ℕ, ◌-◌, ◌≤◌, List, [], ◌∷◌, length, refl, sym, ap, subst, arith}
use Rattle.std.specs.Prelude.{Bool, if◌then◌else◌, Option, Some, None, option_to_list, flat_map, Contains}
use Rattle.std.proofs.lemmas.Bool.{le-leb}
use Rattle.qx_geom.proofs.Members.{Contains-cons}
use Rattle.qx_geom.specs.Layout.{first_place, whole_length}
use Rattle.qx_super.specs.Active.{searched_place, second_search}
use Rattle.qx_view.proofs.AlikeLists.{members_flat_map}
use Rattle.qx_make.specs.Cut.{places_of}

-- the last 4096 bytes of a device's whole ones
abbrev pub last_place : ℕ → ℕ
last_place len = whole_length len - 0x1000

-- a second area is looked for there if the first is none
pub searched_last : (len : ℕ) → 4096 ≤ len → searched_place len None ≡ Some (last_place len)
searched_last len long = ap (λ (b : Bool). if b then Some (last_place len) else None) (le-leb 4096 len long)

module _ (old : List ℕ) (size : ℕ) where
  -- where the second area is looked for
  abbrev searched : List (Option ℕ)
  searched = searched_place size None ∷ searched_place (length old) None ∷ second_search old ∷ []

  -- each of these is among the places
  among : (o : Option ℕ) (place : ℕ) → Contains searched o → o ≡ Some place → Contains (places_of old size) place
  among o place c is =
      Contains-cons first_place place (flat_map option_to_list searched)
      (members_flat_map option_to_list searched o place c (subst (λ (x : Option ℕ). Contains (option_to_list x) place) (sym is) (0, omega arith, refl)))

  -- the last place of the new bytes
  pub among_new : 4096 ≤ size → Contains (places_of old size) (last_place size)
  among_new long = among (searched_place size None) (last_place size) (0, omega arith, refl) (searched_last size long)

  -- that of the old ones
  pub among_old : 4096 ≤ length old → Contains (places_of old size) (last_place (length old))
  among_old long = among (searched_place (length old) None) (last_place (length old)) (1, omega arith, refl) (searched_last (length old) long)

  -- and the place where the second area of the old bytes is looked for
  pub among_search : (place : ℕ) → second_search old ≡ Some place → Contains (places_of old size) place
  among_search place found = among (second_search old) place (2, omega arith, refl) found
