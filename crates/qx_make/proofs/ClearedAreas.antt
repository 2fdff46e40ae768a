-- The old areas once they are zeroed: no superblock is left where one is looked for, in the old length or the new.
use Rattle.std.proofs.Common.{◌≡◌, ℕ, ◌+◌, ◌-◌, ◌*◌, ◌/◌, ◌≤◌, ◌⊎◌, inl, inr, List, length, Option, Some, None, Ok, refl, ap, sym, ◌∙◌, arith}
use Rattle.std.specs.Prelude.{slice_range}
use Rattle.std.specs.Result.{result_ok}
use Rattle.std.proofs.lemmas.Bool.{cases_eq, cases_lt}
use Rattle.std.proofs.lemmas.Option.{same_Some}
use Rattle.qx_super.specs.declared.choice.Pick.TheVariants as picks
use Rattle.qx_super.specs.Superblock.{Superblock, second_place_of, superblock_of}
use Rattle.qx_super.specs.Active.{active_area, second_search}
use Rattle.qx_super.proofs.SuperblockTests.{valid-elsewhere}
use Rattle.qx_make.proofs.SearchedPlaces.{last_place}
use Rattle.qx_make.specs.Cut.{HasNoOtherSuperblock}
use Rattle.qx_make.specs.Stages.{after_stage, zero_stage}
use Rattle.qx_make.proofs.BytesAt.{HasSame, HasSame-then, HasZeros, HasZeros-same, HasZeros-within, range_same}
use Rattle.qx_make.proofs.OldVolume.{IsActiveFirst, IsActiveSecond, nothing_elsewhere}
use Rattle.qx_make.proofs.SuperblocksAt.{none_there, second_at, second_at-here, second_at-is, second_at-none, second_search-last, second_search-none, second_super-at, super_at, super_at-there, super_at-valid, super_at-zeros}
use Rattle.qx_make.proofs.TornAreas.{length-zeroed, zeroed-apart, zeroed-within}

-- the last place is a multiple of 512
pub last_parts : ℕ → ℕ
last_parts len = (len / 4096 - 1) * 8

-- so many times 512
pub last_place-aligned : (len : ℕ) → last_place len ≡ last_parts len * 512
unfolding last_parts
last_place-aligned len = omega arith

-- 512 bytes at a multiple of 512 lie in a zeroed area whole, or apart from it
pub zeroed_at : (bytes : List ℕ) (area at parts n : ℕ) → area ≡ parts * 512 → at ≡ n * 512
    → HasZeros (after_stage (zero_stage bytes area)) at (at + 512) ⊎ (HasSame (after_stage (zero_stage bytes area)) bytes at (at + 512) × (area ≡ at → ⊥))
zeroed_at bytes area at parts n aligned here = elim (cases_lt at area) [
  | inl before ↦ inr (zeroed-apart bytes area at (at + 512) (inl (omega arith)), λ same. omega arith)
  | inr from ↦ elim (cases_lt at (area + 4096)) [
    | inl within ↦ inl (HasZeros-within (after_stage (zero_stage bytes area)) area (area + 4096) at (at + 512) from (omega arith) (zeroed-within bytes area))
    | inr behind ↦ inr (zeroed-apart bytes area at (at + 512) (inr behind), λ same. omega arith)
  ]
]

-- the old areas are zeroed: the first is 0, and at each multiple of 512 stand bytes 0, or the old ones where no active area's superblock stood
pub record IsCleared (old bytes : List ℕ) : Type 0 where
  pub size : length bytes ≡ length old
  pub first : HasZeros bytes 0x2000 0x3000
  pub others : (n at : ℕ) → at ≡ n * 512 → HasZeros bytes at (at + 512) ⊎ (HasSame bytes old at (at + 512) × (second_search old ≡ Some at → active_area old ≡ picks.None))

-- ---- each way to zero them

module _ (old : List ℕ) where
  -- the second area and then the first, which was active
  pub IsCleared-first : (s : Superblock) → IsActiveFirst old s → IsCleared old (after_stage (zero_stage (after_stage (zero_stage old (second_place_of s))) 0x2000))
  IsCleared-first s active =
      let inner = after_stage (zero_stage old (second_place_of s)) in
      record {
        size = length-zeroed inner 0x2000 ∙ length-zeroed old (second_place_of s);
        first = zeroed-within inner 0x2000;
        others = λ n at here. elim (zeroed_at inner 0x2000 at 16 n refl here) [
          | inl zeros ↦ inl zeros
          | inr same ↦ elim (zeroed_at old (second_place_of s) at active.place.parts n active.place.aligned here) [
            | inl zeros ↦ inl (HasZeros-same (after_stage (zero_stage inner 0x2000)) inner at (at + 512) same.0 zeros)
            | inr kept ↦ inr (HasSame-then (after_stage (zero_stage inner 0x2000)) inner old at (at + 512) same.0 kept.0, λ found. absurd (kept.1 (same_Some (second_place_of s) at (sym active.search ∙ found))))
          ]
        ];
      }

  -- the first area and then the second, which was active
  pub IsCleared-second : (s : Superblock) → IsActiveSecond old s → IsCleared old (after_stage (zero_stage (after_stage (zero_stage old 0x2000)) (second_place_of s)))
  IsCleared-second s active =
      let inner = after_stage (zero_stage old 0x2000) in
      let place = second_place_of s in
      record {
        size = length-zeroed inner place ∙ length-zeroed old 0x2000;
        first = HasZeros-same (after_stage (zero_stage inner place)) inner 0x2000 0x3000 (zeroed-apart inner place 0x2000 0x3000 (inl (omega (arith, active.place.behind)))) (zeroed-within old 0x2000);
        others = λ n at here. elim (zeroed_at inner place at active.place.parts n active.place.aligned here) [
          | inl zeros ↦ inl zeros
          | inr same ↦ elim (zeroed_at old 0x2000 at 16 n refl here) [
            | inl zeros ↦ inl (HasZeros-same (after_stage (zero_stage inner place)) inner at (at + 512) same.0 zeros)
            | inr kept ↦ inr (HasSame-then (after_stage (zero_stage inner place)) inner old at (at + 512) same.0 kept.0, λ found. absurd (same.1 (same_Some place at (sym active.search ∙ found))))
          ]
        ];
      }

  -- the first alone, where none was active
  pub IsCleared-none : active_area old ≡ picks.None → IsCleared old (after_stage (zero_stage old 0x2000))
  IsCleared-none none = record {
    size = length-zeroed old 0x2000;
    first = zeroed-within old 0x2000;
    others = λ n at here. elim (zeroed_at old 0x2000 at 16 n refl here) [
      | inl zeros ↦ inl zeros
      | inr kept ↦ inr (kept.0, λ found. none)
    ];
  }

  -- ---- what is left

  -- a place is the searched one or not
  search_cases : (search : Option ℕ) (place : ℕ) → (search ≡ Some place) ⊎ (search ≡ Some place → ⊥)
  search_cases None place = inr (λ e. cc e)
  search_cases (Some p) place = elim (cases_eq p place) [
    | inl same ↦ inl (ap (λ (x : ℕ). Some x) same)
    | inr other ↦ inr (λ e. other (same_Some p place e))
  ]

  -- where none was active, old bytes of the searched place don't count as the second, in whatever length
  uncounted : active_area old ≡ picks.None → (img : List ℕ) (place : ℕ) → second_search old ≡ Some place → HasSame img old place (place + 512) → (o : Option Superblock) → second_at img place ≡ o → second_at img place ≡ None
  uncounted none img place found same None is = is
  uncounted none img place found same (Some s) is =
      let nowhere = none_there old none in
      let both = second_at-is img place s is in
      let valid = super_at-valid img place s both.0 in
      let room : place + 512 ≤ length old = elim (cases_lt (length old) 4096) [
        | inl short ↦ absurd (let unsearched = second_search-none old nowhere.0 short in cc)
        | inr long ↦ let at : place ≡ last_place (length old) = same_Some place (last_place (length old)) (sym found ∙ second_search-last old nowhere.0 long) in omega arith
      ] in
      let says : second_place_of s ≡ place = both.1 in
      let bytes : slice_range old place (place + 512) ≡ slice_range img place (place + 512) = sym (range_same img old place (place + 512) valid.0 room same) in
      let elsewhere : superblock_of (slice_range img place (place + 512)) (length old) ≡ Ok s = valid-elsewhere (slice_range img place (place + 512)) (length img) s valid.1 (length old) (omega arith) in
      let old_one : super_at old place ≡ Some s = super_at-there old place room ∙ ap (λ (xs : List ℕ). result_ok (superblock_of xs (length old))) bytes ∙ ap result_ok elsewhere in
      let counted : second_at old place ≡ Some s = second_at-here old place s old_one says in
      let missing : second_at old place ≡ None = sym (second_super-at old place found) ∙ nowhere.1 in
      absurd (cc)

  -- at the last place of any length no superblock counts
  pub nothing_last : HasNoOtherSuperblock old → (bytes : List ℕ) → IsCleared old bytes → (img : List ℕ) (len place : ℕ) → place ≡ last_place len → HasSame img bytes place (place + 512) → second_at img place ≡ None
  nothing_last alone bytes cleared img len place last same =
      elim (cleared.others (last_parts len) place (last ∙ last_place-aligned len)) [
        | inl zeros ↦ second_at-none img place (super_at-zeros img place (HasZeros-same img bytes place (place + 512) same zeros))
        | inr kept ↦ by_place kept.1 (HasSame-then img bytes old place (place + 512) same kept.0) (cases_eq place 0x2000) (search_cases (second_search old) place)
      ]
    where
      by_place : (second_search old ≡ Some place → active_area old ≡ picks.None) → HasSame img old place (place + 512) → (place ≡ 0x2000) ⊎ (place ≡ 0x2000 → ⊥) → (second_search old ≡ Some place) ⊎ (second_search old ≡ Some place → ⊥) → second_at img place ≡ None
      by_place inactive as_old (inl first) found =
          second_at-none img place (super_at-zeros img place (HasZeros-same img bytes place (place + 512) same (HasZeros-within bytes 0x2000 0x3000 place (place + 512) (omega arith) (omega arith) cleared.first)))
      by_place inactive as_old (inr behind) (inl found) = uncounted (inactive found) img place found as_old (second_at img place) refl
      by_place inactive as_old (inr behind) (inr elsewhere) = second_at-none img place (nothing_elsewhere old alone img place as_old behind elsewhere)
