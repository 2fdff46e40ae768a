-- A cut while the old areas are zeroed leaves the old volume, or none.
use Rattle.std.proofs.Common.{◌≡◌, ℕ, ◌+◌, ◌-◌, ◌≤◌, ◌⊎◌, inl, inr, List, length, min, Option, Some, None, refl, ap, sym, ◌∙◌, arith}
use Rattle.std.specs.Prelude.{Contains}
use Rattle.std.proofs.lemmas.Bool.{cases_eq}
use Rattle.std.proofs.lemmas.Option.{same_Some}
use Rattle.qx_geom.specs.declared.area.Which.TheVariants.{First, Second}
use Rattle.qx_model.specs.Tree.{Tree}
use Rattle.qx_super.specs.declared.choice.Pick.TheVariants as picks
use Rattle.qx_super.specs.Superblock.{Superblock, second_place_of}
use Rattle.qx_super.specs.Active.{active_area, second_search, only_at, second_super, searched_place}
use Rattle.qx_super.proofs.ActiveAreas.{active-first_alone, active-second_alone}
use Rattle.qx_make.specs.Cut.{HasNoOtherSuperblock, IsLeftByMaker, IsTorn, nothing, places_of}
use Rattle.qx_make.specs.Stages.{after_stage, zero_stage}
use Rattle.qx_make.proofs.BytesAt.{HasSame, HasSame-then, HasZeros-within}
use Rattle.qx_make.proofs.ClearedAreas.{last_parts, last_place-aligned, zeroed_at}
use Rattle.qx_make.proofs.OldVolume.{IsActiveFirst, IsActiveSecond, left_old, nothing_elsewhere}
use Rattle.qx_make.proofs.SearchedPlaces.{among_old, among_search, last_place}
use Rattle.qx_make.proofs.SuperblocksAt.{active-same, none_active, none_there, second_at, second_at-here, second_at-none, second_search-last, second_search-named, second_super-at, super_at, super_at-same, super_at-zeros}
use Rattle.qx_make.proofs.TornAreas.{AreZeros-one, length-zeroed, torn_apart, torn_apart-super, torn_zeroed-apart, torn_zeros, zeroed-apart, zeroed-within}

module _ (old : List ℕ) (size : ℕ) (t : Tree) (alone : HasNoOtherSuperblock old) where
  -- where superblocks are looked for
  abbrev places : List ℕ
  places = places_of old size

  -- where the second area is looked for if the first is none
  abbrev last : ℕ
  last = last_place (length old)

  -- during the zeroing of an area, a place has the superblock that was kept or none
  kept_or_none : (bytes : List ℕ) (area : ℕ) (img : List ℕ) → IsTorn (zero_stage bytes area) places img → (place : ℕ) → Contains places place → (super_at img place ≡ super_at bytes place) ⊎ (super_at img place ≡ None)
  kept_or_none bytes area img torn place among =
      torn_zeros (zero_stage bytes area) places img torn place (AreZeros-one area (min 4096 (length bytes - area))) among

  -- so it has none where none was kept
  stays_none : (bytes : List ℕ) (area : ℕ) (img : List ℕ) → IsTorn (zero_stage bytes area) places img → (place : ℕ) → Contains places place → super_at bytes place ≡ None → super_at img place ≡ None
  stays_none bytes area img torn place among none = elim (kept_or_none bytes area img torn place among) [
    | inl kept ↦ kept ∙ none
    | inr gone ↦ gone
  ]

  -- apart from the area all is as it was kept
  stays : (bytes : List ℕ) (area : ℕ) (img : List ℕ) → IsTorn (zero_stage bytes area) places img → (from to : ℕ) → (to ≤ area) ⊎ (area + 4096 ≤ from) → HasSame img bytes from to
  stays bytes area img torn from to beside = torn_apart (zero_stage bytes area) places img torn from to (torn_zeroed-apart bytes area from to beside)

  -- so is a superblock apart from it
  stays_super : (bytes : List ℕ) (area : ℕ) (img : List ℕ) → IsTorn (zero_stage bytes area) places img → (place : ℕ) → (place + 512 ≤ area) ⊎ (area + 4096 ≤ place) → super_at img place ≡ super_at bytes place
  stays_super bytes area img torn place beside = torn_apart-super (zero_stage bytes area) places img torn place (torn_zeroed-apart bytes area place (place + 512) beside)

  -- with no first superblock, and none at the last place, there is no volume
  left_nothing : (img : List ℕ) → length img ≡ length old → super_at img 0x2000 ≡ None → (4096 ≤ length old → second_at img last ≡ None) → IsLeftByMaker old t img
  left_nothing img long first second = nothing (none_active img first (λ enough. ap (λ (n : ℕ). second_at img (last_place n)) long ∙ second (omega arith)))

  -- the last place, if it is not the first area's, where none is kept there
  last_none : 4096 ≤ length old → (bytes : List ℕ) (area : ℕ) (img : List ℕ) → IsTorn (zero_stage bytes area) places img → super_at img 0x2000 ≡ None → ((last ≡ 0x2000 → ⊥) → super_at bytes last ≡ None) → second_at img last ≡ None
  last_none enough bytes area img torn first elsewhere = second_at-none img last (elim (cases_eq last 0x2000) [
    | inl here ↦ ap (λ (p : ℕ). super_at img p) here ∙ first
    | inr other ↦ stays_none bytes area img torn last (among_old old size enough) (elsewhere other)
  ])

  -- ---- where the first area is active

  module _ (s : Superblock) (active : IsActiveFirst old s) where
    -- where the second area stands
    abbrev second : ℕ
    second = second_place_of s

    -- the first alone is still active
    first_stays : (img : List ℕ) → length img ≡ length old → HasSame img old 0x3000 second → super_at img 0x2000 ≡ Some s → second_at img second ≡ None → IsLeftByMaker old t img
    first_stays img long same first none =
        let alone_now = active-first_alone img s first (second_super-at img second (second_search-named img s first) ∙ none) in
        left_old old t First s active.active active.superblock active.place img long same alone_now.0 alone_now.1

    -- the second is zeroed
    pub left-first_other : (img : List ℕ) → IsTorn (zero_stage old second) places img → IsLeftByMaker old t img
    left-first_other img torn =
        let same = stays old second img torn 0x3000 second (inl (omega arith)) in
        let first : super_at img 0x2000 ≡ Some s = stays_super old second img torn 0x2000 (inl (omega (arith, active.place.behind))) ∙ active.first in
        elim (kept_or_none old second img torn second (among_search old size second active.search)) [
          | inr none ↦ first_stays img torn.size same first (second_at-none img second none)
          | inl kept ↦
              let seconds : second_super img ≡ second_super old =
              second_super-at img second (second_search-named img s first) ∙ ap (λ (o : Option Superblock). only_at second o) kept ∙ sym (second_super-at old second active.search) in
              let both = active-same img old (first ∙ sym active.first) seconds in
              left_old old t First s active.active active.superblock active.place img torn.size same (both.0 ∙ active.active) (both.1 ∙ active.superblock)
        ]

    -- and then the first
    pub left-first_itself : (img : List ℕ) → IsTorn (zero_stage (after_stage (zero_stage old second)) 0x2000) places img → IsLeftByMaker old t img
    left-first_itself img torn =
        let inner = after_stage (zero_stage old second) in
        let long : length img ≡ length old = torn.size ∙ length-zeroed old second in
        let same = HasSame-then img inner old 0x3000 second (stays inner 0x2000 img torn 0x3000 second (inr (omega arith))) (zeroed-apart old second 0x3000 second (inl (omega arith))) in
        let first_kept : super_at inner 0x2000 ≡ Some s = super_at-same inner old 0x2000 (length-zeroed old second) (zeroed-apart old second 0x2000 (0x2000 + 512) (inl (omega (arith, active.place.behind)))) ∙ active.first in
        let second_none : super_at img second ≡ None =
        stays_super inner 0x2000 img torn second (inr (omega (arith, active.place.behind))) ∙ super_at-zeros inner second (HasZeros-within inner second (second + 4096) second (second + 512) (omega arith) (omega arith) (zeroed-within old second)) in
        elim (kept_or_none inner 0x2000 img torn 0x2000 (0, omega arith, refl)) [
          | inl kept ↦ first_stays img long same (kept ∙ first_kept) (second_at-none img second second_none)
          | inr none ↦ left_nothing img long none (λ enough. last_none enough inner 0x2000 img torn none (λ not_first.
              elim (zeroed_at old second last active.place.parts (last_parts (length old)) active.place.aligned (last_place-aligned (length old))) [
                | inl zeros ↦ super_at-zeros inner last zeros
                | inr kept ↦ nothing_elsewhere old alone inner last kept.0 not_first (λ found. kept.1 (same_Some second last (sym active.search ∙ found)))
              ]))
        ]

  -- ---- where the second area is active

  module _ (s : Superblock) (active : IsActiveSecond old s) where
    -- where it stands
    abbrev own : ℕ
    own = second_place_of s

    -- the second alone is still active, where it is looked for without the first
    second_stays : (img : List ℕ) → length img ≡ length old → HasSame img old 0x3000 own → super_at img 0x2000 ≡ None → super_at img own ≡ Some s → last ≡ own → IsLeftByMaker old t img
    second_stays img long same first there here =
        let room = active.place.room in
        let behind = active.place.behind in
        let search : second_search img ≡ Some own = second_search-last img first (omega arith) ∙ ap (λ (n : ℕ). Some (last_place n)) long ∙ ap (λ (p : ℕ). Some p) here in
        let alone_now = active-second_alone img s first (second_super-at img own search ∙ second_at-here img own s there refl) in
        left_old old t Second s active.active active.superblock active.place img long same alone_now.0 alone_now.1

    -- the first is zeroed
    pub left-second_other : (img : List ℕ) → IsTorn (zero_stage old 0x2000) places img → IsLeftByMaker old t img
    left-second_other img torn =
        let same = stays old 0x2000 img torn 0x3000 own (inr (omega arith)) in
        let there : super_at img own ≡ super_at old own = stays_super old 0x2000 img torn own (inr (omega (arith, active.place.behind))) in
        elim (kept_or_none old 0x2000 img torn 0x2000 (0, omega arith, refl)) [
          | inl kept ↦
              let search : second_search img ≡ Some own = ap (λ (n : ℕ). searched_place n (super_at img 0x2000)) torn.size ∙ ap (λ (o : Option Superblock). searched_place (length old) o) kept ∙ active.search in
              let seconds : second_super img ≡ second_super old = second_super-at img own search ∙ ap (λ (o : Option Superblock). only_at own o) there ∙ sym (second_super-at old own active.search) in
              let both = active-same img old kept seconds in
              left_old old t Second s active.active active.superblock active.place img torn.size same (both.0 ∙ active.active) (both.1 ∙ active.superblock)
          | inr none ↦ elim (cases_eq last own) [
            | inl here ↦ second_stays img torn.size same none (there ∙ active.second) here
            | inr other ↦ left_nothing img torn.size none (λ enough. last_none enough old 0x2000 img torn none (λ not_first.
                nothing_elsewhere old alone old last (record { each = λ k low high. refl }) not_first (λ found. other (same_Some last own (sym found ∙ active.search)))))
          ]
        ]

    -- and then the second
    pub left-second_itself : (img : List ℕ) → IsTorn (zero_stage (after_stage (zero_stage old 0x2000)) own) places img → IsLeftByMaker old t img
    left-second_itself img torn =
        let inner = after_stage (zero_stage old 0x2000) in
        let long : length img ≡ length old = torn.size ∙ length-zeroed old 0x2000 in
        let behind = active.place.behind in
        let same = HasSame-then img inner old 0x3000 own (stays inner own img torn 0x3000 own (inl (omega arith))) (zeroed-apart old 0x2000 0x3000 own (inr (omega arith))) in
        let first : super_at img 0x2000 ≡ None =
        stays_super inner own img torn 0x2000 (inl (omega arith)) ∙ super_at-zeros inner 0x2000 (HasZeros-within inner 0x2000 (0x2000 + 4096) 0x2000 (0x2000 + 512) (omega arith) (omega arith) (zeroed-within old 0x2000)) in
        let second_kept : super_at inner own ≡ Some s = super_at-same inner old own (length-zeroed old 0x2000) (zeroed-apart old 0x2000 own (own + 512) (inr (omega arith))) ∙ active.second in
        elim (cases_eq last own) [
          | inl here ↦ elim (kept_or_none inner own img torn own (among_search old size own active.search)) [
            | inl kept ↦ second_stays img long same first (kept ∙ second_kept) here
            | inr none ↦ left_nothing img long first (λ enough. second_at-none img last (ap (λ (p : ℕ). super_at img p) here ∙ none))
          ]
          | inr other ↦ left_nothing img long first (λ enough. last_none enough inner own img torn first (λ not_first.
              elim (zeroed_at old 0x2000 last 16 (last_parts (length old)) refl (last_place-aligned (length old))) [
                | inl zeros ↦ super_at-zeros inner last zeros
                | inr kept ↦ nothing_elsewhere old alone inner last kept.0 not_first (λ found. other (same_Some last own (sym found ∙ active.search)))
              ]))
        ]

  -- ---- where none is active

  -- the first area is zeroed
  pub left-none : active_area old ≡ picks.None → (img : List ℕ) → IsTorn (zero_stage old 0x2000) places img → IsLeftByMaker old t img
  left-none none img torn =
      let nowhere = none_there old none in
      left_nothing img torn.size (stays_none old 0x2000 img torn 0x2000 (0, omega arith, refl) nowhere.0) (λ enough.
      elim (kept_or_none old 0x2000 img torn last (among_old old size enough)) [
        | inl kept ↦
            let missing : second_at old last ≡ None = sym (second_super-at old last (second_search-last old nowhere.0 enough)) ∙ nowhere.1 in
            ap (λ (o : Option Superblock). only_at last o) kept ∙ missing
        | inr gone ↦ second_at-none img last gone
      ])
