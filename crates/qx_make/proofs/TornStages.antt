-- Whatever stage a cut comes in, an image gives no volume, the old one or the new one; and the new one is there at the end.
use Rattle.std.proofs.Common.{◌≡◌, ℕ, zero, suc, ◌+◌, ◌^◌, ◌<◌, inl, inr, List, [], ◌∷◌, length, replicate, Option, Some, None, Ok, refl, ap, sym, ◌∙◌, subst, arith}
use Rattle.std.specs.Prelude.{Contains}
use Rattle.std.proofs.lemmas.List.{length-replicate}
use Rattle.std.proofs.lemmas.List.Elements.{Contains-append_cases}
use Rattle.qx_outside.specs.Trail.{History, resized}
use Rattle.qx_fields.specs.declared.order.Order.{Order}
use Rattle.qx_geom.specs.declared.area.Which.{Which}
use Rattle.qx_geom.specs.declared.area.Which.TheVariants.{First, Second}
use Rattle.qx_geom.specs.declared.geometry.Geometry.{Geometry}
use Rattle.qx_geom.specs.Layout.{area_place, geometry_of}
use Rattle.qx_model.specs.Tree.{Tree}
use Rattle.qx_super.proofs.ActiveAreas.{active_area-chosen, active_super-chosen, chosen_active, chosen_none}
use Rattle.qx_super.specs.declared.choice.Pick.{Pick}
use Rattle.qx_super.specs.declared.choice.Pick.TheVariants as picks
use Rattle.qx_super.specs.Superblock.{Superblock, second_place_of}
use Rattle.qx_super.specs.Written.{superblock_written}
use Rattle.qx_super.specs.Active.{active_area, active_super, only_at, choice_in}
use Rattle.qx_view.specs.Images.{image_blocks}
use Rattle.qx_view.specs.Sound.{IsSound}
use Rattle.qx_make.specs.Blocks.{AreMade}
use Rattle.qx_make.specs.Cut.{HasNoOtherSuperblock, IsLeftByMaker, IsTorn, LeavesByMaker, new_volume, nothing, places_of}
use Rattle.qx_make.specs.Stages.{IsInStage, Stage, after_stage, areas_stage, make_stages, new_stages, old_places, places_by, rest_stage, with_areas, with_blocks, with_supers, zero_stage, zero_stages, zeroed}
use Rattle.qx_make.specs.Superblocks.{made_super}
use Rattle.qx_make.proofs.BytesAt.{HasSame, HasZeros-same, HasZeros-within, byte_of_resized, byte_of_zeros, length-resized}
use Rattle.qx_make.proofs.ClearedAreas.{IsCleared, IsCleared-first, IsCleared-none, IsCleared-second, nothing_last}
use Rattle.qx_make.proofs.NewVolume.{AreMade-done, active-done, active_area-blocks, left-supers, length-done}
use Rattle.qx_make.proofs.SearchedPlaces.{among_new, last_place}
use Rattle.qx_make.proofs.NewSuperblocks.{last_place-second, neither_active, second-behind, second-room}
use Rattle.qx_make.proofs.OldAreas.{left-first_itself, left-first_other, left-none, left-second_itself, left-second_other}
use Rattle.qx_make.proofs.OldVolume.{IsActiveFirst-is, IsActiveSecond-is}
use Rattle.qx_make.proofs.SuperblocksAt.{none_active, second_at, second_at-none, super_at, super_at-zeros}
use Rattle.qx_make.proofs.TornImages.{IsTorn-image}
use Rattle.qx_make.proofs.TornAreas.{AreZeros-both, one_of_two, only_one, torn_rest, torn_zeros}

-- ---- the new volume, from any bytes

-- these bytes are a new volume, with the second area active
pub record IsMadeVolume (g : Geometry) (order : Order) (moment size : ℕ) (bytes : List ℕ) : Type 0 where
  pub size_is : length bytes ≡ size
  pub active : active_area bytes ≡ picks.Active Second
  pub superblock : active_super bytes ≡ Some (superblock_written (made_super g order moment Second))
  pub blocks : AreMade g order moment (image_blocks bytes (superblock_written (made_super g order moment Second)))

module _ (g : Geometry) (order : Order) (moment size : ℕ) (is_geometry : geometry_of size g.blocksize g.num_inodes ≡ Ok g) (in_time : moment < 2 ^ 32) where
  -- whatever stood there before
  pub made_active : (bytes : List ℕ) → length bytes ≡ size → IsMadeVolume g order moment size (with_supers g order moment (with_blocks g order moment (with_areas g bytes)))
  made_active bytes long =
      let zeros : List ℕ = replicate 4096 0 in
      let wide : length zeros ≡ 4096 = length-replicate {A = ℕ} 4096 0 in
      record {
        size_is = length-done g order moment size is_geometry in_time zeros wide (byte_of_zeros 4096) bytes long;
        active = (active-done g order moment size is_geometry in_time zeros wide (byte_of_zeros 4096) bytes long).0;
        superblock = (active-done g order moment size is_geometry in_time zeros wide (byte_of_zeros 4096) bytes long).1;
        blocks = AreMade-done g order moment size is_geometry in_time zeros wide (byte_of_zeros 4096) bytes long;
      }

-- ---- the stages over the old areas

module _ (old : List ℕ) (size : ℕ) (t : Tree) (agree : active_area old ≡ picks.Disagree → ⊥) (alone : HasNoOtherSuperblock old) where
  -- the areas at these places are zeroed one after another: what is left at the end, and by a cut on the way
  record AreZeroed (places : List ℕ) : Type 0 where
    cleared : IsCleared old (zeroed old places)
    left : (stage : Stage) → Contains (zero_stages old places) stage → (img : List ℕ) → IsTorn stage (places_of old size) img → IsLeftByMaker old t img

  -- where the first area was active
  zeroed-first : active_area old ≡ picks.Active First → AreZeroed (old_places old)
  zeroed-first e =
      let (s, active) = IsActiveFirst-is old e in
      let second = second_place_of s in
      let places : old_places old ≡ second ∷ 0x2000 ∷ [] = ap places_by (chosen_active (choice_in old) First s (sym (active_area-chosen old) ∙ e) (sym (active_super-chosen old) ∙ active.superblock)) in
      let inner = after_stage (zero_stage old second) in
      subst (λ (ps : List ℕ). AreZeroed ps) (sym places) (record {
        cleared = IsCleared-first old s active;
        left = λ stage among img torn. elim (one_of_two (zero_stage old second) (zero_stage inner 0x2000) stage among) [
          | inl is ↦ left-first_other old size t alone s active img (subst (λ (x : Stage). IsTorn x (places_of old size) img) (sym is) torn)
          | inr is ↦ left-first_itself old size t alone s active img (subst (λ (x : Stage). IsTorn x (places_of old size) img) (sym is) torn)
        ];
      })

  -- where the second was
  zeroed-second : active_area old ≡ picks.Active Second → AreZeroed (old_places old)
  zeroed-second e =
      let (s, active) = IsActiveSecond-is old e in
      let second = second_place_of s in
      let places : old_places old ≡ 0x2000 ∷ second ∷ [] = ap places_by (chosen_active (choice_in old) Second s (sym (active_area-chosen old) ∙ e) (sym (active_super-chosen old) ∙ active.superblock)) in
      let inner = after_stage (zero_stage old 0x2000) in
      subst (λ (ps : List ℕ). AreZeroed ps) (sym places) (record {
        cleared = IsCleared-second old s active;
        left = λ stage among img torn. elim (one_of_two (zero_stage old 0x2000) (zero_stage inner second) stage among) [
          | inl is ↦ left-second_other old size t alone s active img (subst (λ (x : Stage). IsTorn x (places_of old size) img) (sym is) torn)
          | inr is ↦ left-second_itself old size t alone s active img (subst (λ (x : Stage). IsTorn x (places_of old size) img) (sym is) torn)
        ];
      })

  -- where none was
  zeroed-none : active_area old ≡ picks.None → AreZeroed (old_places old)
  zeroed-none e =
      let places : old_places old ≡ 0x2000 ∷ [] = ap places_by (chosen_none (choice_in old) (sym (active_area-chosen old) ∙ e)) in
      subst (λ (ps : List ℕ). AreZeroed ps) (sym places) (record {
        cleared = IsCleared-none old e;
        left = λ stage among img torn. left-none old size t alone e img (subst (λ (x : Stage). IsTorn x (places_of old size) img) (sym (only_one (zero_stage old 0x2000) stage among)) torn);
      })

  -- in each case
  old_zeroed : AreZeroed (old_places old)
  old_zeroed = by_pick (active_area old) refl
    where
      by_pick : (p : Pick) → active_area old ≡ p → AreZeroed (old_places old)
      by_pick (picks.Active First) e = zeroed-first e
      by_pick (picks.Active Second) e = zeroed-second e
      by_pick picks.None e = zeroed-none e
      by_pick picks.Disagree e = absurd (agree e)

  -- ---- the stages after them

  module _ (g : Geometry) (order : Order) (moment : ℕ) (is_geometry : geometry_of size g.blocksize g.num_inodes ≡ Ok g) (in_time : moment < 2 ^ 32)
      (new_sound : (img : List ℕ) (which : Which) → length img ≡ size → active_area img ≡ picks.Active which → active_super img ≡ Some (superblock_written (made_super g order moment which))
      → AreMade g order moment (image_blocks img (superblock_written (made_super g order moment which))) → IsSound img t) where
    module _ (bytes : List ℕ) (cleared : IsCleared old bytes) where
      -- before the length is set
      left-rest : (img : List ℕ) → IsTorn (rest_stage bytes) (places_of old size) img → IsLeftByMaker old t img
      left-rest img torn =
          let same : img ≡ bytes = torn_rest bytes (places_of old size) img torn in
          let zeros = HasZeros-within bytes 0x2000 0x3000 0x2000 (0x2000 + 512) (omega arith) (omega arith) cleared.first in
          let place = last_place (length bytes) in
          subst (λ (x : List ℕ). IsLeftByMaker old t x) (sym same)
          (nothing (none_active bytes (super_at-zeros bytes 0x2000 zeros) (λ enough. nothing_last old alone bytes cleared bytes (length bytes) place refl (record { each = λ k low high. refl }))))

      -- while both new areas are zeroed
      left-clear : (zeros : List ℕ) (n : ℕ) → zeros ≡ replicate n 0 → (img : List ℕ) → IsTorn (areas_stage g zeros zeros (resized bytes size)) (places_of old size) img → IsLeftByMaker old t img
      left-clear zeros n are img torn =
          let now = resized bytes size in
          let stage = areas_stage g zeros zeros now in
          let places = places_of old size in
          let blank = AreZeros-both 0x2000 (area_place g Second) n zeros are in
          let second = area_place g Second in
          let room = second-room g order moment size is_geometry in_time in
          let behind = second-behind g order moment size is_geometry in_time in
          let same : HasSame now bytes 0x2000 (0x2000 + 512) = record { each = λ k low high. byte_of_resized bytes size k (omega arith) } in
          let same_second : HasSame now bytes second (second + 512) = record { each = λ k low high. byte_of_resized bytes size k (omega arith) } in
          let first_none : super_at now 0x2000 ≡ None =
          super_at-zeros now 0x2000 (HasZeros-same now bytes 0x2000 (0x2000 + 512) same (HasZeros-within bytes 0x2000 0x3000 0x2000 (0x2000 + 512) (omega arith) (omega arith) cleared.first)) in
          let second_none : second_at now second ≡ None = nothing_last old alone bytes cleared now size second (sym (last_place-second g order moment size is_geometry in_time)) same_second in
          nothing (neither_active g order moment size is_geometry in_time img (torn.size ∙ length-resized bytes size)
          (elim (torn_zeros stage places img torn 0x2000 blank (0, omega arith, refl)) [
            | inl kept ↦ kept ∙ first_none
            | inr gone ↦ gone
          ])
          (elim (torn_zeros stage places img torn second blank (subst (λ (p : ℕ). Contains places p) (last_place-second g order moment size is_geometry in_time) (among_new old size (omega (arith, room))))) [
            | inl kept ↦ ap (λ (o : Option Superblock). only_at second o) kept ∙ second_none
            | inr gone ↦ second_at-none img second gone
          ]))

      -- in each of them
      left-new : (stage : Stage) → Contains (rest_stage bytes ∷ new_stages g order moment (resized bytes size)) stage → (img : List ℕ) → IsTorn stage (places_of old size) img → IsLeftByMaker old t img
      left-new stage (zero, within, is) img torn = left-rest img (subst (λ (x : Stage). IsTorn x (places_of old size) img) (sym is) torn)
      left-new stage (suc zero, within, is) img torn = left-clear (replicate 4096 0) 4096 refl img (subst (λ (x : Stage). IsTorn x (places_of old size) img) (sym is) torn)
      left-new stage (suc (suc zero), within, is) img torn =
          nothing (active_area-blocks g order moment size is_geometry in_time (replicate 4096 0) (length-replicate {A = ℕ} 4096 0) (byte_of_zeros 4096) (resized bytes size) (length-resized bytes size) (places_of old size) img
          (subst (λ (x : Stage). IsTorn x (places_of old size) img) (sym is) torn))
      left-new stage (suc (suc (suc zero)), within, is) img torn =
          left-supers g order moment size is_geometry in_time (replicate 4096 0) (length-replicate {A = ℕ} 4096 0) (byte_of_zeros 4096) (resized bytes size) (length-resized bytes size) old t new_sound img
          (subst (λ (x : Stage). IsTorn x (places_of old size) img) (sym is) torn)
      left-new stage (suc (suc (suc (suc zero))), within, is) img torn =
          let final = with_supers g order moment (with_blocks g order moment (with_areas g (resized bytes size))) in
          let made = made_active g order moment size is_geometry in_time (resized bytes size) (length-resized bytes size) in
          let same : img ≡ final = torn_rest final (places_of old size) img (subst (λ (x : Stage). IsTorn x (places_of old size) img) (sym is) torn) in
          let s = superblock_written (made_super g order moment Second) in
          subst (λ (x : List ℕ). IsLeftByMaker old t x) (sym same) (new_volume (new_sound final Second made.size_is made.active made.superblock made.blocks))
      left-new stage (suc (suc (suc (suc (suc k)))), within, is) img torn = absurd (omega arith)

    -- what a cut leaves of any stage gives no volume, the old one or the new one
    pub torn_is_left : (stage : Stage) → Contains (make_stages g order moment size old) stage → (img : List ℕ) → IsTorn stage (places_of old size) img → IsLeftByMaker old t img
    torn_is_left stage among img torn =
        let places = old_places old in
        elim (Contains-append_cases (zero_stages old places) (rest_stage (zeroed old places) ∷ new_stages g order moment (resized (zeroed old places) size)) stage among) [
          | inl earlier ↦ old_zeroed.left stage earlier img torn
          | inr later ↦ left-new (zeroed old places) old_zeroed.cleared stage later img torn
        ]

    -- so does each image while a stage is on its way
    pub leaves_in_stage : (h : History) → IsInStage (make_stages g order moment size old) h → LeavesByMaker old size t h
    leaves_in_stage h inside img is no_chance =
        torn_is_left inside.stage inside.among img (IsTorn-image inside.stage (places_of old size) h img inside.putting is no_chance)
