-- The volume that a device may have before: where its superblock stands, and what leaves its trees as they are.
use Rattle.std.proofs.Common.{◌≡◌, ℕ, ◌+◌, ◌*◌, ◌≤◌, ◌<◌, inl, inr, true, List, ◌++◌, length, replicate, Option, Some, None, IsSome, Ok, refl, ap, sym, ◌∙◌, subst, arith, ⊎_elim, eqb-true, length-append}
use Rattle.std.specs.Prelude.{slice_range, ◌==◌}
use Rattle.std.proofs.lemmas.Bool.{or_cases}
use Rattle.std.proofs.lemmas.List.{length-replicate}
use Rattle.std.proofs.lemmas.Nat.{mul-le}
use Rattle.std.proofs.Math.Nat.{mul_assoc}
use Rattle.std.proofs.lemmas.Option.{same_Some}
use Rattle.qx_geom.specs.declared.area.Which.{Which}
use Rattle.qx_geom.specs.declared.area.Which.TheVariants.{First, Second}
use Rattle.qx_geom.specs.Layout.{is_block_size}
use Rattle.qx_geom.proofs.BlockSizes.{block_size-bounds}
use Rattle.qx_model.specs.Tree.{Tree}
use Rattle.qx_super.specs.declared.choice.Pick.TheVariants as picks
use Rattle.qx_super.specs.Superblock.{Superblock, has_right_checksum, second_place_of, superblock_of}
use Rattle.qx_super.specs.Active.{active_area, active_super, second_search, second_super}
use Rattle.qx_super.proofs.ActiveAreas.{IsSome-active_super, active_super-first, active_super-second}
use Rattle.qx_super.proofs.SuperblockTests.{valid-blocks, valid-blocksize, valid-room}
use Rattle.qx_view.specs.Images.{block_bytes, image_blocks, main_roots}
use Rattle.qx_view.specs.Reading.{IsHeld, IsTree, IsTreeOf}
use Rattle.qx_view.proofs.RoomForPointers.{tree_sized}
use Rattle.qx_view.proofs.TreeLocality.{tree_local}
use Rattle.qx_make.specs.Cut.{HasNoOtherSuperblock, IsLeftByMaker, old_volume}
use Rattle.qx_make.proofs.BytesAt.{HasSame, byte_of_more, range_same}
use Rattle.qx_make.proofs.SuperblocksAt.{second_at-is, second_search-named, second_super-at, second_super-unsearched, super_at, super_at-valid, super_at-wrong}

-- ---- places

-- where a valid superblock says that the second area stands: behind a first block, at a multiple of 512
pub record IsPlace (place len : ℕ) : Type 0 where
  pub parts : ℕ
  pub aligned : place ≡ parts * 512
  pub behind : 0x3000 < place
  pub room : place + 512 ≤ len

-- blocks of a permitted size have whole parts of 512 bytes
parts_at : (count b n m : ℕ) → n ≡ m * 512 → (b == n) ≡ true → (k : ℕ) × (count * b ≡ k * 512)
parts_at count b n m e t = let same : b ≡ m * 512 = eqb-true b n t ∙ e in (count * m, ap (λ (x : ℕ). count * x) same ∙ sym (mul_assoc count m 512))

-- so have any number of blocks
blocks-parts : (count b : ℕ) → is_block_size b ≡ true → (k : ℕ) × (count * b ≡ k * 512)
blocks-parts count b t =
    ⊎_elim (λ t'. ⊎_elim (λ t''. ⊎_elim (parts_at count b 512 1 refl) (parts_at count b 1024 2 refl) (or_cases _ _ t'')) (parts_at count b 2048 4 refl) (or_cases _ _ t')) (parts_at count b 4096 8 refl) (or_cases _ _ t)

-- what a valid superblock says is such a place
pub IsPlace-valid : (img : List ℕ) (place : ℕ) (s : Superblock) → super_at img place ≡ Some s → IsPlace (second_place_of s) (length img)
IsPlace-valid img place s e =
    let bytes = slice_range img place (place + 512) in
    let valid : superblock_of bytes (length img) ≡ Ok s = (super_at-valid img place s e).1 in
    let sized : is_block_size s.blocksize ≡ true = valid-blocksize bytes (length img) s valid in
    let some : 0 < s.num_blocks = valid-blocks bytes (length img) s valid in
    let bounds = block_size-bounds s.blocksize sized in
    let (k, filled) = blocks-parts s.num_blocks s.blocksize sized in
    let least : 1 * 512 ≤ s.num_blocks * s.blocksize = mul-le 1 512 s.num_blocks s.blocksize (omega arith) (omega (arith, bounds.size_from)) in
    record { parts = 24 + k; aligned = omega arith; behind = omega arith; room = valid-room bytes (length img) s valid }

-- ---- the active one

-- what is there
there : (o : Option Superblock) → IsSome o → (s : Superblock) × (o ≡ Some s)
there None e = absurd (cc e)
there (Some s) e = (s, refl)

-- the first area is active with this superblock
pub record IsActiveFirst (img : List ℕ) (s : Superblock) : Type 0 where
  pub active : active_area img ≡ picks.Active First
  pub superblock : active_super img ≡ Some s
  pub first : super_at img 0x2000 ≡ Some s
  pub search : second_search img ≡ Some (second_place_of s)
  pub place : IsPlace (second_place_of s) (length img)

-- it has one, where it is active
pub IsActiveFirst-is : (img : List ℕ) → active_area img ≡ picks.Active First → (s : Superblock) × IsActiveFirst img s
IsActiveFirst-is img e =
    let (s, is) = there (active_super img) (IsSome-active_super img First e) in
    let first : super_at img 0x2000 ≡ Some s = sym (active_super-first img e) ∙ is in
    (s, record { active = e; superblock = is; first = first; search = second_search-named img s first; place = IsPlace-valid img 0x2000 s first })

-- the second area is active with this superblock
pub record IsActiveSecond (img : List ℕ) (s : Superblock) : Type 0 where
  pub active : active_area img ≡ picks.Active Second
  pub superblock : active_super img ≡ Some s
  pub second : super_at img (second_place_of s) ≡ Some s
  pub search : second_search img ≡ Some (second_place_of s)
  pub place : IsPlace (second_place_of s) (length img)

-- it has one, where it is active
pub IsActiveSecond-is : (img : List ℕ) → active_area img ≡ picks.Active Second → (s : Superblock) × IsActiveSecond img s
IsActiveSecond-is img e =
    let (s, is) = there (active_super img) (IsSome-active_super img Second e) in
    (s, by_search s is (sym (active_super-second img e) ∙ is) (second_search img) refl)
  where
    by_search : (s : Superblock) → active_super img ≡ Some s → second_super img ≡ Some s → (search : Option ℕ) → second_search img ≡ search → IsActiveSecond img s
    by_search s is second None none = absurd (let missing = second_super-unsearched img none in cc)
    by_search s is second (Some place) found =
        let both = second_at-is img place s (sym (second_super-at img place found) ∙ second) in
        let here : super_at img (second_place_of s) ≡ Some s = ap (λ (p : ℕ). super_at img p) both.1 ∙ both.0 in
        record { active = e; superblock = is; second = here; search = found ∙ ap (λ (p : ℕ). Some p) (sym both.1); place = IsPlace-valid img (second_place_of s) s here }

-- ---- trees

-- where all blocks stay, an image keeps its trees
tree_kept : (img other : List ℕ) (s : Superblock) (t : Tree) → active_super other ≡ active_super img → active_super img ≡ Some s → second_place_of s ≤ length img → second_place_of s ≤ length other
    → HasSame img other 0x3000 (second_place_of s) → IsTree img t → IsTree other t
tree_kept img other s t supers is room also same (z, z_is, tree) =
    (s, supers ∙ is, tree_local (image_blocks img s) (block_bytes other s.blocksize) (main_roots s) t (tree_sized (image_blocks img s) (main_roots s) t tree_of) tree_of same_block)
  where
    tree_of : IsTreeOf (image_blocks img s) (main_roots s) t
    tree_of = subst (λ (x : Superblock). IsTreeOf (image_blocks img x) (main_roots x) t) (same_Some z s (sym z_is ∙ is)) tree

    same_block : (b : ℕ) → IsHeld (image_blocks img s) (main_roots s) t b → block_bytes img s.blocksize b ≡ block_bytes other s.blocksize b
    same_block b (o, v, stands, at) =
        let below : v.block < s.num_blocks = tree_of.undamaged o v stands in
        let up : (b + 1) * s.blocksize ≤ s.num_blocks * s.blocksize = mul-le (b + 1) s.blocksize s.num_blocks s.blocksize (omega arith) (omega arith) in
        let from = 0x3000 + b * s.blocksize in
        range_same img other from (from + s.blocksize) (omega arith) (omega arith) (record { each = λ k low high. same.each k (omega arith) (omega arith) })

module _ (old : List ℕ) where
  -- with the old superblock, and all old blocks, an image has the old volume
  pub left_old : (t : Tree) (which : Which) (s : Superblock) → active_area old ≡ picks.Active which → active_super old ≡ Some s → IsPlace (second_place_of s) (length old)
      → (img : List ℕ) → length img ≡ length old → HasSame img old 0x3000 (second_place_of s) → active_area img ≡ picks.Active which → active_super img ≡ Some s → IsLeftByMaker old t img
  left_old t which s active is place img long same active_img is_img =
      let room = place.room in
      let back : HasSame old img 0x3000 (second_place_of s) = record { each = λ k low high. sym (same.each k low high) } in
      old_volume which active active_img (is_img ∙ sym is) (λ u. (
        tree_kept img old s u (is ∙ sym is_img) is_img (omega arith) (omega arith) same,
        tree_kept old img s u (is_img ∙ sym is) is (omega arith) (omega arith) back,
      ))

  -- ---- elsewhere

  -- old bytes are a superblock at no other place than those that were looked at
  pub nothing_elsewhere : HasNoOtherSuperblock old → (img : List ℕ) (place : ℕ) → HasSame img old place (place + 512) → (place ≡ 0x2000 → ⊥) → (second_search old ≡ Some place → ⊥) → super_at img place ≡ None
  nothing_elsewhere alone img place same not_first not_second = super_at-wrong img place (λ room right.
      let more = old ++ replicate (place + 512) 0 in
      let long : place + 512 ≤ length more = omega (arith, length-append old (replicate (place + 512) 0), length-replicate {A = ℕ} (place + 512) 0) in
      let bytes : slice_range img place (place + 512) ≡ slice_range more place (place + 512)
      = range_same img more place (place + 512) room long (record { each = λ k low high. same.each k low high ∙ sym (byte_of_more old (place + 512) k) }) in
      elim (alone.others place (place + 512) (omega arith) (ap has_right_checksum (sym bytes) ∙ right)) [
        | inl first ↦ not_first first
        | inr second ↦ not_second second
      ])
