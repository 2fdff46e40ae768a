-- The reached inodes of a sound image are a copy that this project may go on with.
use Rattle.std.proofs.Common.{◌≡◌, ℕ, zero, suc, ◌+◌, ◌*◌, ◌%◌, List, [], ◌∷◌, length, refl, sym, ◌∙◌, ap, subst, arith, ⊎_elim, eqb-true}
use Rattle.std.specs.Prelude.{Bool, true, false, Option, Some, None, Result, Ok, Err, option_and_then, slice_get, drop, ◌==◌, if◌then◌else◌}
use Rattle.std.specs.Result.{result_ok}
use Rattle.std.proofs.lemmas.Bool.{or_cases}
use Rattle.std.proofs.lemmas.List.FromFn.{length-map-range_with_len}
use Rattle.std.proofs.lemmas.Option.{same_Some}
use Rattle.qx_fields.specs.declared.order.Order.{Order}
use Rattle.qx_fields.specs.Number.{field, fields}
use Rattle.qx_geom.specs.declared.area.Which.TheVariants.{First, Second}
use Rattle.qx_geom.specs.declared.geometry.Geometry.{Geometry}
use Rattle.qx_geom.specs.Layout.{is_block_size}
use Rattle.qx_geom.specs.Lists.{first_below}
use Rattle.qx_geom.proofs.BlockSizes.{block_size-bounds}
use Rattle.qx_geom.proofs.VolumeNumbers.{IsGeometry-keeps}
use Rattle.qx_model.specs.Tree.{Tree}
use Rattle.qx_nodes.specs.BlockMap.{BlockMap}
use Rattle.qx_super.specs.Active.{active_super, first_super, only_at, pick_of, second_super, super_of_pick, valid_area, second_search, area_at, first_area}
use Rattle.qx_super.specs.Checksum.{checksum_of}
use Rattle.qx_super.specs.RootNode.{root_of}
use Rattle.qx_super.specs.Superblock.{Superblock, fields_in, fits_device, order_of, second_place_of, superblock_of, valid_in}
use Rattle.qx_super.specs.declared.choice.Pick.{Pick}
use Rattle.qx_super.specs.declared.choice.Pick.TheVariants as picks
use Rattle.qx_super.specs.declared.superblock.SuperFault.{SuperFault}
use Rattle.qx_super.specs.declared.superblock.SuperFault.TheVariants.{Checksum as BadChecksum, Geometry as BadGeometry}
use Rattle.qx_view.proofs.ActiveHalf.{SoundParts, reason_none, sound_parts}
use Rattle.qx_view.proofs.ReasonsAlike.{none_below}
use Rattle.qx_view.specs.declared.reasons.Foreign.{Foreign as Why}
use Rattle.qx_view.specs.declared.reasons.Reason.TheVariants as reasons
use Rattle.qx_view.specs.Images.{Roots, image_blocks, inode_places, main_roots}
use Rattle.qx_view.specs.Sound.{IsSound, are_counts_right, fails_dots, fails_inodes, fails_nodes, fails_tail, first_some, last_finding, last_with, outer_blocks, reason_of, reason_with, reasons_in, tail_finding, written_geometry}
use Rattle.qx_view.specs.Walk.{walked_inodes}
use Rattle.qx_copies.specs.Copies.{BlockCopy}
use Rattle.qx_copies.specs.ImageCopies.{HasReached}
use Rattle.qx_copies.specs.Standing.{IsOwnCopy, Represents}
use Rattle.qx_copies.proofs.OwnImages.{copy_own}
use Rattle.qx_copies.proofs.ReachedInodes.{copy_represents}

-- ---- 16 pointers

-- a root node that is read has 16 pointers
root_sixteen : (order : Order) (bytes : List ℕ) → length (root_of order bytes).pointers ≡ 16
unfolding fields root_of
root_sixteen order bytes = length-map-range_with_len (λ k. field order 4 bytes (8 + 4 * k)) 0 16

-- so has that of a valid superblock
valid_sixteen : (o : Option Order) (bytes : List ℕ) (len : ℕ) (s : Superblock) → valid_in o bytes len ≡ Ok s → length s.longfile.pointers ≡ 16
valid_sixteen None bytes len s e = absurd (cc)
valid_sixteen (Some order) bytes len s e = by_sum (field order 4 bytes 4 == checksum_of (drop 8 bytes)) e
  where
    by_fit : (b : Bool) → (if b then Ok (fields_in order bytes) else Err BadGeometry) ≡ Ok s → length s.longfile.pointers ≡ 16
    by_fit true e = let same : fields_in order bytes ≡ s = cc in subst (λ (x : Superblock). length x.longfile.pointers ≡ 16) same (root_sixteen order _)
    by_fit false e = absurd (cc)

    by_sum : (b : Bool) → (if b then (if fits_device (fields_in order bytes) len then Ok (fields_in order bytes) else Err BadGeometry) else Err BadChecksum) ≡ Ok s → length s.longfile.pointers ≡ 16
    by_sum true e = by_fit (fits_device (fields_in order bytes) len) e
    by_sum false e = absurd (cc)

-- and of an area
area_sixteen : (len : ℕ) (area : Option (List ℕ)) (s : Superblock) → valid_area len area ≡ Some s → length s.longfile.pointers ≡ 16
area_sixteen len None s e = absurd (cc)
area_sixteen len (Some bytes) s e = valid_sixteen (order_of bytes) bytes len s (is_ok (superblock_of bytes len) e)
  where
    is_ok : (x : Result Superblock SuperFault) → result_ok x ≡ Some s → x ≡ Ok s
    is_ok (Err f) e = absurd (cc)
    is_ok (Ok y) e = let same : y ≡ s = cc in ap (λ z. Ok z) same

-- the second area's where it counts
second_sixteen : (len : ℕ) (img : List ℕ) (o : Option ℕ) (s : Superblock) → option_and_then (λ place. only_at place (valid_area len (area_at img place))) o ≡ Some s → length s.longfile.pointers ≡ 16
second_sixteen len img None s e = absurd (cc)
second_sixteen len img (Some place) s e = by_super (valid_area len (area_at img place)) refl e
  where
    by_place : (x : Superblock) (b : Bool) → (if b then Some x else None) ≡ Some s → x ≡ s
    by_place x true e = cc
    by_place x false e = absurd (cc)

    by_super : (x : Option Superblock) → valid_area len (area_at img place) ≡ x → only_at place x ≡ Some s → length s.longfile.pointers ≡ 16
    by_super None at e = absurd (cc)
    by_super (Some x) at e = area_sixteen len (area_at img place) s (at ∙ ap (λ z. Some z) (by_place x (second_place_of x == place) e))

-- and the active one's
pub active_sixteen : (img : List ℕ) (s : Superblock) → active_super img ≡ Some s → length s.longfile.pointers ≡ 16
unfolding active_super
active_sixteen img s e = by_pick (pick_of (first_super img) (second_super img)) e
  where
    by_pick : (p : Pick) → super_of_pick p (first_super img) (second_super img) ≡ Some s → length s.longfile.pointers ≡ 16
    by_pick (picks.Active First) e = area_sixteen (length img) (first_area img) s e
    by_pick (picks.Active Second) e = second_sixteen (length img) img (second_search img) s e
    by_pick picks.None e = absurd (cc)
    by_pick picks.Disagree e = absurd (cc)

-- ---- what doesn't apply

-- none of some is there
each_absent : {A : Type 0} (os : List (Option A)) (k : ℕ) (o : Option A) → first_some os ≡ None → slice_get os k ≡ Some o → o ≡ None
each_absent [] zero o e at = absurd (cc)
each_absent [] (suc k) o e at = absurd (cc)
each_absent (None ∷ os) zero o e at = let same : Some None ≡ Some o = at in cc
each_absent (Some x ∷ os) k o e at = absurd (cc)
each_absent (None ∷ os) (suc k) o e at = each_absent os k o e at

-- nor is a tail
no_tail : (o : Option ℕ) (right : Bool) → tail_finding o right ≡ None → o ≡ None
no_tail None right e = refl
no_tail (Some n) right e = absurd (cc)

-- whole blocks are whole records
whole_at : (b n : ℕ) → n % 32 ≡ 0 → (b == n) ≡ true → b % 32 ≡ 0
whole_at b n whole t = ap (λ z. z % 32) (eqb-true b n t) ∙ whole

records_fit : (b : ℕ) → is_block_size b ≡ true → b % 32 ≡ 0
records_fit b t =
    ⊎_elim (λ t'. ⊎_elim (λ t''. ⊎_elim (whole_at b 512 refl) (whole_at b 1024 refl) (or_cases _ _ t'')) (whole_at b 2048 refl) (or_cases _ _ t')) (whole_at b 4096 refl) (or_cases _ _ t)

-- ---- sound images

-- a sound image has a geometry
geometry_there : (img : List ℕ) (t : Tree) (s : Superblock) → IsSound img t → active_super img ≡ Some s → (g : Geometry) × (written_geometry s (length img) ≡ Some g)
geometry_there img t s sound names = by_geometry (written_geometry s (length img)) refl
  where
    none : reason_of (image_blocks img s) s sound.area (length img) ≡ None
    none = subst (λ x. reason_of (image_blocks img x) x sound.area (length img) ≡ None) (same_Some sound.superblock s (sym sound.names ∙ names)) sound.no_reason

    by_geometry : (o : Option Geometry) → written_geometry s (length img) ≡ o → (g : Geometry) × (written_geometry s (length img) ≡ Some g)
    by_geometry None e = let clash : reason_with (image_blocks img s) s sound.area None ≡ None = sym (ap (λ o. reason_with (image_blocks img s) s sound.area o) e) ∙ none in absurd (cc)
    by_geometry (Some g) e = (g, e)

module _ (img : List ℕ) (t : Tree) (s : Superblock) (c : BlockCopy) (sound : IsSound img t) (names : active_super img ≡ Some s) (has : HasReached (image_blocks img s) (main_roots s) c) where
  abbrev m : BlockMap
  m = image_blocks img s

  abbrev r : Roots
  r = main_roots s

  abbrev g : Geometry
  g = (geometry_there img t s sound names).0

  written : written_geometry s (length img) ≡ Some g
  written = (geometry_there img t s sound names).1

  parts : SoundParts img t sound.area s g
  parts = sound_parts img t sound.area s g sound sound.active names written

  sixteen : length r.longfile.pointers ≡ 16
  sixteen = active_sixteen img s names

  -- the copy stands for the image's tree
  pub sound_represents : Represents m c t
  sound_represents = copy_represents m r c t parts.tree has sixteen

  -- the reasons of the image
  abbrev why : List (Option Why)
  why = reasons_in m s g sound.area r (outer_blocks m r) (walked_inodes m r)

  last : first_below (fails_tail m r (walked_inodes m r)) (inode_places r + 1) ≡ None
  last =
      let none : last_finding m s (length img) ≡ None = subst (λ x. last_finding (image_blocks img x) x (length img) ≡ None) (same_Some sound.superblock s (sym sound.names ∙ names)) sound.no_last in
      no_tail _ (are_counts_right m s g r (walked_inodes m r)) (sym (ap (λ o. last_with m s o) written) ∙ none)

  sized : is_block_size m.size ≡ true
  sized = ap is_block_size parts.geometry.size ∙ (IsGeometry-keeps g parts.geometry.volume).block_size

  -- and is laid out as this project does
  pub sound_own : IsOwnCopy m c t
  sound_own = copy_own m r c t parts.size parts.tree has (let b = block_size-bounds m.size sized in omega (arith, b.size_from)) (records_fit m.size sized)
      (λ n low. none_below (fails_nodes m r (walked_inodes m r)) (inode_places r + 1) n (reason_none reasons.Nodes _ (each_absent why 2 _ parts.none refl)) low)
      (λ n low. none_below (fails_dots m r (walked_inodes m r)) (inode_places r + 1) n (reason_none reasons.Dots _ (each_absent why 3 _ parts.none refl)) low)
      (λ n low. none_below (fails_inodes m r (walked_inodes m r)) (inode_places r + 1) n (reason_none reasons.Inodes _ (each_absent why 4 _ parts.none refl)) low)
      (λ n low. none_below (fails_tail m r (walked_inodes m r)) (inode_places r + 1) n last low)
      (reason_none reasons.LongNames _ (each_absent why 5 _ parts.none refl))
