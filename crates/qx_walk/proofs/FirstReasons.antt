-- The first reason, by what the walk knows.
use Rattle.std.proofs.Common.{◌≡◌, ℕ, ◌+◌, ◌*◌, Bool, List, [], ◌∷◌, true, false, refl, ap, sym, ◌∙◌}
use Rattle.std.specs.Prelude.{◌&&◌, not, Option, None, Some, if◌then◌else◌, nat_le}
use Rattle.std.specs.List.{list_all}
use Rattle.qx_blockset.specs.Members.{limit_of}
use Rattle.qx_geom.proofs.Truths.{and_left}
use Rattle.qx_geom.specs.Area.{other_area}
use Rattle.qx_geom.specs.Lists.{first_below}
use Rattle.qx_geom.specs.declared.area.Which.{Which}
use Rattle.qx_geom.specs.declared.geometry.Geometry.{Geometry}
use Rattle.qx_nodes.specs.BlockMap.{BlockMap}
use Rattle.qx_super.specs.Superblock.{Superblock}
use Rattle.qx_view.specs.declared.reasons.Reason.TheVariants as reasons
use Rattle.qx_view.specs.declared.reasons.Foreign.{Foreign as Why}
use Rattle.qx_view.proofs.ActiveHalf.{IsGeometryOf, written_is}
use Rattle.qx_view.specs.Images.{inode_places, main_roots}
use Rattle.qx_view.specs.Sound.{bad_long_name, bit_differs, fails_dots, fails_inodes, fails_nodes, first_some, is_laid_out, outer_blocks, reason_at, reason_with, written_geometry}
use Rattle.qx_view.specs.Walk.{walked_inodes}
use Rattle.qx_walk.specs.declared.state.Walked.{Walked}
use Rattle.qx_walk.specs.Bitmaps.{is_wrong_bit}
use Rattle.qx_walk.specs.Layouts.{has_block_of_half, is_laid_out_by, later_reason}
use Rattle.qx_walk.specs.Trees.{IsWalked}
use Rattle.qx_walk.proofs.LastFindings.{has_size}
use Rattle.qx_walk.proofs.OtherHalf.{first_wrong, other_half}

module _ (m : BlockMap) (s : Superblock) (len : ℕ) (g : Geometry) (which : Which) (w : Walked) (size : m.size ≡ s.blocksize) (count : m.count ≡ s.num_blocks) (limit : limit_of w.met ≡ m.count)
    (written : written_geometry s len ≡ Some g) (is : IsWalked m (main_roots s) w) where
  of : IsGeometryOf s g
  of = written_is s len g written

  -- the halves are as they must be, as far as outer blocks go too
  abbrev is_right : Bool
  is_right = is_laid_out m s g which && list_all (λ b. nat_le (2 * g.half) b) (outer_blocks m (main_roots s))

  -- by the blocks that were met
  laid_same : is_laid_out_by m s g which w.met ≡ is_right
  laid_same = go (is_laid_out m s g which) refl
    where
      go : (b : Bool) → is_laid_out m s g which ≡ b → is_laid_out_by m s g which w.met ≡ is_right
      go true e = ap (λ x. is_laid_out m s g which && x) (other_half m s (has_size m s g of (size ∙ of.size)) is.none g which of size count e w.met is.met limit)
      go false e = ap (λ x. x && not (has_block_of_half g (other_area which) w.met)) e ∙ sym (ap (λ x. x && list_all (λ b. nat_le (2 * g.half) b) (outer_blocks m (main_roots s))) e)

  -- the first bit of the bitmap that differs, by the definition
  abbrev differing : Option ℕ
  differing = first_below (bit_differs m s.bitmap g (outer_blocks m (main_roots s))) (g.bitmap_leaves * m.size * 8)

  -- the reasons behind the third
  abbrev behind : List (Option Why)
  behind =
      reason_at reasons.Nodes (first_below (fails_nodes m (main_roots s) (walked_inodes m (main_roots s))) (inode_places (main_roots s) + 1))
      ∷ reason_at reasons.Dots (first_below (fails_dots m (main_roots s) (walked_inodes m (main_roots s))) (inode_places (main_roots s) + 1))
      ∷ reason_at reasons.Inodes (first_below (fails_inodes m (main_roots s) (walked_inodes m (main_roots s))) (inode_places (main_roots s) + 1))
      ∷ reason_at reasons.LongNames (bad_long_name m (main_roots s) (walked_inodes m (main_roots s)))
      ∷ []

  -- the second reason, or one behind it
  second : (right : Bool) → is_right ≡ right → reason_with m s which (Some g) ≡ (if right then first_some (reason_at reasons.Bitmap differing ∷ behind) else Some (record { reason = reasons.Halves; at = 0 }))
  second right e = ap (λ b. first_some (reason_at reasons.Halves (if b then None else Some 0) ∷ reason_at reasons.Bitmap differing ∷ behind)) e ∙ go right
    where
      go : (b : Bool) → first_some (reason_at reasons.Halves (if b then None else Some 0) ∷ reason_at reasons.Bitmap differing ∷ behind) ≡ (if b then first_some (reason_at reasons.Bitmap differing ∷ behind) else Some (record { reason = reasons.Halves; at = 0 }))
      go true = refl
      go false = refl

  -- the halves aren't as they must be
  pub not_laid_out : is_laid_out_by m s g which w.met ≡ false → Some (record { reason = reasons.Halves; at = 0 }) ≡ reason_with m s which (Some g)
  not_laid_out wrong = sym (second false (sym laid_same ∙ wrong))

  -- where they are, the bitmap comes next
  third : is_laid_out_by m s g which w.met ≡ true → (o : Option ℕ) → o ≡ first_below (is_wrong_bit m g which w.met) (g.bitmap_leaves * m.size * 8) → reason_with m s which (Some g) ≡ first_some (reason_at reasons.Bitmap o ∷ behind)
  third right o found =
      let same : differing ≡ o = first_wrong m s (has_size m s g of (size ∙ of.size)) is.none g which of size count (and_left (is_laid_out m s g which) _ right) w.met is.met limit ∙ sym found in
      second true (sym laid_same ∙ right) ∙ ap (λ x. first_some (reason_at reasons.Bitmap x ∷ behind)) same

  -- a bit that is wrong
  pub wrong_bitmap : (at : ℕ) → is_laid_out_by m s g which w.met ≡ true → Some at ≡ first_below (is_wrong_bit m g which w.met) (g.bitmap_leaves * m.size * 8) → Some (record { reason = reasons.Bitmap; at = at }) ≡ reason_with m s which (Some g)
  wrong_bitmap at right found = sym (third right (Some at) found)

  -- none: the later reasons
  pub right_bitmap : is_laid_out_by m s g which w.met ≡ true → None ≡ first_below (is_wrong_bit m g which w.met) (g.bitmap_leaves * m.size * 8) → later_reason m (main_roots s) (walked_inodes m (main_roots s)) ≡ reason_with m s which (Some g)
  right_bitmap right found = sym (third right None found)
