-- The bits of a new volume's bitmap.
use Rattle.std.proofs.Common.{◌≡◌, ℕ, ◌+◌, ◌*◌, ◌/◌, ◌%◌, ◌<◌, List, ap, ◌∙◌, arith}
use Rattle.std.specs.Prelude.{slice_index}
use Rattle.std.specs.Int.{bit_at}
use Rattle.std.proofs.Math.Nat.{mod-lt}
use Rattle.std.proofs.lemmas.Nat.{div-add-mod', div_below}
use Rattle.std.proofs.lemmas.List.FromFn.{get_or-map-range_with_len}
use Rattle.qx_geom.specs.declared.system.SystemTree.TheVariants as trees
use Rattle.qx_geom.specs.declared.area.Which.{Which}
use Rattle.qx_geom.specs.declared.geometry.Geometry.{Geometry}
use Rattle.qx_geom.specs.Layout.{system_root_of}
use Rattle.qx_geom.proofs.BlockSizes.{block_size-bounds}
use Rattle.qx_geom.proofs.VolumeNumbers.{IsGeometry-keeps}
use Rattle.qx_view.specs.Sound.{bitmap_bit}
use Rattle.qx_make.specs.Blocks.{is_top}
use Rattle.qx_system.specs.SystemBytes.{bitmap_byte, bitmap_leaf_bytes, is_taken}
use Rattle.qx_system.proofs.TakenBits.{bit_is, bit_of}
use Rattle.qx_make.proofs.NewBlocks.{NewBlocks, blocks}
use Rattle.qx_make.proofs.NewLeaves.{bitmap_leaf_is}

module _ (v : NewBlocks) (which : Which) where
  -- the volume's numbers
  abbrev g : Geometry
  g = v.geometry

  -- bit b of the bitmap says whether the block is held or none
  pub new_bit : (b : ℕ) → b < g.bitmap_leaves * g.blocksize * 8 → bitmap_bit (blocks v) (system_root_of g which trees.Bitmap) b ≡ bit_of (is_taken g (is_top g) b)
  unfolding bitmap_leaf_bytes bitmap_byte
  new_bit b low =
      let bounds = block_size-bounds g.blocksize (IsGeometry-keeps g v.whole).block_size in
      let leaf : ℕ = b / 8 / g.blocksize in
      let at : ℕ = b / 8 % g.blocksize in
      let below : leaf < g.bitmap_leaves = div_below (b / 8) g.blocksize g.bitmap_leaves (omega arith) (div_below b 8 (g.bitmap_leaves * g.blocksize) (omega arith) low) in
      let small : at < g.blocksize = mod-lt (b / 8) (omega arith) in
      let whole : leaf * g.blocksize + at ≡ b / 8 = div-add-mod' (b / 8) g.blocksize in
      let bits : b / 8 * 8 + b % 8 ≡ b = omega arith in
      ap (λ (l : List ℕ). bit_at (slice_index l at) (b % 8)) (bitmap_leaf_is v which leaf below)
      ∙ ap (λ x. bit_at x (b % 8)) (get_or-map-range_with_len (λ k. bitmap_byte g (is_top g) (leaf * g.blocksize + k)) 0 g.blocksize at at 0 small (omega arith))
      ∙ ap (λ k. bit_at (bitmap_byte g (is_top g) k) (b % 8)) whole
      ∙ bit_is (λ j. is_taken g (is_top g) (b / 8 * 8 + j)) (b % 8) (omega arith)
      ∙ ap (λ k. bit_of (is_taken g (is_top g) k)) bits
