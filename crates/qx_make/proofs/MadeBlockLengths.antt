-- Each block that the maker writes has a block's bytes.
use Rattle.std.proofs.Common.{◌≡◌, ℕ, ◌+◌, ◌-◌, ◌*◌, ◌/◌, Bool, true, false, ◌++◌, length, replicate, arith, length-append, refl, ◌∙◌, if◌then◌else◌, ◌==◌}
use Rattle.std.specs.Prelude.{nat_lt}
use Rattle.std.proofs.lemmas.List.{length-replicate}
use Rattle.std.proofs.lemmas.List.FromFn.{length-map-range_with_len}
use Rattle.qx_bytes.proofs.Pieces.{length-joined}
use Rattle.qx_fields.specs.declared.order.Order.{Order}
use Rattle.qx_fields.specs.Number.{digits}
use Rattle.qx_fields.proofs.Fields.{length_digits}
use Rattle.qx_geom.specs.declared.system.SystemTree.{SystemTree}
use Rattle.qx_geom.specs.declared.system.SystemTree.TheVariants as trees
use Rattle.qx_geom.specs.declared.area.Which.{Which}
use Rattle.qx_geom.specs.declared.area.Which.TheVariants.{First, Second}
use Rattle.qx_geom.specs.declared.geometry.Geometry.{Geometry}
use Rattle.qx_geom.specs.Layout.{IsGeometry, first_block, system_word_of}
use Rattle.qx_geom.proofs.BlockSizes.{block_size-bounds}
use Rattle.qx_geom.proofs.VolumeNumbers.{IsGeometry-keeps}
use Rattle.qx_records.specs.WrittenInode.{inode_bytes}
use Rattle.qx_records.proofs.WrittenInodes.{length_inode_bytes}
use Rattle.qx_make.specs.Blocks.{half_block_bytes, inode_leaf_bytes, is_top, made_block_bytes, top_block, top_directory_bytes, top_inode}
use Rattle.qx_system.specs.SystemBytes.{bitmap_byte, bitmap_leaf_bytes, pointer_block_bytes}
use Rattle.qx_system.proofs.PartsInOrder.{length-parts}
use Rattle.qx_make.proofs.TopDirectory.{row_pieces}
use Rattle.qx_system.proofs.WholeBlocks.{block_size-words}

module _ (g : Geometry) (e : IsGeometry g) (order : Order) (moment : ℕ) where
  length-bitmap_leaf : (i : ℕ) → length (bitmap_leaf_bytes g (is_top g) i) ≡ g.blocksize
  unfolding bitmap_leaf_bytes
  length-bitmap_leaf i = length-map-range_with_len (λ (k : ℕ). bitmap_byte g (is_top g) (i * g.blocksize + k)) 0 g.blocksize

  length-pointer_block : (which : Which) (tree : SystemTree) (b : ℕ) → length (pointer_block_bytes g order which tree b) ≡ g.blocksize
  unfolding pointer_block_bytes
  length-pointer_block which tree b =
      let words = block_size-words g.blocksize (IsGeometry-keeps g e).block_size in
      omega (arith, words, length-parts (λ (w : ℕ). digits order 4 (system_word_of g which tree b w)) 4 (λ w. length_digits order 4 (system_word_of g which tree b w)) (g.blocksize / 4) 0)

  length-inode_leaf : (i : ℕ) → length (inode_leaf_bytes g order moment i) ≡ g.blocksize
  unfolding inode_leaf_bytes
  length-inode_leaf i = by_test (i == 0)
    where
      by_test : (b : Bool) → length (if b then inode_bytes order (top_inode g.blocksize (top_block g) moment) ++ replicate (g.blocksize - 128) 0 else replicate g.blocksize 0) ≡ g.blocksize
      by_test true = let bounds = block_size-bounds g.blocksize (IsGeometry-keeps g e).block_size in omega (arith, length-append {A = ℕ}, length_inode_bytes order (top_inode g.blocksize (top_block g) moment) refl, length-replicate {A = ℕ} (g.blocksize - 128) 0, bounds.size_from)
      by_test false = length-replicate g.blocksize 0

  length-top_directory : length (top_directory_bytes order g.blocksize) ≡ g.blocksize
  unfolding top_directory_bytes
  length-top_directory =
      let bounds = block_size-bounds g.blocksize (IsGeometry-keeps g e).block_size in
      length-joined (row_pieces order) (replicate (g.blocksize - 64) 0) ∙ (let e : 64 + length {A = ℕ} (replicate (g.blocksize - 64) 0) ≡ g.blocksize = omega (arith, length-replicate {A = ℕ} (g.blocksize - 64) 0, bounds.size_from) in e)

  length-half_block : (which : Which) (r : ℕ) → length (half_block_bytes g order moment which r) ≡ g.blocksize
  length-half_block which r = by_tests (nat_lt r g.bitmap_leaves) (nat_lt r (g.bitmap_leaves + g.bitmap_pointers)) (nat_lt r (g.bitmap_leaves + g.bitmap_pointers + g.inode_leaves))
    where
      by_tests : (a b c : Bool) → length (if a then bitmap_leaf_bytes g (is_top g) r else if b then pointer_block_bytes g order which trees.Bitmap (first_block g which + r) else if c then inode_leaf_bytes g order moment (r - (g.bitmap_leaves + g.bitmap_pointers)) else pointer_block_bytes g order which trees.Inodes (first_block g which + r)) ≡ g.blocksize
      by_tests true b c = length-bitmap_leaf r
      by_tests false true c = length-pointer_block which trees.Bitmap (first_block g which + r)
      by_tests false false true = length-inode_leaf (r - (g.bitmap_leaves + g.bitmap_pointers))
      by_tests false false false = length-pointer_block which trees.Inodes (first_block g which + r)

  -- whichever it is
  pub length-made_block : (b : ℕ) → length (made_block_bytes g order moment b) ≡ g.blocksize
  unfolding made_block_bytes
  length-made_block b = by_tests (nat_lt b g.half) (nat_lt b (top_block g))
    where
      by_tests : (x y : Bool) → length (if x then half_block_bytes g order moment First b else if y then half_block_bytes g order moment Second (b - g.half) else top_directory_bytes order g.blocksize) ≡ g.blocksize
      by_tests true y = length-half_block First b
      by_tests false true = length-half_block Second (b - g.half)
      by_tests false false = length-top_directory
