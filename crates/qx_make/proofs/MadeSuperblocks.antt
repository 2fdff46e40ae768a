-- The superblocks of a new volume: they fit their bytes, are read back, and are of one volume.
use Rattle.std.proofs.Common.{◌≡◌, ℕ, ◌+◌, ◌^◌, ◌≤◌, ◌<◌, ◌&&◌, not, Bool, true, false, length, Ok, Err, refl, ap, ◌∙◌, arith, if◌then◌else◌}
use Rattle.std.specs.Prelude.{nat_lt, nat_le, ◌==◌, map, get_or}
use Rattle.std.specs.List.{range_with_len}
use Rattle.std.proofs.lemmas.Bool.{and_from, eq-eqb, le-leb, ltb-true, ne_eqb}
use Rattle.std.proofs.lemmas.List.{length-replicate}
use Rattle.std.proofs.lemmas.List.Elements.{All-from_get_or, All-replicate}
use Rattle.std.proofs.lemmas.List.FromFn.{get_or-map-range_with_len, length-map-range_with_len}
use Rattle.qx_fields.specs.declared.order.Order.{Order}
use Rattle.qx_fields.specs.declared.order.Order.TheVariants.{Little, Big}
use Rattle.qx_geom.specs.declared.system.SystemTree.TheVariants as trees
use Rattle.qx_geom.specs.declared.system.SystemTree.{SystemTree}
use Rattle.qx_geom.specs.declared.area.Which.{Which}
use Rattle.qx_geom.specs.declared.area.Which.TheVariants.{First, Second}
use Rattle.qx_geom.specs.declared.geometry.Geometry.{Geometry}
use Rattle.qx_geom.specs.Layout.{IsGeometry, area_place, below_level, is_block_size, level_count, levels_for, system_pointer, system_root_of, tree_base, tree_leaves, tree_size}
use Rattle.qx_geom.specs.Pointer.{absent}
use Rattle.qx_geom.proofs.BlockSizes.{block_size-bounds}
use Rattle.qx_geom.proofs.LevelCounts.{level-within}
use Rattle.qx_geom.proofs.VolumeNumbers.{IsGeometry-keeps, tree-below}
use Rattle.qx_super.specs.declared.superblock.SuperFault.TheVariants.{Geometry as Unfit}
use Rattle.qx_super.specs.RootNode.{FitsRoot}
use Rattle.qx_super.specs.Superblock.{fits_device, second_place_of, superblock_of}
use Rattle.qx_super.specs.Written.{FitsSuper, superblock_written}
use Rattle.qx_super.specs.Active.{is_same_order, is_same_volume}
use Rattle.qx_super.proofs.WrittenSuperblocks.{length_super_bytes, superblock_of-super_bytes}
use Rattle.qx_make.specs.Superblocks.{made_super, made_super_bytes}
use Rattle.qx_make.specs.NewVolume.{empty_root}

-- a node of nothing fits
FitsRoot-empty : FitsRoot empty_root
FitsRoot-empty = record { size = omega arith; sixteen = length-replicate 16 absent; pointers = All-replicate (λ (p : ℕ). p < 2 ^ 32) 16 absent (omega arith) }

-- a pointer by a test
pointer-lt : (test : Bool) (x : ℕ) → (test ≡ true → x < 2 ^ 32) → (if test then x else absent) < 2 ^ 32
pointer-lt true x low = low refl
pointer-lt false x low = omega arith

module _ (g : Geometry) (e : IsGeometry g) where
  -- the size of a system tree fits
  tree_size-lt : (tree : SystemTree) → tree_size g tree < 2 ^ 64
  tree_size-lt trees.Bitmap = let v = IsGeometry-keeps g e in let few = v.blocks_to in omega arith
  tree_size-lt trees.Inodes = let v = IsGeometry-keeps g e in let few = v.inodes_to in omega arith

  -- the pointers of a system tree's root node are block numbers, or absent
  system_pointer-lt : (which : Which) (tree : SystemTree) (j : ℕ) → system_pointer g.blocksize (tree_base g which tree) (tree_leaves g tree) (levels_for g.blocksize (tree_leaves g tree)) j < 2 ^ 32
  system_pointer-lt which tree j =
      let b = g.blocksize in
      let n = tree_leaves g tree in
      let top = levels_for b n in
      let sized : is_block_size b ≡ true = (IsGeometry-keeps g e).block_size in
      pointer-lt (nat_lt j (level_count b n top)) (tree_base g which tree + below_level b n top + j) (λ there.
      omega (arith, ltb-true j (level_count b n top) there, level-within b n sized top (omega arith), tree-below g which tree e))

  -- so a system tree's root node fits
  FitsRoot-system : (which : Which) (tree : SystemTree) → FitsRoot (system_root_of g which tree)
  unfolding system_root_of
  FitsRoot-system which tree =
      let f : ℕ → ℕ = λ (j : ℕ). system_pointer g.blocksize (tree_base g which tree) (tree_leaves g tree) (levels_for g.blocksize (tree_leaves g tree)) j in
      let pointers = map f (range_with_len 0 16) in
      let sixteen : length pointers ≡ 16 = length-map-range_with_len f 0 16 in
      record {
        size = tree_size-lt tree;
        sixteen = sixteen;
        pointers = All-from_get_or (λ (p : ℕ). p < 2 ^ 32) pointers 0 (λ i within.
            let same : get_or pointers i 0 ≡ f i = get_or-map-range_with_len f 0 16 i i 0 (omega (arith, sixteen)) (omega arith) in
            omega (arith, same, system_pointer-lt which tree i));
      }

  module _ (order : Order) (moment : ℕ) (in_time : moment < 2 ^ 32) where
    -- the serial fits
    area_number-lt : (which : Which) → (made_super g order moment which).serial < 2 ^ 64
    unfolding made_super
    area_number-lt First = omega arith
    area_number-lt Second = omega arith

    -- all numbers fit
    pub FitsSuper-made : (which : Which) → FitsSuper (made_super g order moment which)
    unfolding made_super
    FitsSuper-made which =
        let v = IsGeometry-keeps g e in
        let bounds = block_size-bounds g.blocksize v.block_size in
        let inodes : g.num_inodes ≤ 1048576 = v.inodes_to in
        let blocks : g.num_blocks ≤ 2 ^ 28 = v.blocks_to in
        record {
          serial = area_number-lt which;
          ctime = in_time;
          atime = in_time;
          version1 = omega arith;
          blocksize = omega arith;
          num_inodes = omega arith;
          free_inodes = omega arith;
          num_blocks = omega arith;
          free_blocks = omega arith;
          inode = FitsRoot-system which trees.Inodes;
          bitmap = FitsRoot-system which trees.Bitmap;
          longfile = FitsRoot-empty;
          fourth = FitsRoot-empty;
        }

    -- each has 512 bytes
    pub length_made_super : (which : Which) → length (made_super_bytes g order moment which) ≡ 512
    length_made_super which = length_super_bytes (made_super g order moment which) (FitsSuper-made which)

    -- each says that the second area stands in its place
    pub second_place_of-made : (which : Which) → second_place_of (superblock_written (made_super g order moment which)) ≡ area_place g Second
    unfolding made_super
    second_place_of-made which = refl

    -- its geometry fits where the device has both areas
    made-fits : (which : Which) (len : ℕ) → area_place g Second + 512 ≤ len → fits_device (superblock_written (made_super g order moment which)) len ≡ true
    unfolding made_super
    made-fits which len room =
        let v = IsGeometry-keeps g e in
        let some : not (g.num_blocks == 0) ≡ true = ap not (ne_eqb g.num_blocks 0 (λ none. omega (arith, v.room))) in
        and_from (is_block_size g.blocksize) (not (g.num_blocks == 0) && nat_le (area_place g Second + 512) len) v.block_size
        (and_from (not (g.num_blocks == 0)) (nat_le (area_place g Second + 512) len) some (le-leb (area_place g Second + 512) len room))

    -- each is read back where the device has both areas
    pub superblock_of-made : (which : Which) (len : ℕ) → area_place g Second + 512 ≤ len → superblock_of (made_super_bytes g order moment which) len ≡ Ok (superblock_written (made_super g order moment which))
    superblock_of-made which len room =
        let s = superblock_written (made_super g order moment which) in
        superblock_of-super_bytes (made_super g order moment which) (FitsSuper-made which) len
        ∙ ap (λ (fits : Bool). if fits then Ok s else Err Unfit) (made-fits which len room)

    -- an order is itself
    same_order : (o : Order) → is_same_order o o ≡ true
    same_order Little = refl
    same_order Big = refl

    -- both are of one volume, and the second is later
    pub made-one_volume : is_same_volume (superblock_written (made_super g order moment First)) (superblock_written (made_super g order moment Second)) ≡ true
    unfolding made_super
    made-one_volume =
        let same : (n : ℕ) → (n == n) ≡ true = λ (n : ℕ). eq-eqb n n refl in
        and_from (is_same_order order order) ((g.blocksize == g.blocksize) && ((g.num_blocks == g.num_blocks) && (g.num_inodes == g.num_inodes))) (same_order order)
        (and_from (g.blocksize == g.blocksize) ((g.num_blocks == g.num_blocks) && (g.num_inodes == g.num_inodes)) (same g.blocksize)
        (and_from (g.num_blocks == g.num_blocks) (g.num_inodes == g.num_inodes) (same g.num_blocks) (same g.num_inodes)))

    -- the second has the greater serial
    pub made-later : (made_super g order moment First).serial < (made_super g order moment Second).serial
    unfolding made_super
    made-later = omega arith
