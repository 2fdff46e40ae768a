-- What the numbers of a volume keep.
use Rattle.std.proofs.Common.{◌≡◌, ℕ, suc, ◌+◌, ◌-◌, ◌*◌, ◌/◌, ◌^◌, ◌<◌, ◌≤◌, ◌||◌, Bool, true, false, not, Result, Ok, Err, nat_lt, if◌then◌else◌, refl, ap, sym, ◌∙◌, subst, arith, ltb-false}
use Rattle.std.proofs.Math.Nat.{mul-div_cancel, mul-le-mul_left}
use Rattle.std.proofs.lemmas.Bool.{or_parts}
use Rattle.qx_geom.specs.declared.area.Which.{Which}
use Rattle.qx_geom.specs.declared.area.Which.TheVariants.{First, Second}
use Rattle.qx_geom.specs.declared.geometry.Geometry.{Geometry}
use Rattle.qx_geom.specs.declared.system.SystemTree.{SystemTree}
use Rattle.qx_geom.specs.declared.system.SystemTree.TheVariants as trees
use Rattle.qx_geom.specs.declared.geometry.GeomFault.{GeomFault}
use Rattle.qx_geom.specs.declared.geometry.GeomFault.TheVariants.{BlockSize, TooShort, TooLarge, Inodes}
use Rattle.qx_geom.specs.Layout.{IsGeometry, levels_for, tree_blocks, pointer_blocks, is_block_size, whole_length, blocks_in, bitmap_leaves_of, inode_leaves_of, half_of, numbers_of, geometry_of, first_block, tree_base, tree_leaves, tree_pointers}
use Rattle.qx_geom.specs.Pointer.{ceil_div}
use Rattle.qx_geom.proofs.BlockSizes.{block_size-bounds}
use Rattle.qx_geom.proofs.LeastLevels.{levels_for-six}
use Rattle.qx_geom.proofs.LevelCounts.{ceil_div-le, below_level-le, tree_blocks-is}

-- ---- the tests

-- the answer, by what the tests in their order say
abbrev decided : Bool → Bool → Bool → Bool → Geometry → Result Geometry GeomFault
decided sized inodes short large g = if not sized then Err BlockSize else if inodes then Err Inodes else if short then Err TooShort else if large then Err TooLarge else Ok g

-- a device's geometry is that answer
geometry_of-decided : (len b i : ℕ) (sized inodes short large : Bool) → is_block_size b ≡ sized → (nat_lt i 16 || nat_lt 1048576 i) ≡ inodes
    → (nat_lt (whole_length len) 0x4000 || nat_lt (blocks_in len b) (2 * half_of len b i + 17)) ≡ short → nat_lt (2 ^ 28) (blocks_in len b) ≡ large
    → geometry_of len b i ≡ decided sized inodes short large (numbers_of len b i)
unfolding geometry_of
geometry_of-decided len b i sized inodes short large e f g h = cc

-- what the tests said, where all were passed
record Passed (sized inodes short large : Bool) (g h : Geometry) : Type 0 where
  sized_true : sized ≡ true
  inodes_false : inodes ≡ false
  short_false : short ≡ false
  large_false : large ≡ false
  same : g ≡ h

-- only then it is Ok
passed : (sized inodes short large : Bool) (g h : Geometry) → decided sized inodes short large g ≡ Ok h → Passed sized inodes short large g h
passed false inodes short large g h e = absurd (cc)
passed true true short large g h e = absurd (cc)
passed true false true large g h e = absurd (cc)
passed true false false true g h e = absurd (cc)
passed true false false false g h e = record { sized_true = refl; inodes_false = refl; short_false = refl; large_false = refl; same = cc }

-- ---- the length

-- rounding down a second time changes nothing
pub whole_length-twice : (len : ℕ) → whole_length (whole_length len) ≡ whole_length len
whole_length-twice len = ap (λ (k : ℕ). k * 4096) (mul-div_cancel (len / 4096) {n = 4096} (omega arith))

-- so the rounded length has the same geometry
pub geometry_of-whole : (len b i : ℕ) → geometry_of (whole_length len) b i ≡ geometry_of len b i
unfolding geometry_of
geometry_of-whole len b i = simp whole_length-twice

-- what the geometry of a device says of the device
tested : (len b i : ℕ) (g : Geometry) → geometry_of len b i ≡ Ok g
    → Passed (is_block_size b) (nat_lt i 16 || nat_lt 1048576 i) (nat_lt (whole_length len) 0x4000 || nat_lt (blocks_in len b) (2 * half_of len b i + 17)) (nat_lt (2 ^ 28) (blocks_in len b)) (numbers_of len b i) g
tested len b i g e = passed _ _ _ _ _ _ (sym (geometry_of-decided len b i _ _ _ _ refl refl refl refl) ∙ e)

-- a device's geometry is that of its numbers
pub geometry_of-numbers : (len b i : ℕ) (g : Geometry) → geometry_of len b i ≡ Ok g → numbers_of len b i ≡ g
geometry_of-numbers len b i g e = (tested len b i g e).same

-- what is a device's geometry is a volume's
pub IsGeometry-of : (len b i : ℕ) (g : Geometry) → geometry_of len b i ≡ Ok g → IsGeometry g
IsGeometry-of len b i g e =
    let numbers = (tested len b i g e).same in
    let own : IsGeometry (numbers_of len b i) = geometry_of-whole len b i ∙ e ∙ ap (λ (h : Geometry). Ok h) (sym numbers) in
    subst (λ (h : Geometry). IsGeometry h) numbers own

-- ---- the numbers

-- a half's bitmap has few leaves, where the volume has few blocks
pub bitmap_leaves-le : (b blocks : ℕ) → is_block_size b ≡ true → blocks ≤ 2 ^ 28 → bitmap_leaves_of b blocks ≤ 2 ^ 18
bitmap_leaves-le b blocks sized few =
    let bounds = block_size-bounds b sized in
    let bytes : ceil_div blocks 8 ≤ 2 ^ 25 = ceil_div-le blocks 8 (2 ^ 25) (omega arith) (omega arith) in
    ceil_div-le (ceil_div blocks 8) b (2 ^ 18) (omega arith) (omega arith)

-- so have its inodes
pub inode_leaves-le : (b inodes : ℕ) → is_block_size b ≡ true → inodes ≤ 1048576 → inode_leaves_of b inodes ≤ 2 ^ 18
inode_leaves-le b inodes sized few =
    let bounds = block_size-bounds b sized in
    ceil_div-le (inodes * 128) b (2 ^ 18) (omega arith) (omega arith)

-- a tree has at most seven times as many blocks as leaves
tree_blocks-le : (b n : ℕ) → is_block_size b ≡ true → tree_blocks b n ≤ 7 * n
unfolding tree_blocks
tree_blocks-le b n sized = let few = levels_for-six b n in below_level-le b n sized (suc (levels_for b n)) 7 (omega arith)

-- very many blocks leave room beside both halves
pub half_of-room : (len b i : ℕ) → is_block_size b ≡ true → i ≤ 1048576 → 2 ^ 28 < blocks_in len b → 2 * half_of len b i + 17 ≤ blocks_in len b
half_of-room len b i sized few many =
    let bounds = block_size-bounds b sized in
    let blocks = blocks_in len b in
    let part = ceil_div blocks 8 / 512 + 1 in
    let bitmap : bitmap_leaves_of b blocks ≤ part = ceil_div-le (ceil_div blocks 8) b part (omega arith) (let more : part * 512 ≤ part * b = mul-le-mul_left part bounds.size_from in omega arith) in
    omega (arith, tree_blocks-le b (bitmap_leaves_of b blocks) sized, tree_blocks-le b (inode_leaves_of b i) sized, inode_leaves-le b i sized few)

-- what is known of a geometry's numbers
pub record VolumeNumbers (g : Geometry) : Type 0 where
  pub block_size : is_block_size g.blocksize ≡ true
  pub inodes_to : g.num_inodes ≤ 1048576
  pub whole : whole_length g.len4 ≡ g.len4
  pub long : 0x4000 ≤ g.len4
  pub blocks : g.num_blocks ≡ blocks_in g.len4 g.blocksize
  pub blocks_to : g.num_blocks ≤ 2 ^ 28
  pub room : 2 * g.half + 17 ≤ g.num_blocks
  pub bitmap_leaves_to : g.bitmap_leaves ≤ 2 ^ 18
  pub inode_leaves_to : g.inode_leaves ≤ 2 ^ 18
  pub bitmap_blocks : g.bitmap_leaves + g.bitmap_pointers ≡ tree_blocks g.blocksize g.bitmap_leaves
  pub inode_blocks : g.inode_leaves + g.inode_pointers ≡ tree_blocks g.blocksize g.inode_leaves
  pub bitmap_pointers : g.bitmap_pointers ≡ pointer_blocks g.blocksize g.bitmap_leaves
  pub inode_pointers : g.inode_pointers ≡ pointer_blocks g.blocksize g.inode_leaves
  pub parts : g.half ≡ g.bitmap_leaves + g.bitmap_pointers + g.inode_leaves + g.inode_pointers

-- it holds where the tests are passed
numbers_of-keep : (len b i : ℕ) (h : Geometry) → Passed (is_block_size b) (nat_lt i 16 || nat_lt 1048576 i) (nat_lt (whole_length len) 0x4000 || nat_lt (blocks_in len b) (2 * half_of len b i + 17)) (nat_lt (2 ^ 28) (blocks_in len b)) (numbers_of len b i) h → VolumeNumbers (numbers_of len b i)
numbers_of-keep len b i h p =
    let sized = p.sized_true in
    let blocks = blocks_in len b in
    let few_inodes : i ≤ 1048576 = ltb-false 1048576 i (or_parts (nat_lt i 16) (nat_lt 1048576 i) p.inodes_false).1 in
    let few_blocks : blocks ≤ 2 ^ 28 = ltb-false (2 ^ 28) blocks p.large_false in
    let bitmap = tree_blocks-is b (bitmap_leaves_of b blocks) sized in
    let table = tree_blocks-is b (inode_leaves_of b i) sized in
    record {
      block_size = sized;
      inodes_to = few_inodes;
      whole = whole_length-twice len;
      long = ltb-false _ _ (or_parts _ _ p.short_false).0;
      blocks = ap (λ (l : ℕ). (l - 0x4000) / b) (sym (whole_length-twice len));
      blocks_to = few_blocks;
      room = ltb-false _ _ (or_parts _ _ p.short_false).1;
      bitmap_leaves_to = bitmap_leaves-le b blocks sized few_blocks;
      inode_leaves_to = inode_leaves-le b i sized few_inodes;
      bitmap_blocks = sym bitmap;
      inode_blocks = sym table;
      bitmap_pointers = refl;
      inode_pointers = refl;
      parts = omega arith;
    }

-- so a geometry's numbers keep it
pub IsGeometry-keeps : (g : Geometry) → IsGeometry g → VolumeNumbers g
IsGeometry-keeps g e =
    let p = tested g.len4 g.blocksize g.num_inodes g e in
    subst (λ (h : Geometry). VolumeNumbers h) p.same (numbers_of-keep g.len4 g.blocksize g.num_inodes g p)

-- ---- the system trees

-- a tree's blocks are its leaves and its pointer blocks
pub tree_pointers-is : (g : Geometry) (tree : SystemTree) → IsGeometry g → tree_pointers g tree ≡ pointer_blocks g.blocksize (tree_leaves g tree)
tree_pointers-is g trees.Bitmap e = (IsGeometry-keeps g e).bitmap_pointers
tree_pointers-is g trees.Inodes e = (IsGeometry-keeps g e).inode_pointers

-- an area's half begins at 0 or behind the other
pub first_block-le : (g : Geometry) (which : Which) → first_block g which ≤ g.half
first_block-le g First = omega arith
first_block-le g Second = omega arith

-- a half's trees lie in the half
pub tree-within : (g : Geometry) (which : Which) (tree : SystemTree) → IsGeometry g → tree_base g which tree + tree_blocks g.blocksize (tree_leaves g tree) ≤ first_block g which + g.half
tree-within g which trees.Bitmap e = let v = IsGeometry-keeps g e in omega (arith, v.bitmap_blocks, v.parts)
tree-within g which trees.Inodes e = let v = IsGeometry-keeps g e in omega (arith, v.inode_blocks, v.parts)

-- so they lie among the volume's blocks
pub tree-below : (g : Geometry) (which : Which) (tree : SystemTree) → IsGeometry g → tree_base g which tree + tree_blocks g.blocksize (tree_leaves g tree) ≤ 2 ^ 28
tree-below g which tree e = let v = IsGeometry-keeps g e in omega (arith, tree-within g which tree e, first_block-le g which, v.room, v.blocks_to)

-- a tree has few leaves
pub tree_leaves-le : (g : Geometry) (tree : SystemTree) → IsGeometry g → tree_leaves g tree ≤ 2 ^ 18
tree_leaves-le g trees.Bitmap e = (IsGeometry-keeps g e).bitmap_leaves_to
tree_leaves-le g trees.Inodes e = (IsGeometry-keeps g e).inode_leaves_to

-- a tree's pointer blocks lie among the volume's blocks
pub pointers-counted : (g : Geometry) (which : Which) (tree : SystemTree) → IsGeometry g → tree_base g which tree + tree_leaves g tree + tree_pointers g tree ≤ g.num_blocks
pointers-counted g which trees.Bitmap e = let v = IsGeometry-keeps g e in omega (arith, first_block-le g which, v.room, v.parts)
pointers-counted g which trees.Inodes e = let v = IsGeometry-keeps g e in omega (arith, first_block-le g which, v.room, v.parts)
