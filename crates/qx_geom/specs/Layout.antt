-- The layout for writing: how many blocks of each kind a volume has, and where its system trees stand.
use Rattle.std.specs.Prelude.{◌≡◌, ◌≤◌, ◌<◌, ℕ, zero, suc, ◌+◌, ◌*◌, ◌-◌, ◌^◌, ◌/◌, Bool, true, false, not, ◌||◌, map, Result, Ok, Err, nat_lt, nat_le, ◌==◌, if◌then◌else◌}
use Rattle.std.specs.List.{range_with_len}
use Rattle.qx_geom.specs.declared.area.Which.{Which}
use Rattle.qx_geom.specs.declared.area.Which.TheVariants.{First, Second}
use Rattle.qx_geom.specs.declared.root.Root.{Root}
use Rattle.qx_geom.specs.declared.system.SystemTree.{SystemTree}
use Rattle.qx_geom.specs.declared.system.SystemTree.TheVariants as trees
use Rattle.qx_geom.specs.declared.tree.PointerPlace.{PointerPlace}
use Rattle.qx_geom.specs.Pointer.{absent, ceil_div, per_block, reach}
use Rattle.qx_geom.specs.declared.geometry.Geometry.{Geometry}
use Rattle.qx_geom.specs.declared.geometry.GeomFault.{GeomFault}
use Rattle.qx_geom.specs.declared.geometry.GeomFault.TheVariants.{BlockSize, TooShort, TooLarge, Inodes}

-- ---- trees of pointer blocks

-- the least levels from these on, among the next few, that reach so many leaves
abbrev pub levels_from : ℕ → ℕ → ℕ → ℕ → ℕ
levels_from blocksize n l zero = l
levels_from blocksize n l (suc more) = if nat_le n (reach blocksize l) then l else levels_from blocksize n (l + 1) more

-- the least levels that reach so many leaves, or 6 where 5 don't
unfoldable pub levels_for : ℕ → ℕ → ℕ
levels_for blocksize n = levels_from blocksize n 0 6

-- how many blocks of a level a tree of n leaves has, the leaves being level 0
abbrev pub level_count : ℕ → ℕ → ℕ → ℕ
level_count blocksize n k = ceil_div n (per_block blocksize ^ k)

-- how many blocks of the levels below k it has
abbrev pub below_level : ℕ → ℕ → ℕ → ℕ
below_level blocksize n zero = 0
below_level blocksize n (suc k) = below_level blocksize n k + level_count blocksize n k

-- how many blocks it has
unfoldable pub tree_blocks : ℕ → ℕ → ℕ
tree_blocks blocksize n = below_level blocksize n (suc (levels_for blocksize n))

-- how many of them are pointer blocks
unfoldable pub pointer_blocks : ℕ → ℕ → ℕ
pointer_blocks blocksize n = tree_blocks blocksize n - n

-- ---- the numbers of a volume

-- the format's block sizes, in bytes
abbrev pub is_block_size : ℕ → Bool
is_block_size n = (n == 512) || (n == 1024) || (n == 2048) || (n == 4096)

-- a device's length, without what lies past the last whole 4096 bytes
abbrev pub whole_length : ℕ → ℕ
whole_length len = len / 4096 * 4096

-- how many blocks a device of this length has between its areas
abbrev pub blocks_in : ℕ → ℕ → ℕ
blocks_in len blocksize = (whole_length len - 0x4000) / blocksize

-- how many blocks the bitmap fills, at a bit for each block of the volume
abbrev pub bitmap_leaves_of : ℕ → ℕ → ℕ
bitmap_leaves_of blocksize blocks = ceil_div (ceil_div blocks 8) blocksize

-- how many blocks the inodes fill, at 128 bytes for each
abbrev pub inode_leaves_of : ℕ → ℕ → ℕ
inode_leaves_of blocksize inodes = ceil_div (inodes * 128) blocksize

-- how many blocks a half has
abbrev pub half_of : ℕ → ℕ → ℕ → ℕ
half_of len blocksize inodes =
    tree_blocks blocksize (bitmap_leaves_of blocksize (blocks_in len blocksize)) + tree_blocks blocksize (inode_leaves_of blocksize inodes)

-- all numbers of a volume on a device of this length
abbrev pub numbers_of : ℕ → ℕ → ℕ → Geometry
numbers_of len blocksize inodes = record {
  len4 = whole_length len;
  blocksize = blocksize;
  num_blocks = blocks_in len blocksize;
  num_inodes = inodes;
  bitmap_leaves = bitmap_leaves_of blocksize (blocks_in len blocksize);
  bitmap_pointers = pointer_blocks blocksize (bitmap_leaves_of blocksize (blocks_in len blocksize));
  inode_leaves = inode_leaves_of blocksize inodes;
  inode_pointers = pointer_blocks blocksize (inode_leaves_of blocksize inodes);
  half = half_of len blocksize inodes;
}

-- the geometry of a volume, or the first test that its numbers fail
unfoldable pub geometry_of : ℕ → ℕ → ℕ → Result Geometry GeomFault
geometry_of len blocksize inodes =
    if not (is_block_size blocksize) then Err BlockSize
    else if nat_lt inodes 16 || nat_lt 1048576 inodes then Err Inodes
    else if nat_lt (whole_length len) 0x4000 || nat_lt (blocks_in len blocksize) (2 * half_of len blocksize inodes + 17) then Err TooShort
    else if nat_lt (2 ^ 28) (blocks_in len blocksize) then Err TooLarge
    else Ok (numbers_of len blocksize inodes)

-- ---- where the system trees stand

-- the first block of an area's half
abbrev pub first_block : Geometry → Which → ℕ
first_block g First = 0
first_block g Second = g.half

-- how many blocks are no half's
abbrev pub user_blocks : Geometry → ℕ
user_blocks g = g.num_blocks - 2 * g.half

-- the byte at which the first superblock area stands, behind the boot area
abbrev pub first_place : ℕ
first_place = 0x2000

-- the byte at which block 0 stands
abbrev pub blocks_begin : ℕ
blocks_begin = 0x3000

-- the byte at which a superblock area stands
abbrev pub area_place : Geometry → Which → ℕ
area_place g First = first_place
area_place g Second = blocks_begin + g.num_blocks * g.blocksize

-- the byte at which a block stands
abbrev pub block_place : Geometry → ℕ → ℕ
block_place g b = blocks_begin + b * g.blocksize

-- the pointer to block j of a level of a tree of n leaves whose blocks begin at `base`; absent past the last one
abbrev pub system_pointer : ℕ → ℕ → ℕ → ℕ → ℕ → ℕ
system_pointer blocksize base n level j =
    if nat_lt j (level_count blocksize n level) then base + below_level blocksize n level + j else absent

-- the root node of such a tree
abbrev pub system_tree : ℕ → ℕ → ℕ → ℕ → Root
system_tree blocksize base n size = record {
  size = size;
  pointers = map (λ j. system_pointer blocksize base n (levels_for blocksize n) j) (range_with_len 0 16);
  levels = levels_for blocksize n;
}

-- the tree that a flag names
abbrev pub tree_of : Bool → SystemTree
tree_of true = trees.Bitmap
tree_of false = trees.Inodes

-- the block at which a tree of a half begins
abbrev pub tree_base : Geometry → Which → SystemTree → ℕ
tree_base g which trees.Bitmap = first_block g which
tree_base g which trees.Inodes = first_block g which + g.bitmap_leaves + g.bitmap_pointers

-- how many leaves it has
abbrev pub tree_leaves : Geometry → SystemTree → ℕ
tree_leaves g trees.Bitmap = g.bitmap_leaves
tree_leaves g trees.Inodes = g.inode_leaves

-- how many pointer blocks it has
abbrev pub tree_pointers : Geometry → SystemTree → ℕ
tree_pointers g trees.Bitmap = g.bitmap_pointers
tree_pointers g trees.Inodes = g.inode_pointers

-- its size in bytes
abbrev pub tree_size : Geometry → SystemTree → ℕ
tree_size g trees.Bitmap = ceil_div g.num_blocks 8
tree_size g trees.Inodes = g.num_inodes * 128

-- the root node of a system tree of an area
unfoldable pub system_root_of : Geometry → Which → SystemTree → Root
system_root_of g which tree = system_tree g.blocksize (tree_base g which tree) (tree_leaves g tree) (tree_size g tree)

-- the level and the index of the pointer block before which j blocks of this level and of those above it stand, among the next few levels
unfoldable pub pointer_place : ℕ → ℕ → ℕ → ℕ → ℕ → PointerPlace
pointer_place blocksize n level j zero = record { level = level; index = j }
pointer_place blocksize n level j (suc more) =
    if nat_lt j (level_count blocksize n level) then record { level = level; index = j }
    else pointer_place blocksize n (level + 1) (j - level_count blocksize n level) more

-- word w of the pointer block at a place: where it points, a level below
abbrev pub word_at : ℕ → ℕ → ℕ → PointerPlace → ℕ → ℕ
word_at blocksize base n at w = system_pointer blocksize base n (at.level - 1) (at.index * per_block blocksize + w)

-- word w of a pointer block of an area's tree
unfoldable pub system_word_of : Geometry → Which → SystemTree → ℕ → ℕ → ℕ
system_word_of g which tree block w =
    let base = tree_base g which tree in
    let n = tree_leaves g tree in
    word_at g.blocksize base n (pointer_place g.blocksize n 1 (block - (base + n)) 5) w

-- the block is one of the tree's pointer blocks
pub record IsPointerBlock (g : Geometry) (which : Which) (tree : SystemTree) (block : ℕ) : Type 0 where
  pub from : tree_base g which tree + tree_leaves g tree ≤ block
  pub to : block < tree_base g which tree + tree_leaves g tree + tree_pointers g tree

-- the block is the one of this index on this level of the tree
pub record IsTreeBlock (g : Geometry) (which : Which) (tree : SystemTree) (level index block : ℕ) : Type 0 where
  pub level_there : level ≤ levels_for g.blocksize (tree_leaves g tree)
  pub index_there : index < level_count g.blocksize (tree_leaves g tree) level
  pub place : block ≡ tree_base g which tree + below_level g.blocksize (tree_leaves g tree) level + index

-- the numbers are a volume's
abbrev pub IsGeometry : Geometry → Type 0
IsGeometry g = geometry_of g.len4 g.blocksize g.num_inodes ≡ Ok g
