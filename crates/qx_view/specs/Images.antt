-- The blocks of an image, and the records that stand in its nodes.
use Rattle.std.specs.Prelude.{ℕ, ◌+◌, ◌*◌, ◌-◌, ◌^◌, ◌/◌, ◌<◌, min, Bool, List, [], ◌∷◌, Contains, flat_map, nat_le, nat_lt, slice_range, if◌then◌else◌}
use Rattle.std.specs.List.{range_with_len}
use Rattle.qx_geom.specs.declared.root.Root.{Root}
use Rattle.qx_geom.specs.Layout.{blocks_begin}
use Rattle.qx_geom.specs.Lists.{each_below}
use Rattle.qx_geom.specs.Pointer.{absent}
use Rattle.qx_nodes.specs.BlockMap.{BlockMap}
use Rattle.qx_nodes.specs.Leaves.{Leaf, Block, Hole, Damage, leaf_of}
use Rattle.qx_nodes.specs.Content.{piece_of}
use Rattle.qx_nodes.specs.Visits.{present_of}
use Rattle.qx_records.specs.declared.inode.Inode.{Inode}
use Rattle.qx_records.specs.InodeRecord.{inode_in}
use Rattle.qx_records.specs.NameRecord.{RawRecord, raw_in}
use Rattle.qx_super.specs.Superblock.{Superblock}

-- the bytes of a block of an image
abbrev pub block_bytes : List ℕ → ℕ → ℕ → List ℕ
block_bytes img size b = slice_range img (blocks_begin + b * size) (blocks_begin + b * size + size)

-- the blocks of an image whose active superblock this is
abbrev pub image_blocks : List ℕ → Superblock → BlockMap
image_blocks img s = record { order = s.order; size = s.blocksize; count = s.num_blocks; bytes = block_bytes img s.blocksize }

-- where a tree begins: its Inode and Longfile root nodes, and further root nodes whose blocks are held as well
pub record Roots : Type 0 where
  pub inodes : Root
  pub longfile : Root
  pub further : List Root

-- the roots of the tree of a superblock
abbrev pub main_roots : Superblock → Roots
main_roots s = record { inodes = s.inode; longfile = s.longfile; further = s.bitmap ∷ [] }

-- how many inodes an Inode tree has places for: those within its size that a u32 can number
abbrev pub places_in : Root → ℕ
places_in inodes = if nat_lt (inodes.size / 128) (2 ^ 32) then inodes.size / 128 else 2 ^ 32 - 1

-- how many places the Inode tree has
abbrev pub inode_places : Roots → ℕ
inode_places r = places_in r.inodes

-- inode n has a place
abbrev pub has_inode : Root → ℕ → Bool
has_inode inodes n = nat_le n (places_in inodes)

-- the 128 bytes of inode n
abbrev pub inode_bytes : BlockMap → Root → ℕ → List ℕ
inode_bytes m inodes n = piece_of m inodes ((n - 1) * 128) 128

-- inode n
abbrev pub inode_of : BlockMap → Root → ℕ → Inode
inode_of m inodes n = inode_in m.order (inode_bytes m inodes n)

-- record k of a directory; one in a hole is unused
abbrev pub raw_of : BlockMap → Root → ℕ → RawRecord
raw_of m node k = raw_in m.order (piece_of m node (k * 32) 32)

-- the records of a directory, in order
abbrev pub all_records : Root → List ℕ
all_records node = each_below (node.size / 32) (λ k. k)

-- record k of a directory lies in a leaf that isn't present
pub record IsInHole (m : BlockMap) (node : Root) (k : ℕ) : Type 0 where
  pub below : k < node.size / 32
  pub absent : ¬ (Contains (present_of m node) (k * 32 / m.size))

-- the records of leaf i of a directory, in order, as far as they lie below its size
abbrev pub leaf_records : BlockMap → Root → ℕ → List ℕ
leaf_records m node i = range_with_len (i * (m.size / 32)) (min (m.size / 32) (node.size / 32 - i * (m.size / 32)))

-- the records of the present leaves of a directory, in order; all others are unused
abbrev pub present_records : BlockMap → Root → List ℕ
present_records m node = flat_map (leaf_records m node) (present_of m node)

-- the block at a leaf, or the absent pointer
abbrev pub block_at_leaf : Leaf → ℕ
block_at_leaf (Block b) = b
block_at_leaf Hole = absent
block_at_leaf Damage = absent

-- the block that holds record k of a directory
abbrev pub record_block : BlockMap → Root → ℕ → ℕ
record_block m node k = block_at_leaf (leaf_of m node (k * 32 / m.size))
