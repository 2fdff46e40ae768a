-- What a node holds.
use Rattle.std.specs.Prelude.{ℕ, ◌+◌, ◌*◌, ◌^◌, ◌/◌, ◌%◌, ◌<◌, ◌≤◌, Bool, ◌&&◌, List, replicate, nat_le, slice_index, slice_range}
use Rattle.qx_geom.specs.declared.root.Root.{Root}
use Rattle.qx_geom.specs.Lists.{each_below}
use Rattle.qx_geom.specs.Pointer.{per_block, reach}
use Rattle.qx_nodes.specs.BlockMap.{BlockMap}
use Rattle.qx_nodes.specs.Leaves.{Leaf, Block, Hole, Damage, leaf_of}

-- the bytes at a leaf, 0 where there is no block
abbrev pub bytes_at_leaf : BlockMap → Leaf → List ℕ
bytes_at_leaf m (Block b) = m.bytes b
bytes_at_leaf m Hole = replicate m.size 0
bytes_at_leaf m Damage = replicate m.size 0

-- the bytes of leaf i
abbrev pub leaf_bytes : BlockMap → Root → ℕ → List ℕ
leaf_bytes m node i = bytes_at_leaf m (leaf_of m node i)

-- byte k of a node
abbrev pub byte_of : BlockMap → Root → ℕ → ℕ
byte_of m node k = slice_index (leaf_bytes m node (k / m.size)) (k % m.size)

-- all the bytes of a node
abbrev pub content_of : BlockMap → Root → List ℕ
content_of m node = each_below node.size (λ k. byte_of m node k)

-- so many bytes from a place on that lie within one leaf, as those of an inode or of a directory record do
abbrev pub piece_of : BlockMap → Root → ℕ → ℕ → List ℕ
piece_of m node at count = slice_range (leaf_bytes m node (at / m.size)) (at % m.size) (at % m.size + count)

-- a node's levels and size are within the format's bounds
abbrev pub levels_fit : BlockMap → Root → Bool
levels_fit m node = nat_le node.levels 5 && (nat_le node.size (reach m.size node.levels * m.size) && nat_le node.size (2 ^ 48))

-- and a root node's size is within that of all blocks
abbrev pub root_fits : BlockMap → Root → Bool
root_fits m node = levels_fit m node && nat_le node.size (m.count * m.size)

-- blocks have room for a pointer
pub record HasSize (m : BlockMap) : Type 0 where
  pub size : 0 < m.size
  pub words : 0 < per_block m.size

-- and the node's levels reach its size
pub record Reaches (m : BlockMap) (node : Root) : Type 0 where
  pub size : 0 < m.size
  pub words : 0 < per_block m.size
  pub reached : node.size ≤ reach m.size node.levels * m.size
