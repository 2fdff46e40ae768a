-- What the maker writes into the blocks of both halves, and into the root directory's block behind them.
use Rattle.std.specs.Prelude.{ℕ, ◌≡◌, ◌+◌, ◌*◌, ◌-◌, ◌≤◌, Bool, List, [], ◌∷◌, ◌++◌, flat_map, replicate, nat_lt, ◌==◌, if◌then◌else◌}
use Rattle.std.specs.List.{range_with_len}
use Rattle.qx_fields.specs.declared.order.Order.{Order}
use Rattle.qx_geom.specs.declared.system.SystemTree.TheVariants as trees
use Rattle.qx_geom.specs.declared.area.Which.{Which}
use Rattle.qx_geom.specs.declared.area.Which.TheVariants.{First, Second}
use Rattle.qx_geom.specs.declared.geometry.Geometry.{Geometry}
use Rattle.qx_geom.specs.declared.root.Root.{Root}
use Rattle.qx_geom.specs.Pointer.{absent}
use Rattle.qx_geom.specs.Layout.{first_block}
use Rattle.qx_nodes.specs.BlockMap.{BlockMap}
use Rattle.qx_system.specs.SystemBytes.{bitmap_leaf_bytes, pointer_block_bytes}
use Rattle.qx_records.specs.declared.inode.Inode.{Inode}
use Rattle.qx_records.specs.WrittenInode.{inode_bytes}
use Rattle.qx_records.specs.WrittenNames.{short_bytes}

-- ---- the root directory

-- its block, the first behind both halves
abbrev pub top_block : Geometry → ℕ
top_block g = 2 * g.half

-- a node of one leaf
abbrev pub one_leaf : ℕ → ℕ → Root
one_leaf size block = record { size = size; pointers = block ∷ replicate 15 absent; levels = 0 }

-- its inode: one leaf of this size, owner and group 0, four times the moment, the mode of a directory that Mkdir makes, status 1
abbrev pub top_inode : ℕ → ℕ → ℕ → Inode
top_inode size block moment = record {
  root = one_leaf size block;
  uid = 0;
  gid = 0;
  ftime = moment;
  mtime = moment;
  atime = moment;
  ctime = moment;
  mode = 0x41ED;
  ext_mode = 0;
  status = 1;
}

-- the bytes of its block: the rows `.` and `..`, and unused records
unfoldable pub top_directory_bytes : Order → ℕ → List ℕ
top_directory_bytes order blocksize = short_bytes order 1 (46 ∷ []) ++ (short_bytes order 1 (46 ∷ 46 ∷ []) ++ replicate (blocksize - 64) 0)

-- it alone is held beside both halves
abbrev pub is_top : Geometry → ℕ → Bool
is_top g b = top_block g == b

-- ---- a half

-- leaf i of the Inode tree, where inode 1 alone is live
unfoldable pub inode_leaf_bytes : Geometry → Order → ℕ → ℕ → List ℕ
inode_leaf_bytes g order moment i =
    if i == 0 then inode_bytes order (top_inode g.blocksize (top_block g) moment) ++ replicate (g.blocksize - 128) 0 else replicate g.blocksize 0

-- block r of an area's half: bitmap leaves, bitmap pointer blocks, inode leaves, inode pointer blocks
abbrev pub half_block_bytes : Geometry → Order → ℕ → Which → ℕ → List ℕ
half_block_bytes g order moment which r =
    if nat_lt r g.bitmap_leaves then bitmap_leaf_bytes g (is_top g) r
    else if nat_lt r (g.bitmap_leaves + g.bitmap_pointers) then pointer_block_bytes g order which trees.Bitmap (first_block g which + r)
    else if nat_lt r (g.bitmap_leaves + g.bitmap_pointers + g.inode_leaves) then inode_leaf_bytes g order moment (r - (g.bitmap_leaves + g.bitmap_pointers))
    else pointer_block_bytes g order which trees.Inodes (first_block g which + r)

-- block b of those that the maker writes
unfoldable pub made_block_bytes : Geometry → Order → ℕ → ℕ → List ℕ
made_block_bytes g order moment b =
    if nat_lt b g.half then half_block_bytes g order moment First b
    else if nat_lt b (top_block g) then half_block_bytes g order moment Second (b - g.half)
    else top_directory_bytes order g.blocksize

-- so many of them from one on, one after another
abbrev pub blocks_bytes : Geometry → Order → ℕ → ℕ → ℕ → List ℕ
blocks_bytes g order moment first count = flat_map (made_block_bytes g order moment) (range_with_len first count)

-- blocks are those of a new volume: both halves and the root directory
pub record AreMade (g : Geometry) (order : Order) (moment : ℕ) (m : BlockMap) : Type 0 where
  pub order_is : m.order ≡ order
  pub size : m.size ≡ g.blocksize
  pub count : m.count ≡ g.num_blocks
  pub bytes : (b : ℕ) → b ≤ top_block g → m.bytes b ≡ made_block_bytes g order moment b
