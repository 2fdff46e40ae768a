-- What bytes that are put into a file's leaves leave.
use Rattle.std.specs.Prelude.{◌≡◌, ℕ, ◌+◌, ◌-◌, ◌*◌, ◌/◌, ◌≤◌, ◌<◌, List, length, slice_range, Contains}
use Rattle.qx_bytes.specs.Ranges.{put_at}
use Rattle.qx_fields.specs.declared.order.Order.{Order}
use Rattle.qx_geom.specs.declared.root.Root.{Root}
use Rattle.qx_geom.specs.Pointer.{ceil_div}
use Rattle.qx_nodes.specs.Visits.{Visit, visits_of}
use Rattle.qx_blocks.specs.BlockState.{BlockState, with_bytes}
use Rattle.qx_ptree.specs.ReadyLeaves.{IsReadyApart}
use Rattle.qx_ptree.specs.Trees.{HasLevels, block_map, pointer_at}

-- the block at a leaf
abbrev pub leaf_block : Order → BlockState → Root → ℕ → ℕ
leaf_block order m node i = pointer_at (block_map order m) node 0 i

-- where the last leaf ends that a file of this size can have
abbrev pub leaves_end : ℕ → ℕ → ℕ
leaves_end blocksize size = ceil_div size blocksize * blocksize

-- leaf i has one of `count` bytes from a place on
pub record HasByte (blocksize at count i : ℕ) : Type 0 where
  pub first : at / blocksize ≤ i
  pub last : i * blocksize < at + count
  pub some : 0 < count

-- so many bytes from a place on can be put: they lie in leaves that are ready, and no block stands at two positions of these or above
pub record CanPut (order : Order) (m : BlockState) (node : Root) (at count : ℕ) : Type 0 where
  pub levels : HasLevels m.holdings.size node
  pub below : at + count ≤ leaves_end m.holdings.size node.size
  pub ready : IsReadyApart order m node (HasByte m.holdings.size at count)

-- the bytes of leaf i with those of some bytes from a place on that lie in it
abbrev pub with_part : ℕ → ℕ → ℕ → List ℕ → List ℕ → List ℕ
with_part blocksize i at bytes old = put_at old (at - i * blocksize) (slice_range bytes (i * blocksize - at) ((i + 1) * blocksize - at))

-- leaf i alone has those bytes
abbrev pub with_leaf : Order → BlockState → Root → ℕ → ℕ → List ℕ → BlockState
with_leaf order m node i at bytes =
    let b = leaf_block order m node i in
    with_bytes m b (with_part m.holdings.size i at bytes (m.bytes b))

-- the bytes were put into the file's leaves from a place on, and no other byte of any block changed
pub record Puts (order : Order) (node : Root) (at : ℕ) (bytes : List ℕ) (m n : BlockState) : Type 0 where
  pub holdings : n.holdings ≡ m.holdings
  pub tells : n.tells ≡ m.tells
  pub history : n.history ≡ m.history
  pub leaves : (i : ℕ) → HasByte m.holdings.size at (length bytes) i
      → n.bytes (leaf_block order m node i) ≡ with_part m.holdings.size i at bytes (m.bytes (leaf_block order m node i))
  pub others : (b : ℕ) → ((i : ℕ) → HasByte m.holdings.size at (length bytes) i → ¬ (leaf_block order m node i ≡ b)) → n.bytes b ≡ m.bytes b

-- no block stands at two positions that a node meets, as in each regular node
abbrev pub MeetsOnce : Order → BlockState → Root → Type 0
MeetsOnce order m node = (u v : Visit) → Contains (visits_of (block_map order m) node) u → Contains (visits_of (block_map order m) node) v → u.block ≡ v.block → u ≡ v
