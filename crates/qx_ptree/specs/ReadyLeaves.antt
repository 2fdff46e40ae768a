-- Leaves that can be written at once, whether bytes are told or not.
use Rattle.std.specs.Prelude.{◌≡◌, ℕ, ◌≤◌, true, List, IsTrue}
use Rattle.qx_fields.specs.declared.order.Order.{Order}
use Rattle.qx_geom.specs.declared.root.Root.{Root}
use Rattle.qx_geom.specs.Lists.{is_in}
use Rattle.qx_geom.specs.Positions.{index_above}
use Rattle.qx_blocks.specs.BlockState.{BlockState}
use Rattle.qx_ptree.specs.declared.change.Change.{Change}
use Rattle.qx_ptree.specs.Fates.{is_written}
use Rattle.qx_ptree.specs.Trees.{block_map, pointer_at}
use Rattle.qx_ptree.specs.WorkState.{Preparation, blocks_of}

-- one of some leaves stands at block j of level k, or below it
pub record IsAbove (blocksize : ℕ) (leaves : ℕ → Type 0) (k j : ℕ) : Type 0 where
  pub leaf : ℕ
  pub one : leaves leaf
  pub above : index_above blocksize k leaf ≡ j

-- the leaves that a change writes
abbrev pub IsWrittenBy : Change → ℕ → Type 0
IsWrittenBy c i = is_written c i ≡ true

-- these leaves and each pointer block above them are ready, and no block stands at two of their positions
pub record IsReadyApart (order : Order) (m : BlockState) (node : Root) (leaves : ℕ → Type 0) : Type 0 where
  pub ready : (k j : ℕ) → k ≤ node.levels → IsAbove m.holdings.size leaves k j → IsTrue (m.holdings.ready (pointer_at (block_map order m) node k j))
  pub apart : (k j h i : ℕ) → k ≤ node.levels → h ≤ node.levels → IsAbove m.holdings.size leaves k j → IsAbove m.holdings.size leaves h i
      → pointer_at (block_map order m) node k j ≡ pointer_at (block_map order m) node h i → (k ≡ h) × (j ≡ i)

-- the block at each of some leaves, and each above one, is one of these
pub record StandIn (order : Order) (m : BlockState) (node : Root) (leaves : ℕ → Type 0) (blocks : List ℕ) : Type 0 where
  pub own : (k j : ℕ) → k ≤ node.levels → IsAbove m.holdings.size leaves k j → is_in blocks (pointer_at (block_map order m) node k j) ≡ true

-- of the blocks of a change that waits for its commit, those that were ready are, with the bytes that they had
pub record OwnAsLeft (p : Preparation) (m n : BlockState) : Type 0 where
  pub size : n.holdings.size ≡ m.holdings.size
  pub count : n.holdings.count ≡ m.holdings.count
  pub ready : (b : ℕ) → is_in (blocks_of p) b ≡ true → IsTrue (m.holdings.ready b) → IsTrue (n.holdings.ready b)
  pub bytes : (b : ℕ) → is_in (blocks_of p) b ≡ true → IsTrue (m.holdings.ready b) → n.bytes b ≡ m.bytes b
