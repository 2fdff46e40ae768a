-- What a change has made of a node once it is committed.
use Rattle.std.specs.Prelude.{◌≡◌, ℕ, ◌⊎◌, ◌≤◌, Bool, true, false, not, ◌&&◌, length, IsTrue, Contains}
use Rattle.qx_fields.specs.declared.order.Order.{Order}
use Rattle.qx_geom.specs.declared.root.Root.{Root}
use Rattle.qx_geom.specs.Lists.{is_in}
use Rattle.qx_geom.specs.Positions.{HasPosition, has_position, index_above}
use Rattle.qx_geom.specs.Touch.{is_fresh}
use Rattle.qx_nodes.specs.Content.{leaf_bytes}
use Rattle.qx_nodes.specs.Visits.{Visit, present_of, visits_of}
use Rattle.qx_blocks.specs.BlockState.{BlockState}
use Rattle.qx_ptree.specs.Alterations.{Alteration, alteration_of, fresh_count}
use Rattle.qx_ptree.specs.Fates.{IsChange, is_written}
use Rattle.qx_ptree.specs.Trees.{IsRegular, IsWorking, block_map, pointer_at}
use Rattle.qx_ptree.specs.WorkState.{Preparation, blocks_of, committed}

-- a leaf and each pointer block above it are ready
abbrev pub IsReadyLeaf : Order → BlockState → Root → ℕ → Type 0
IsReadyLeaf order m node i = (k : ℕ) → k ≤ node.levels → IsTrue (m.holdings.ready (pointer_at (block_map order m) node k (index_above m.holdings.size k i)))

-- a position takes a fresh block
abbrev pub takes_fresh : Alteration → ℕ → ℕ → Bool
takes_fresh a k j = is_fresh a.blocksize a.old a.new a.written a.private k j

-- a position is there afterwards, with the block that it had
abbrev pub keeps_block : Alteration → ℕ → ℕ → Bool
keeps_block a k j = has_position a.blocksize a.new k j && not (takes_fresh a k j)

-- what a preparation makes of its node
abbrev pub prepared_alteration : Order → BlockState → Preparation → Alteration
prepared_alteration order m p = alteration_of order m p.node p.change

-- block b is as it was: who holds it, and its bytes; it is ready where it was
pub record IsSameBlock (m n : BlockState) (b : ℕ) : Type 0 where
  pub held : n.holdings.held b ≡ m.holdings.held b
  pub works : n.holdings.works b ≡ m.holdings.works b
  pub private : n.holdings.private b ≡ m.holdings.private b
  pub ready : IsTrue (m.holdings.ready b) → IsTrue (n.holdings.ready b)
  pub bytes : n.bytes b ≡ m.bytes b

-- the blocks of a preparation, and the other blocks of its node, are as they were
pub record AsLeft (order : Order) (p : Preparation) (m n : BlockState) : Type 0 where
  pub size : n.holdings.size ≡ m.holdings.size
  pub count : n.holdings.count ≡ m.holdings.count
  pub own : (b : ℕ) → is_in (blocks_of p) b ≡ true → IsSameBlock m n b
  pub others : (v : Visit) → Contains (visits_of (block_map order m) p.node) v → IsSameBlock m n v.block

-- over the blocks m the node has become the one that the change makes of the node over the blocks `old`
pub record Alters (order : Order) (old : BlockState) (p : Preparation) (m : BlockState) : Type 0 where
  pub blocksize : m.holdings.size ≡ old.holdings.size
  pub size : p.root.size ≡ p.change.size
  pub levels : p.root.levels ≡ (prepared_alteration order old p).new.levels
  pub present : present_of (block_map order m) p.root ≡ (prepared_alteration order old p).new.present
  pub works : IsWorking order m p.root
  pub regular : IsRegular order m p.root
  pub stays : (k j : ℕ) → keeps_block (prepared_alteration order old p) k j ≡ true
      → pointer_at (block_map order m) p.root k j ≡ pointer_at (block_map order old) p.node k j
  pub fresh : (k j : ℕ) → HasPosition old.holdings.size (prepared_alteration order old p).new k j → takes_fresh (prepared_alteration order old p) k j ≡ true
      → is_in p.work.fresh (pointer_at (block_map order m) p.root k j) ≡ true
  pub all_fresh : (b : ℕ) → is_in p.work.fresh b ≡ true
      → (k : ℕ) × (j : ℕ) × HasPosition old.holdings.size (prepared_alteration order old p).new k j × (takes_fresh (prepared_alteration order old p) k j ≡ true) × (pointer_at (block_map order m) p.root k j ≡ b)
  pub bytes : (i : ℕ) → HasPosition old.holdings.size (prepared_alteration order old p).new 0 i
      → leaf_bytes (block_map order m) p.root i ≡ leaf_bytes (block_map order old) p.node i
  pub ready : (i : ℕ) → is_written p.change i ≡ true → IsReadyLeaf order m p.root i
  pub own : (i k : ℕ) → is_written p.change i ≡ true → k ≤ p.root.levels
      → is_in (blocks_of p) (pointer_at (block_map order m) p.root k (index_above old.holdings.size k i)) ≡ true
  pub given_up : (v : Visit) → Contains (visits_of (block_map order old) p.node) v → keeps_block (prepared_alteration order old p) v.level v.index ≡ false
      → m.holdings.works v.block ≡ false
  pub fresh_ready : (k j : ℕ) → HasPosition old.holdings.size (prepared_alteration order old p).new k j → takes_fresh (prepared_alteration order old p) k j ≡ true
      → IsTrue (m.holdings.ready (pointer_at (block_map order m) p.root k j))
  pub stays_private : (k j : ℕ) → keeps_block (prepared_alteration order old p) k j ≡ true
      → m.holdings.private (pointer_at (block_map order m) p.root k j) ≡ old.holdings.private (pointer_at (block_map order old) p.node k j)

-- a change of a node was prepared: it took as many fresh blocks as it needs, its other blocks are the node's, it gives up those of the node's that it doesn't keep and no others, and its commit makes of the node what the change makes of it, whatever became of other blocks since
pub record IsPrepared (order : Order) (old now : BlockState) (p : Preparation) : Type 0 where
  pub change : IsChange old.holdings.size p.change
  pub sixteen : length p.root.pointers ≡ 16
  pub need : length p.work.fresh ≡ fresh_count (prepared_alteration order old p)
  pub blocks : (b : ℕ) → is_in (blocks_of p) b ≡ true → (is_in p.work.fresh b ≡ true) ⊎ ((v : Visit) × Contains (visits_of (block_map order old) p.node) v × (v.block ≡ b))
  pub released : (b : ℕ) → is_in p.work.released b ≡ true
      → (v : Visit) × Contains (visits_of (block_map order old) p.node) v × (v.block ≡ b) × (keeps_block (prepared_alteration order old p) v.level v.index ≡ false)
  pub lost : (v : Visit) → Contains (visits_of (block_map order old) p.node) v → keeps_block (prepared_alteration order old p) v.level v.index ≡ false
      → is_in p.work.released v.block ≡ true
  pub commits : (m : BlockState) → AsLeft order p now m → Alters order old p (committed m p)
