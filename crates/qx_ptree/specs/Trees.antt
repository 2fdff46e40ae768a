-- A node's tree over blocks of which the working tree holds some.
use Rattle.std.specs.Prelude.{◌≡◌, ℕ, zero, suc, ◌-◌, ◌*◌, ◌/◌, ◌%◌, ◌^◌, ◌≤◌, false, Option, Some, None, nat_lt, ◌==◌, if◌then◌else◌, length, replicate, slice_index_or, IsTrue, Contains}
use Rattle.qx_fields.specs.declared.order.Order.{Order}
use Rattle.qx_geom.specs.declared.root.Root.{Root}
use Rattle.qx_geom.specs.Pointer.{absent, per_block, reach}
use Rattle.qx_nodes.specs.BlockMap.{BlockMap, word}
use Rattle.qx_nodes.specs.ForeignNodes.{is_foreign_node}
use Rattle.qx_nodes.specs.Leaves.{Leaf, Block, Hole}
use Rattle.qx_nodes.specs.Visits.{Visit, visits_of}
use Rattle.qx_blocks.specs.BlockState.{BlockState, IsConsistent}

-- the blocks that pointers speak of, their numbers in this order of bytes
abbrev pub block_map : Order → BlockState → BlockMap
block_map order m = record { order = order; size = m.holdings.size; count = m.holdings.count; bytes = m.bytes }

-- the node's levels are within bounds and reach its size
pub record HasLevels (blocksize : ℕ) (node : Root) : Type 0 where
  pub most : node.levels ≤ 5
  pub reached : node.size ≤ reach blocksize node.levels * blocksize

-- each pointer that is met below the node's size leads to a block that the working tree holds
abbrev pub IsWorking : Order → BlockState → Root → Type 0
IsWorking order m node = (v : Visit) → Contains (visits_of (block_map order m) node) v → IsTrue (m.holdings.works v.block)

-- the node is as this project writes nodes, and no block stands at two of its positions
pub record IsRegular (order : Order) (m : BlockState) (node : Root) : Type 0 where
  pub plain : is_foreign_node (block_map order m) node ≡ false
  pub apart : (u v : Visit) → Contains (visits_of (block_map order m) node) u → Contains (visits_of (block_map order m) node) v → u.block ≡ v.block → u ≡ v

-- a node that can be asked and changed: its levels reach its size; where bytes are told, its pointers lead to blocks of the working tree, and it is as this project writes nodes
pub record IsNode (order : Order) (m : BlockState) (node : Root) : Type 0 where
  pub levels : HasLevels m.holdings.size node
  pub works : IsTrue m.tells → IsWorking order m node
  pub regular : IsTrue m.tells → IsRegular order m node

-- such a node where bytes are told, with its 16 pointers, over consistent blocks
pub record IsToldNode (order : Order) (m : BlockState) (node : Root) : Type 0 where
  pub consistent : IsConsistent m
  pub sixteen : length node.pointers ≡ 16
  pub levels : HasLevels m.holdings.size node
  pub works : IsWorking order m node
  pub regular : IsRegular order m node

-- no block stands in both nodes
abbrev pub AreApart : Order → BlockState → Root → Root → Type 0
AreApart order m node other = (u v : Visit) → Contains (visits_of (block_map order m) node) u → Contains (visits_of (block_map order m) other) v → ¬ (u.block ≡ v.block)

-- the node of nothing
abbrev pub empty_node : Root
empty_node = record { size = 0; pointers = replicate 16 absent; levels = 0 }

-- ---- leaves

-- what a block, or none, says of a leaf
abbrev pub leaf_at : Option ℕ → Leaf
leaf_at None = Hole
leaf_at (Some b) = Block b

-- a pointer is absent, or leads to a block that the working tree holds
abbrev pub Leads : BlockState → ℕ → Type 0
Leads m p = ¬ (p ≡ absent) → IsTrue (m.holdings.works p)

-- so do the pointers on the path to leaf i, from one that stands so many levels above the leaves on
abbrev pub PathLeads : Order → BlockState → ℕ → ℕ → ℕ → Type 0
PathLeads order m zero p i = Leads m p
PathLeads order m (suc l) p i =
    let t = block_map order m in
    Leads m p × (¬ (p ≡ absent) → PathLeads order m l (word t p (i / per_block t.size ^ l % per_block t.size)) i)

-- the blocks on the path to leaf i, from one that stands so many levels above the leaves on, are ready
abbrev pub IsReadyPath : Order → BlockState → ℕ → ℕ → ℕ → Type 0
IsReadyPath order m zero p i = IsTrue (m.holdings.ready p)
IsReadyPath order m (suc l) p i =
    let t = block_map order m in
    IsTrue (m.holdings.ready p) × IsReadyPath order m l (word t p (i / per_block t.size ^ l % per_block t.size)) i

-- ---- pointers by their position

-- the pointer to block j of a level that stands so many levels below the node's own pointers
abbrev pub pointer_from : BlockMap → Root → ℕ → ℕ → ℕ
pointer_from m node zero j = slice_index_or node.pointers j absent
pointer_from m node (suc d) j =
    let above = pointer_from m node d (j / per_block m.size) in
    if above == absent then absent else word m above (j % per_block m.size)

-- the pointer to block j of a level; absent above the node's levels
abbrev pub pointer_at : BlockMap → Root → ℕ → ℕ → ℕ
pointer_at m node k j = if nat_lt node.levels k then absent else pointer_from m node (node.levels - k) j
