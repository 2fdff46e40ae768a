-- Nodes by number, over blocks.
use Rattle.std.specs.Prelude.{◌≡◌, ◌≢◌, ℕ, Option, Some, List, map, IsTrue, Contains, ◌==◌, if◌then◌else◌}
use Rattle.qx_fields.specs.declared.order.Order.{Order}
use Rattle.qx_geom.specs.declared.root.Root.{Root}
use Rattle.qx_geom.specs.Lists.{Distinct}
use Rattle.qx_nodes.specs.Visits.{Visit, visits_of}
use Rattle.qx_blocks.specs.BlockState.{BlockState}
use Rattle.qx_ptree.specs.Trees.{AreApart, IsToldNode, block_map}
use Rattle.qx_batch.specs.declared.planned.Planned.{Planned}

-- the node of each number that has one
abbrev pub Nodes : Type 0
Nodes = ℕ → Option Root

-- number o has this node, or none
abbrev pub with_node : Nodes → ℕ → Option Root → Nodes
with_node nodes o node q = if q == o then node else nodes q

-- the nodes lie over the blocks: each can be asked and changed, and no block stands in two of them
pub record AreLaid (order : Order) (m : BlockState) (nodes : Nodes) : Type 0 where
  pub node : (o : ℕ) (a : Root) → nodes o ≡ Some a → IsToldNode order m a
  pub apart : (o q : ℕ) (a b : Root) → nodes o ≡ Some a → nodes q ≡ Some b → o ≢ q → AreApart order m a b

-- a node meets this block
pub record IsMet (order : Order) (m : BlockState) (nodes : Nodes) (b : ℕ) : Type 0 where
  pub number : ℕ
  pub node : Root
  pub is : nodes number ≡ Some node
  pub visit : Visit
  pub met : Contains (visits_of (block_map order m) node) visit
  pub block : visit.block ≡ b

-- the working tree holds no block that no node meets
abbrev pub AreAllMet : Order → BlockState → Nodes → Type 0
AreAllMet order m nodes = (b : ℕ) → IsTrue (m.holdings.works b) → IsMet order m nodes b

-- the numbers of planned changes
abbrev pub owners_of : List Planned → List ℕ
owners_of ps = map (λ (p : Planned). p.owner) ps

-- each change is planned of the node that its number has, and no number stands twice
pub record AreNodesOf (nodes : Nodes) (ps : List Planned) : Type 0 where
  pub is : (p : Planned) → Contains ps p → nodes p.owner ≡ Some p.node
  pub owners : Distinct (owners_of ps)
