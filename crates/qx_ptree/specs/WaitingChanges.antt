-- A change that was prepared and waits for its commit, seen from the blocks before it.
use Rattle.std.specs.Prelude.{◌≡◌, ℕ, true, false, List, IsTrue, Contains}
use Rattle.qx_fields.specs.declared.order.Order.{Order}
use Rattle.qx_geom.specs.Lists.{is_in}
use Rattle.qx_nodes.specs.Visits.{Visit, visits_of}
use Rattle.qx_blocks.specs.BlockState.{BlockState}
use Rattle.qx_ptree.specs.Altered.{IsPrepared}
use Rattle.qx_ptree.specs.KeptNodes.{KeepsNode}
use Rattle.qx_ptree.specs.Trees.{IsToldNode, block_map}
use Rattle.qx_ptree.specs.WorkState.{Preparation, blocks_of}

-- neither the change nor the node that it changes has one of these blocks
pub record IsClearOf (order : Order) (old : BlockState) (p : Preparation) (blocks : List ℕ) : Type 0 where
  pub own : (b : ℕ) → is_in (blocks_of p) b ≡ true → is_in blocks b ≡ false
  pub met : (v : Visit) → Contains (visits_of (block_map order old) p.node) v → is_in blocks v.block ≡ false

-- a change of a node of the blocks `old` waits for its commit over the blocks `now`: no tree of `old` holds what it took, and it has its blocks and its node still
pub record IsWaiting (order : Order) (old now : BlockState) (p : Preparation) : Type 0 where
  pub node : IsToldNode order old p.node
  pub unheld : (b : ℕ) → is_in p.work.fresh b ≡ true → old.holdings.held b ≡ false
  pub held : (b : ℕ) → is_in (blocks_of p) b ≡ true → IsTrue (now.holdings.held b)
  pub kept : KeepsNode order old now p.node
  pub prepared : IsPrepared order old now p
