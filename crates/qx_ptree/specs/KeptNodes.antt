-- What leaves a node as it was.
use Rattle.std.specs.Prelude.{◌≡◌, IsTrue, Contains}
use Rattle.qx_fields.specs.declared.order.Order.{Order}
use Rattle.qx_geom.specs.declared.root.Root.{Root}
use Rattle.qx_nodes.specs.Visits.{Visit, visits_of}
use Rattle.qx_blocks.specs.BlockState.{BlockState}
use Rattle.qx_ptree.specs.Trees.{block_map}

-- the blocks that a node meets are the working tree's as they were, private where they were, and have the bytes that they had
pub record KeepsNode (order : Order) (m n : BlockState) (node : Root) : Type 0 where
  pub size : n.holdings.size ≡ m.holdings.size
  pub count : n.holdings.count ≡ m.holdings.count
  pub works : (v : Visit) → Contains (visits_of (block_map order m) node) v → IsTrue (m.holdings.works v.block) → IsTrue (n.holdings.works v.block)
  pub private : (v : Visit) → Contains (visits_of (block_map order m) node) v → n.holdings.private v.block ≡ m.holdings.private v.block
  pub bytes : (v : Visit) → Contains (visits_of (block_map order m) node) v → n.bytes v.block ≡ m.bytes v.block
