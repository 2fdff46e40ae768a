-- What has become of all nodes once bytes were put into one.
use Rattle.std.specs.Prelude.{◌≡◌, ◌≢◌, ℕ, ◌+◌, ◌*◌, ◌/◌, Bool, false, ◌&&◌, List, length, nat_le, nat_lt, Some, if◌then◌else◌}
use Rattle.qx_fields.specs.declared.order.Order.{Order}
use Rattle.qx_geom.specs.declared.root.Root.{Root}
use Rattle.qx_nodes.specs.Visits.{visits_of}
use Rattle.qx_blocks.specs.BlockState.{BlockState}
use Rattle.qx_ptree.specs.Trees.{block_map}
use Rattle.qx_file.specs.Puts.{with_part}
use Rattle.qx_batch.specs.Changes.{IsKeptNode}
use Rattle.qx_nodes.specs.NodeContents.{IsSameContent, NodeContent, node_content}
use Rattle.qx_batch.specs.Nodes.{AreAllMet, AreLaid, Nodes}

-- leaf i has one of `count` bytes from a place on
abbrev pub has_byte : ℕ → ℕ → ℕ → ℕ → Bool
has_byte blocksize at count i = nat_le (at / blocksize) i && (nat_lt (i * blocksize) (at + count) && nat_lt 0 count)

-- a content with some bytes in its leaves from a place on
abbrev pub put_content : ℕ → ℕ → List ℕ → NodeContent → NodeContent
put_content blocksize at bytes a = record a { leaves = λ i. if has_byte blocksize at (length bytes) i then with_part blocksize i at bytes (a.leaves i) else a.leaves i }

-- bytes were put into the node of a number, and every other node is as it was
pub record ArePut (order : Order) (nodes : Nodes) (m n : BlockState) (owner at : ℕ) (bytes : List ℕ) : Type 0 where
  pub holdings : n.holdings ≡ m.holdings
  pub laid : AreLaid order n nodes
  pub visits : (o : ℕ) (node : Root) → nodes o ≡ Some node → visits_of (block_map order n) node ≡ visits_of (block_map order m) node
  pub put : (node : Root) → nodes owner ≡ Some node → IsSameContent m.holdings.size (put_content m.holdings.size at bytes (node_content (block_map order m) node)) (node_content (block_map order n) node)
  pub kept : (o : ℕ) (node : Root) → nodes o ≡ Some node → o ≢ owner → IsKeptNode order m n node (nodes o)
  pub all_met : AreAllMet order m nodes → AreAllMet order n nodes
  pub shared : (b : ℕ) → m.holdings.private b ≡ false → n.bytes b ≡ m.bytes b
