-- What three files hold that were written together.
use Rattle.std.specs.Prelude.{◌≡◌, ℕ, ◌≤◌, ◌*◌, true, List, length, slice_index, Some}
use Rattle.qx_fields.specs.declared.order.Order.{Order}
use Rattle.qx_geom.specs.declared.root.Root.{Root}
use Rattle.qx_geom.specs.Pointer.{reach}
use Rattle.qx_blocks.specs.BlockState.{BlockState}
use Rattle.qx_ptree.specs.Fates.{IsChange, is_written}
use Rattle.qx_ptree.specs.Trees.{HasLevels, block_map}
use Rattle.qx_file.specs.FilePlans.{write_change}
use Rattle.qx_file.specs.Puts.{CanPut, HasByte}
use Rattle.qx_batch.specs.declared.batch.Waiting.{Waiting}
use Rattle.qx_batch.specs.declared.planned.Planned.{Planned}
use Rattle.qx_batch.specs.Batches.{IsCommitted}
use Rattle.qx_nodes.specs.NodeContents.{IsSameContent, NodeContent, node_content}
use Rattle.qx_batch.specs.Changes.{changed_content}
use Rattle.qx_batch.specs.Nodes.{AreLaid, Nodes, with_node}
use Rattle.qx_batch.specs.PutNodes.{put_content}

-- a planned write of so many bytes from a place on can be prepared where 5 levels reach the node's size; it writes the leaves that have one of the bytes, and once it is committed they can be put
pub record IsWrite (blocksize : ℕ) (p : Planned) (at count : ℕ) : Type 0 where
  pub change : p.node.size ≤ reach blocksize 5 * blocksize → IsChange blocksize p.change
  pub writes : (i : ℕ) → HasByte blocksize at count i → is_written p.change i ≡ true
  pub can : (order : Order) (m : BlockState) (w : Waiting) → m.holdings.size ≡ blocksize → w.plan ≡ p → IsCommitted order m w → CanPut order m w.prep.root at count

-- the nodes of three files
pub record Files : Type 0 where
  pub first : Root
  pub second : Root
  pub third : Root

-- those of these
abbrev pub files_of : Root → Root → Root → Files
files_of first second third = record { first = first; second = second; third = third }

-- the numbers 0, 1 and 2 have the nodes of three files
abbrev pub with_three : Nodes → Files → Nodes
with_three nodes files = with_node (with_node (with_node nodes 2 (Some files.third)) 1 (Some files.second)) 0 (Some files.first)

-- each number has this node
abbrev pub all_are : Root → Nodes
all_are node o = Some node

-- the levels of each of three files reach its size
abbrev pub HaveLevels : ℕ → Files → Type 0
HaveLevels blocksize files = HasLevels blocksize files.first × HasLevels blocksize files.second × HasLevels blocksize files.third

-- what a file holds once bytes were written into it from a place on: what it held, with 0 up to the bytes where they begin past its end, and the bytes
abbrev pub written_content : Order → BlockState → Root → ℕ → List ℕ → NodeContent
written_content order m node at bytes =
    let size = m.holdings.size in
    put_content size at bytes (changed_content size (write_change node at (length bytes) size) (node_content (block_map order m) node))

-- so do three, and every other one holds what it held
pub record AreWritten (order : Order) (old new : BlockState) (nodes : Nodes) (files roots : Files) (places bytes : List ℕ) : Type 0 where
  pub first : IsSameContent old.holdings.size (written_content order old files.first (slice_index places 0) bytes) (node_content (block_map order new) roots.first)
  pub second : IsSameContent old.holdings.size (written_content order old files.second (slice_index places 1) bytes) (node_content (block_map order new) roots.second)
  pub third : IsSameContent old.holdings.size (written_content order old files.third (slice_index places 2) bytes) (node_content (block_map order new) roots.third)
  pub others : (o : ℕ) (node : Root) → nodes o ≡ Some node → 3 ≤ o → IsSameContent old.holdings.size (node_content (block_map order old) node) (node_content (block_map order new) node)
  pub laid : AreLaid order new (with_three nodes roots)
