-- What a file holds past its size.
use Rattle.std.specs.Prelude.{◌≡◌, ℕ, ◌≤◌, ◌<◌}
use Rattle.qx_fields.specs.declared.order.Order.{Order}
use Rattle.qx_geom.specs.declared.root.Root.{Root}
use Rattle.qx_nodes.specs.Content.{byte_of}
use Rattle.qx_blocks.specs.BlockState.{BlockState}
use Rattle.qx_ptree.specs.Trees.{block_map}
use Rattle.qx_file.specs.Puts.{leaves_end}

-- no byte past the file's size, in the leaf with its end, is other than 0
abbrev pub HasNoTail : Order → BlockState → Root → Type 0
HasNoTail order m node = (k : ℕ) → node.size ≤ k → k < leaves_end m.holdings.size node.size → byte_of (block_map order m) node k ≡ 0
