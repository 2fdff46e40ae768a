-- The long names of a Longfile: that of number n stands in leaf n.
use Rattle.std.specs.Prelude.{ℕ, ◌*◌, List, Option, None, nat_lt, if◌then◌else◌}
use Rattle.qx_fields.specs.declared.order.Order.{Order}
use Rattle.qx_geom.specs.declared.root.Root.{Root}
use Rattle.qx_geom.specs.Lists.{is_in}
use Rattle.qx_nodes.specs.BlockMap.{BlockMap}
use Rattle.qx_nodes.specs.Leaves.{Leaf, Block, Hole, Damage, leaf_of}
use Rattle.qx_nodes.specs.NodeContents.{NodeContent}
use Rattle.qx_records.specs.NameRecord.{long_name_in}

-- the long name at a leaf, or none where the leaf is no block or its length is none of 1 to 510
abbrev pub name_at_leaf : BlockMap → Leaf → Option (List ℕ)
name_at_leaf m (Block b) = long_name_in m.order (m.bytes b)
name_at_leaf m Hole = None
name_at_leaf m Damage = None

-- long name n; none where its leaf is absent or has its first byte past the size
abbrev pub long_name : BlockMap → Root → ℕ → Option (List ℕ)
long_name m longfile n = if nat_lt (n * m.size) longfile.size then name_at_leaf m (leaf_of m longfile n) else None

-- long name n by the content of a Longfile; none where the leaf isn't present or has its first byte past the size
abbrev pub name_in : Order → ℕ → NodeContent → ℕ → Option (List ℕ)
name_in order blocksize c n = if nat_lt (n * blocksize) c.size then (if is_in c.present n then long_name_in order (c.leaves n) else None) else None
