-- The leaves of a node, by the path from its pointers.
use Rattle.std.specs.Prelude.{ℕ, zero, suc, ◌^◌, ◌/◌, ◌%◌, nat_lt, ◌==◌, if◌then◌else◌, slice_index_or}
use Rattle.qx_geom.specs.declared.root.Root.{Root}
use Rattle.qx_geom.specs.Pointer.{absent, ceil_div, per_block}
use Rattle.qx_nodes.specs.BlockMap.{BlockMap, word}

-- how many leaves lie below a node's size, the last one maybe in part
abbrev pub leaves_below : BlockMap → Root → ℕ
leaves_below m node = ceil_div node.size m.size

-- what stands at a leaf: a block, nothing, or a pointer on the way that is no block's number
pub data Leaf : Type 0 where
  Block : ℕ → Leaf
  Hole : Leaf
  Damage : Leaf

-- a pointer, followed by `next` where it leads to a block
abbrev pub followed : BlockMap → ℕ → (ℕ → Leaf) → Leaf
followed m p next = if p == absent then Hole else if nat_lt p m.count then next p else Damage

-- leaf i below a pointer that stands so many levels above the leaves
abbrev pub leaf_under : BlockMap → ℕ → ℕ → ℕ → Leaf
leaf_under m zero p i = followed m p (λ b. Block b)
leaf_under m (suc l) p i = followed m p (λ b. leaf_under m l (word m b (i / per_block m.size ^ l % per_block m.size)) i)

-- leaf i of a node
abbrev pub leaf_of : BlockMap → Root → ℕ → Leaf
leaf_of m node i = leaf_under m node.levels (slice_index_or node.pointers (i / per_block m.size ^ node.levels) absent) i
