-- What a node holds, apart from where its blocks stand.
use Rattle.std.specs.Prelude.{◌≡◌, ℕ, ◌/◌, ◌%◌, ◌<◌, List, slice_index}
use Rattle.qx_geom.specs.declared.root.Root.{Root}
use Rattle.qx_geom.specs.Lists.{each_below}
use Rattle.qx_geom.specs.Pointer.{ceil_div}
use Rattle.qx_nodes.specs.BlockMap.{BlockMap}
use Rattle.qx_nodes.specs.Content.{leaf_bytes}
use Rattle.qx_nodes.specs.Visits.{present_of}

-- a node's size in bytes, the numbers of its present leaves in ascending order, and the bytes of each leaf, 0 in a hole
pub record NodeContent : Type 0 where
  pub size : ℕ
  pub present : List ℕ
  pub leaves : ℕ → List ℕ

-- that of a node over blocks
abbrev pub node_content : BlockMap → Root → NodeContent
node_content m node = record { size = node.size; present = present_of m node; leaves = leaf_bytes m node }

-- all the bytes of a content
abbrev pub bytes_in : ℕ → NodeContent → List ℕ
bytes_in blocksize c = each_below c.size (λ k. slice_index (c.leaves (k / blocksize)) (k % blocksize))

-- two contents are the same, as far as the leaves go that lie below the size
pub record IsSameContent (blocksize : ℕ) (a b : NodeContent) : Type 0 where
  pub size : b.size ≡ a.size
  pub present : b.present ≡ a.present
  pub leaves : (i : ℕ) → i < ceil_div a.size blocksize → b.leaves i ≡ a.leaves i
