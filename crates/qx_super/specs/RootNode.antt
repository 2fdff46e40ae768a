-- A root node: 80 bytes that are a node.
use Rattle.std.specs.Prelude.{◌≡◌, ◌<◌, ◌^◌, ℕ, List, [], ◌∷◌, length, replicate, slice_index, All}
use Rattle.std.specs.List.{concat}
use Rattle.qx_fields.specs.declared.order.Order.{Order}
use Rattle.qx_fields.specs.Number.{digits, all_digits, field, fields}
use Rattle.qx_geom.specs.declared.root.Root.{Root}

-- the node that 80 bytes are
unfoldable pub root_of : Order → List ℕ → Root
root_of order bytes = record { size = field order 8 bytes 0; pointers = fields order 4 16 bytes 8; levels = slice_index bytes 72 }

-- the 80 bytes that a node is written as: size, pointers, levels, and its mode and spare bytes, which are 0
unfoldable pub root_bytes : Order → Root → List ℕ
root_bytes order root = concat (digits order 8 root.size ∷ all_digits order 4 root.pointers ∷ (root.levels ∷ []) ∷ replicate 7 0 ∷ [])

-- a node's numbers fit their bytes, as those of the code do
pub record FitsRoot (root : Root) : Type 0 where
  pub size : root.size < 2 ^ 64
  pub sixteen : length root.pointers ≡ 16
  pub pointers : All (λ pointer. pointer < 2 ^ 32) root.pointers
