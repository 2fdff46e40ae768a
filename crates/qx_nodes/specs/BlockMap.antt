-- Blocks: what a pointer speaks of.
use Rattle.std.specs.Prelude.{ℕ, ◌*◌, List}
use Rattle.qx_fields.specs.declared.order.Order.{Order}
use Rattle.qx_fields.specs.Number.{field}

-- the blocks that pointers speak of: the order of their numbers, their size and number, and the bytes of each
pub record BlockMap : Type 0 where
  pub order : Order
  pub size : ℕ
  pub count : ℕ
  pub bytes : ℕ → List ℕ

-- the same blocks with other bytes
abbrev pub with_bytes : BlockMap → (ℕ → List ℕ) → BlockMap
with_bytes m bytes = record m { bytes = bytes }

-- word w of block b as a pointer block
abbrev pub word : BlockMap → ℕ → ℕ → ℕ
word m b w = field m.order 4 (m.bytes b) (4 * w)
