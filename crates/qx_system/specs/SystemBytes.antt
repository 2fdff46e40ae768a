-- The bytes of system blocks.
use Rattle.std.specs.Prelude.{◌≡◌, ℕ, ◌+◌, ◌*◌, ◌^◌, ◌<◌, ◌==◌, ◌||◌, Bool, List, flat_map, sum_by, nat_le, nat_lt, if◌then◌else◌}
use Rattle.std.specs.List.{range_with_len}
use Rattle.std.specs.Int.{bit_at}
use Rattle.qx_fields.specs.declared.order.Order.{Order}
use Rattle.qx_fields.specs.Number.{digits}
use Rattle.qx_geom.specs.declared.area.Which.{Which}
use Rattle.qx_geom.specs.declared.geometry.Geometry.{Geometry}
use Rattle.qx_geom.specs.declared.system.SystemTree.{SystemTree}
use Rattle.qx_geom.specs.Layout.{system_word_of}
use Rattle.qx_geom.specs.Lists.{each_below}
use Rattle.qx_geom.specs.Pointer.{per_block}
use Rattle.qx_system.specs.declared.held.OneBlock.{OneBlock}

-- ---- the bitmap, where these blocks are held

-- bit b is 1: for both halves, for blocks that are held, and past the last block
abbrev pub is_taken : Geometry → (ℕ → Bool) → ℕ → Bool
is_taken g held b = nat_lt b (2 * g.half) || (held b || nat_le g.num_blocks b)

-- the byte whose bits these tests give, the lowest first
abbrev pub byte_of_bits : (ℕ → Bool) → ℕ
byte_of_bits test = sum_by (λ j. if test j then 2 ^ j else 0) (range_with_len 0 8)

-- byte k of the bitmap, to the end of its last leaf
unfoldable pub bitmap_byte : Geometry → (ℕ → Bool) → ℕ → ℕ
bitmap_byte g held k = byte_of_bits (λ j. is_taken g held (k * 8 + j))

-- a byte has the bits of byte k
abbrev pub HasBits : Geometry → (ℕ → Bool) → ℕ → ℕ → Type 0
HasBits g held k byte = (j : ℕ) → j < 8 → (bit_at byte j == 1) ≡ is_taken g held (k * 8 + j)

-- leaf i of the bitmap
unfoldable pub bitmap_leaf_bytes : Geometry → (ℕ → Bool) → ℕ → List ℕ
bitmap_leaf_bytes g held i = each_below g.blocksize (λ k. bitmap_byte g held (i * g.blocksize + k))

-- one block alone is held
abbrev pub is_one : OneBlock → ℕ → Bool
is_one one b = one.number == b

-- ---- pointer blocks

-- a pointer block of an area's Bitmap or Inode tree
unfoldable pub pointer_block_bytes : Geometry → Order → Which → SystemTree → ℕ → List ℕ
pointer_block_bytes g order which tree b = flat_map (λ w. digits order 4 (system_word_of g which tree b w)) (range_with_len 0 (per_block g.blocksize))
