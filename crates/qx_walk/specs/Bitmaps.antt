-- What the bits of a bitmap must be, by the blocks that were met.
use Rattle.std.specs.Prelude.{◌≡◌, ◌+◌, ◌-◌, ◌/◌, ◌%◌, ◌<◌, ◌≤◌, ◌==◌, not, ℕ, Bool, true, false, List, Option, Some, None, if◌then◌else◌, slice_index}
use Rattle.std.specs.Int.{bit_at}
use Rattle.qx_blockset.specs.Members.{Members, has}
use Rattle.qx_geom.specs.declared.area.Which.{Which}
use Rattle.qx_geom.specs.declared.geometry.Geometry.{Geometry}
use Rattle.qx_geom.specs.Layout.{first_block}
use Rattle.qx_nodes.specs.BlockMap.{BlockMap}
use Rattle.qx_system.specs.SystemBytes.{is_taken}

-- a bit isn't as it must be
abbrev pub is_wrong : Geometry → Members → ℕ → ℕ → Bool
is_wrong g met b bit = not (bit == (if is_taken g (has met) b then 1 else 0))

-- nor is bit b of the bitmap of an area's half
abbrev pub is_wrong_bit : BlockMap → Geometry → Which → Members → ℕ → Bool
is_wrong_bit m g which met b = is_wrong g met b (bit_at (slice_index (m.bytes (first_block g which + b / 8 / m.size)) (b / 8 % m.size)) (b % 8))

-- nor is bit b of a bitmap whose bytes from `begin` on these are
abbrev pub is_wrong_in : Geometry → Members → ℕ → List ℕ → ℕ → Bool
is_wrong_in g met begin bytes b = is_wrong g met b (bit_at (slice_index bytes (b / 8 - begin)) (b % 8))

-- the least number from `from` on and below `to` that passes the test
abbrev pub IsFirst : (ℕ → Bool) → ℕ → ℕ → Option ℕ → Type 0
IsFirst test from to None = (b : ℕ) → from ≤ b → b < to → test b ≡ false
IsFirst test from to (Some at) = (from ≤ at) × (at < to) × (test at ≡ true) × ((b : ℕ) → from ≤ b → b < at → test b ≡ false)
