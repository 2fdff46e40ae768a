-- How many pointers a block has, and how many leaves so many levels reach.
use Rattle.std.proofs.Common.{ℕ, ◌^◌, ◌<◌, ◌≤◌, arith, lit<}
use Rattle.std.proofs.Math.Nat.{pow-le-pow_right, pow-le-pow_left, one-le-pow}
use Rattle.qx_geom.specs.Pointer.{per_block}
use Rattle.qx_blocks.specs.BlockState.{IsBlockSize}

-- a block has from 128 to 1024 pointers
pub words_bounds : (size : ℕ) → IsBlockSize size → (128 ≤ per_block size) × (per_block size ≤ 1024)
words_bounds size is = (grind arith, grind arith)

-- some, that is
pub words_positive : (size : ℕ) → IsBlockSize size → 0 < per_block size
words_positive size is = omega (arith, (words_bounds size is).0)

-- a block has bytes
pub size_positive : (size : ℕ) → IsBlockSize size → 0 < size
size_positive size is = omega (arith, words_positive size is)

-- what five levels reach is a number of 64 bits
pub power_fits : (size l : ℕ) → IsBlockSize size → l ≤ 5 → per_block size ^ l < 2 ^ 64
power_fits size l is low =
    let most : per_block size ^ l ≤ 1024 ^ l = pow-le-pow_left (words_bounds size is).1 l in
    let five : 1024 ^ l ≤ 1024 ^ 5 = pow-le-pow_right {n = 1024} (lit< tt) low in
    omega arith

-- a block has leaves below it
pub power_positive : (size l : ℕ) → IsBlockSize size → 0 < per_block size ^ l
power_positive size l is = one-le-pow l (per_block size) (words_positive size is)
