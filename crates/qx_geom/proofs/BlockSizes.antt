-- What is known of the four block sizes.
use Rattle.std.proofs.Common.{◌≡◌, ℕ, ◌^◌, ◌<◌, ◌≤◌, true, ◌==◌, eqb-true, ⊎_elim, arith, refl}
use Rattle.std.proofs.lemmas.Bool.{or_cases}
use Rattle.std.proofs.Math.Nat.{pow-le-pow_left, pow-le-pow_right, one-le-pow}
use Rattle.qx_geom.specs.Layout.{is_block_size}
use Rattle.qx_geom.specs.Pointer.{per_block, reach}

-- the bounds of a block size and of its pointers
pub record BlockSizeBounds (b : ℕ) : Type 0 where
  pub size_from : 512 ≤ b
  pub size_to : b ≤ 4096
  pub pointers_from : 128 ≤ per_block b
  pub pointers_to : per_block b ≤ 1024

-- a number between those bounds keeps them
bounds_at : (b n : ℕ) → 512 ≤ n → n ≤ 4096 → (b == n) ≡ true → BlockSizeBounds b
bounds_at b n from to t =
    let e : b ≡ n = eqb-true b n t in
    record { size_from = omega arith; size_to = omega arith; pointers_from = omega arith; pointers_to = omega arith }

-- each of the four keeps them
pub block_size-bounds : (b : ℕ) → is_block_size b ≡ true → BlockSizeBounds b
block_size-bounds b t =
    ⊎_elim (λ t'. ⊎_elim (λ t''. ⊎_elim (bounds_at b 512 (omega arith) (omega arith)) (bounds_at b 1024 (omega arith) (omega arith)) (or_cases _ _ t''))
    (bounds_at b 2048 (omega arith) (omega arith)) (or_cases _ _ t')) (bounds_at b 4096 (omega arith) (omega arith)) (or_cases _ _ t)

-- two levels reach the leaves of a half
pub reach-two : (b n : ℕ) → is_block_size b ≡ true → n ≤ 2 ^ 18 → n ≤ reach b 2
reach-two b n t few =
    let bounds = block_size-bounds b t in
    let more : 128 ^ 2 ≤ per_block b ^ 2 = pow-le-pow_left bounds.pointers_from 2 in
    let least : 128 ^ 2 ≡ 16384 = refl in
    omega arith

-- a power of the pointers of a block is no 0
pub power_pos : (b k : ℕ) → is_block_size b ≡ true → 0 < per_block b ^ k
power_pos b k t = let bounds = block_size-bounds b t in one-le-pow k (per_block b) (omega arith)

-- and that of two levels fits a number of 32 bits
pub power-fits : (b k : ℕ) → is_block_size b ≡ true → k ≤ 2 → per_block b ^ k < 2 ^ 32
power-fits b k t few =
    let bounds = block_size-bounds b t in
    let base : per_block b ^ k ≤ 1024 ^ k = pow-le-pow_left bounds.pointers_to k in
    let power : 1024 ^ k ≤ 1024 ^ 2 = pow-le-pow_right (omega arith) few in
    omega arith
