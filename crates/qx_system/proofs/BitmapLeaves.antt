-- Leaves of a bitmap that are filled at once.
use Rattle.std.proofs.Common.{◌≡◌, ℕ, ◌+◌, ◌*◌, ◌^◌, ◌≤◌, ◌<◌, Bool, List, length, get_or, replicate, ap, sym, ◌∙◌, subst, arith}
use Rattle.std.specs.Prelude.{◌==◌, ◌||◌, nat_le}
use Rattle.std.specs.Int.{bit_at}
use Rattle.std.proofs.Math.Bool.{or-false}
use Rattle.std.proofs.Math.Nat.{mul-le-mul_right}
use Rattle.std.proofs.lemmas.Bool.{le-ltb, lt-leb}
use Rattle.std.proofs.lemmas.List.{get_or-replicate, length-replicate}
use Rattle.std.proofs.lemmas.List.FromFn.{fill_by_all}
use Rattle.qx_geom.specs.declared.geometry.Geometry.{Geometry}
use Rattle.qx_geom.specs.Layout.{IsGeometry}
use Rattle.qx_geom.proofs.BlockSizes.{block_size-bounds}
use Rattle.qx_geom.proofs.VolumeNumbers.{IsGeometry-keeps}
use Rattle.qx_system.specs.SystemBytes.{HasBits, bitmap_byte, bitmap_leaf_bytes, is_taken}
use Rattle.qx_system.proofs.TakenBits.{byte_from_bits, halves_taken}

-- the last byte of a leaf has a low place
pub leaf_low : (g : Geometry) → IsGeometry g → (leaf : ℕ) → leaf < g.bitmap_leaves → leaf * g.blocksize + g.blocksize ≤ 2 ^ 30
leaf_low g e leaf within =
    let v = IsGeometry-keeps g e in
    let bounds = block_size-bounds g.blocksize v.block_size in
    let before : (leaf + 1) * g.blocksize ≤ g.bitmap_leaves * g.blocksize = mul-le-mul_right g.blocksize (let up : leaf + 1 ≤ g.bitmap_leaves = omega (arith, within) in up) in
    let most : g.bitmap_leaves * g.blocksize ≤ 2 ^ 18 * g.blocksize = mul-le-mul_right g.blocksize v.bitmap_leaves_to in
    omega (arith, before, most, bounds.size_to)

module _ (g : Geometry) (held : ℕ → Bool) (leaf : ℕ) where
  -- bytes with the bits of the leaf are the leaf's
  pub leaf_by_bits : (bytes : List ℕ) → length bytes ≡ g.blocksize → ((k : ℕ) → k < g.blocksize → get_or bytes k 0 < 2 ^ 8)
      → ((k : ℕ) → k < g.blocksize → HasBits g held (leaf * g.blocksize + k) (get_or bytes k 0)) → bytes ≡ bitmap_leaf_bytes g held leaf
  unfolding bitmap_byte bitmap_leaf_bytes
  leaf_by_bits bytes long small bits =
      fill_by_all (λ (k : ℕ). bitmap_byte g held (leaf * g.blocksize + k)) bytes g.blocksize 0 long (λ k low.
      byte_from_bits (λ (j : ℕ). is_taken g held ((leaf * g.blocksize + k) * 8 + j)) (get_or bytes k 0) (small k low) (bits k low))

  -- below the end of both halves all are 1
  pub halves_leaf : (leaf * g.blocksize + g.blocksize) * 8 ≤ 2 * g.half → replicate g.blocksize 255 ≡ bitmap_leaf_bytes g held leaf
  halves_leaf below =
      leaf_by_bits (replicate g.blocksize 255) (length-replicate g.blocksize 255)
      (λ k low. omega (arith, get_or-replicate {A = ℕ} g.blocksize k 255 0 low))
      (λ k low. subst (λ (byte : ℕ). HasBits g held (leaf * g.blocksize + k) byte) (sym (get_or-replicate g.blocksize k 255 0 low))
      (halves_taken g held (leaf * g.blocksize + k) (omega (arith, below, low))))

  -- from there to the last block the holder has them
  own_bit : (b : ℕ) → 2 * g.half ≤ b → b < g.num_blocks → held b ≡ is_taken g held b
  own_bit b from to =
      sym (ap (λ x. x || (held b || nat_le g.num_blocks b)) (le-ltb b (2 * g.half) from)
      ∙ ap (λ x. held b || x) (lt-leb g.num_blocks b to)
      ∙ or-false (held b))

  pub own_leaf : (bytes : List ℕ) → length bytes ≡ g.blocksize → 2 * g.half ≤ leaf * g.blocksize * 8 → (leaf * g.blocksize + g.blocksize) * 8 ≤ g.num_blocks
      → ((k : ℕ) → k < g.blocksize → get_or bytes k 0 < 2 ^ 8)
      → ((i k : ℕ) → i < g.blocksize → k < 8 → (bit_at (get_or bytes i 0) k == 1) ≡ held ((leaf * g.blocksize + i) * 8 + k))
      → bytes ≡ bitmap_leaf_bytes g held leaf
  own_leaf bytes long from to small bits =
      leaf_by_bits bytes long small (λ i within k low.
      bits i k within low ∙ own_bit ((leaf * g.blocksize + i) * 8 + k) (omega (arith, from)) (omega (arith, to, within, low)))
