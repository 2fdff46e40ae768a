-- The first wrong bit of a bitmap, leaf by leaf.
use Rattle.std.proofs.Common.{◌≡◌, inl, inr, ℕ, ◌+◌, ◌-◌, ◌*◌, ◌/◌, ◌%◌, ◌≤◌, ◌<◌, false, ap, sym, ◌∙◌, arith}
use Rattle.std.specs.Prelude.{None, Some, slice_index}
use Rattle.std.specs.Int.{bit_at}
use Rattle.std.proofs.Math.Nat.{mul-le-mul_right}
use Rattle.std.proofs.lemmas.Bool.{cases_lt}
use Rattle.std.proofs.lemmas.Nat.{div-mul-add, mod-mul-add}
use Rattle.qx_blockset.specs.Members.{Members}
use Rattle.qx_geom.specs.Layout.{first_block}
use Rattle.qx_geom.specs.Lists.{first_below}
use Rattle.qx_geom.specs.declared.area.Which.{Which}
use Rattle.qx_geom.specs.declared.geometry.Geometry.{Geometry}
use Rattle.qx_nodes.specs.BlockMap.{BlockMap}
use Rattle.qx_walk.specs.Bitmaps.{IsFirst, is_wrong, is_wrong_bit, is_wrong_in}
use Rattle.qx_walk.proofs.FirstNumbers.{first_is}

-- a leaf of a bitmap: its number, its block, and the number of its first byte
pub record IsLeafAt (m : BlockMap) (g : Geometry) (which : Which) (leaf block begin : ℕ) : Type 0 where
  pub stands : block ≡ first_block g which + leaf
  pub first : begin ≡ leaf * m.size

module _ (m : BlockMap) (g : Geometry) (which : Which) (met : Members) (leaf place begin : ℕ) (at : IsLeafAt m g which leaf place begin) where
  -- a bit of the leaf is that of the bitmap
  leaf_bit : (b : ℕ) → begin * 8 ≤ b → b < (begin + m.size) * 8 → is_wrong_in g met begin (m.bytes place) b ≡ is_wrong_bit m g which met b
  leaf_bit b low high =
      let q : ℕ = b / 8 - begin in
      let small : q < m.size = omega (arith, low, high) in
      let byte : b / 8 ≡ leaf * m.size + q = omega (arith, low, at.first) in
      let which_leaf : b / 8 / m.size ≡ leaf = ap (λ n. n / m.size) byte ∙ div-mul-add leaf m.size q small in
      let which_byte : b / 8 % m.size ≡ q = ap (λ n. n % m.size) byte ∙ mod-mul-add leaf m.size q small in
      let stands : place ≡ first_block g which + b / 8 / m.size = at.stands ∙ ap (λ n. first_block g which + n) (sym which_leaf) in
      λ i. is_wrong g met b (bit_at (slice_index (m.bytes (stands i)) (sym which_byte i)) (b % 8))

  -- right so far, and in this leaf
  pub leaf_right : ((b : ℕ) → b < leaf * m.size * 8 → is_wrong_bit m g which met b ≡ false) → IsFirst (is_wrong_in g met begin (m.bytes place)) (begin * 8) ((begin + m.size) * 8) None
      → (b : ℕ) → b < (leaf + 1) * m.size * 8 → is_wrong_bit m g which met b ≡ false
  leaf_right so_far none b high = elim (cases_lt b (begin * 8)) [
    | inl before ↦ so_far b (omega (arith, before, ap (λ n. n * 8) at.first))
    | inr here ↦
        let end : (leaf + 1) * m.size ≡ leaf * m.size + m.size = omega arith in
        let low : b < (begin + m.size) * 8 = omega (arith, high, at.first, ap (λ n. n * 8) end) in
        sym (leaf_bit b here low) ∙ none b here low
  ]

  -- right so far, and wrong in this leaf
  pub leaf_wrong : (leaves found : ℕ) → leaf < leaves → ((b : ℕ) → b < leaf * m.size * 8 → is_wrong_bit m g which met b ≡ false) → IsFirst (is_wrong_in g met begin (m.bytes place)) (begin * 8) ((begin + m.size) * 8) (Some found)
      → Some found ≡ first_below (is_wrong_bit m g which met) (leaves * m.size * 8)
  leaf_wrong leaves found low so_far h =
      let end : (leaf + 1) * m.size ≡ leaf * m.size + m.size = omega arith in
      let within : (leaf + 1) * m.size ≤ leaves * m.size = mul-le-mul_right m.size (let up : leaf + 1 ≤ leaves = omega (arith, low) in up) in
      first_is (is_wrong_bit m g which met) (leaves * m.size * 8) (Some found) (
        omega arith,
        omega (arith, h.1, at.first, end, within),
        sym (leaf_bit found h.0 h.1) ∙ h.2,
        λ b from to. elim (cases_lt b (begin * 8)) [
          | inl before ↦ so_far b (omega (arith, before, at.first))
          | inr here ↦ sym (leaf_bit b here (omega (arith, to, h.1))) ∙ h.3 b here to
        ],
      )
