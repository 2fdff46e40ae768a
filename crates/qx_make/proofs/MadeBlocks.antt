-- The blocks of a new volume on the device: each has its length, and stands at its place.
use Rattle.std.proofs.Common.{◌≡◌, ℕ, zero, suc, ◌+◌, ◌-◌, ◌*◌, ◌≤◌, ◌<◌, List, ◌++◌, length, refl, ap, ◌∙◌, arith}
use Rattle.std.specs.Prelude.{slice_index, slice_range, flat_map}
use Rattle.std.specs.List.{range_with_len}
use Rattle.std.proofs.lemmas.List.{ext_get_or, get_or-append_right, get_or_append_left}
use Rattle.std.proofs.lemmas.Nat.{mul-le}
use Rattle.qx_bytes.proofs.Puts.{byte_put_within}
use Rattle.qx_fields.specs.declared.order.Order.{Order}
use Rattle.qx_geom.specs.declared.area.Which.TheVariants.{Second}
use Rattle.qx_geom.specs.declared.geometry.Geometry.{Geometry}
use Rattle.qx_geom.specs.Layout.{IsGeometry, area_place}
use Rattle.qx_geom.proofs.VolumeNumbers.{IsGeometry-keeps}
use Rattle.qx_make.specs.Blocks.{made_block_bytes, top_block}
use Rattle.qx_make.specs.Stages.{all_block_bytes, with_blocks}
use Rattle.qx_make.proofs.MadeBlockLengths.{length-made_block}
use Rattle.qx_system.proofs.PartsInOrder.{length-parts}
use Rattle.qx_make.proofs.BytesAt.{HasSame, byte_of_range, length-range}

-- ---- parts of one length

module _ (f : ℕ → List ℕ) (size : ℕ) (each : (k : ℕ) → length (f k) ≡ size) where
  -- byte j of part i
  pub byte_of_part : (n a i j : ℕ) → i < n → j < size → slice_index (flat_map f (range_with_len a n)) (i * size + j) ≡ slice_index (f (a + i)) j
  byte_of_part zero a i j within below = absurd (omega arith)
  byte_of_part (suc n) a zero j within below =
      let rest = flat_map f (range_with_len (a + 1) n) in
      let here : zero * size + j ≡ j = omega arith in
      let same : a ≡ a + zero = omega arith in
      ap (λ (k : ℕ). slice_index (f a ++ rest) k) here ∙ get_or_append_left (f a) rest 0 j (omega (arith, each a)) ∙ ap (λ (k : ℕ). slice_index (f k) j) same
  byte_of_part (suc n) a (suc i) j within below =
      let rest = flat_map f (range_with_len (a + 1) n) in
      let behind : suc i * size + j - size ≡ i * size + j = omega arith in
      let next : a + 1 + i ≡ a + suc i = omega arith in
      get_or-append_right (f a) rest size (suc i * size + j) 0 (each a) (omega arith)
      ∙ ap (λ (k : ℕ). slice_index rest k) behind ∙ byte_of_part n (a + 1) i j (omega arith) below ∙ ap (λ (k : ℕ). slice_index (f k) j) next

-- ---- all blocks

module _ (g : Geometry) (e : IsGeometry g) (order : Order) (moment : ℕ) where
  -- their length
  pub length-all_blocks : length (all_block_bytes g order moment) ≡ (top_block g + 1) * g.blocksize
  unfolding all_block_bytes
  length-all_blocks = length-parts (made_block_bytes g order moment) g.blocksize (length-made_block g e order moment) (top_block g + 1) 0

  -- a byte of a block among them
  byte_of_block : (b j : ℕ) → b ≤ top_block g → j < g.blocksize → slice_index (all_block_bytes g order moment) (b * g.blocksize + j) ≡ slice_index (made_block_bytes g order moment b) j
  unfolding all_block_bytes
  byte_of_block b j within below = byte_of_part (made_block_bytes g order moment) g.blocksize (length-made_block g e order moment) (top_block g + 1) 0 b j (omega arith) below ∙ ap (λ (k : ℕ). slice_index (made_block_bytes g order moment k) j) (let z : 0 + b ≡ b = omega arith in z)

  -- they end before the second area
  pub blocks-room : 0x3000 + length (all_block_bytes g order moment) ≤ area_place g Second
  blocks-room =
      let v = IsGeometry-keeps g e in
      let few : (top_block g + 1) * g.blocksize ≤ g.num_blocks * g.blocksize = mul-le (top_block g + 1) g.blocksize g.num_blocks g.blocksize (omega (arith, v.room)) (omega arith) in
      omega (arith, length-all_blocks)

  -- a device has them at their places
  pub record HasBlocks (img : List ℕ) : Type 0 where
    pub each : (b j : ℕ) → b ≤ top_block g → j < g.blocksize → slice_index img (0x3000 + b * g.blocksize + j) ≡ slice_index (made_block_bytes g order moment b) j

  -- once they are put
  pub HasBlocks-put : (bytes : List ℕ) → 0x3000 ≤ length bytes → HasBlocks (with_blocks g order moment bytes)
  HasBlocks-put bytes room = record {
    each = λ b j within below.
        let all = all_block_bytes g order moment in
        let here : b * g.blocksize + j < (top_block g + 1) * g.blocksize = let up : (b + 1) * g.blocksize ≤ (top_block g + 1) * g.blocksize = mul-le (b + 1) g.blocksize (top_block g + 1) g.blocksize (omega arith) (omega arith) in omega arith in
        let from : 0x3000 + b * g.blocksize + j - 0x3000 ≡ b * g.blocksize + j = omega arith in
        byte_put_within bytes all 0x3000 (length all) (0x3000 + b * g.blocksize + j) refl (omega arith) (omega (arith, length-all_blocks)) room
        ∙ ap (λ (k : ℕ). slice_index all k) from ∙ byte_of_block b j within below;
  }

  -- so has a device with the same bytes there
  pub HasBlocks-same : (img bytes : List ℕ) → HasSame img bytes 0x3000 (area_place g Second) → HasBlocks bytes → HasBlocks img
  HasBlocks-same img bytes same has = record {
    each = λ b j within below.
        let up : (b + 1) * g.blocksize ≤ (top_block g + 1) * g.blocksize = mul-le (b + 1) g.blocksize (top_block g + 1) g.blocksize (omega arith) (omega arith) in
        same.each (0x3000 + b * g.blocksize + j) (omega arith) (omega (arith, blocks-room, length-all_blocks)) ∙ has.each b j within below;
  }

  -- each block's bytes
  pub block_bytes-made : (img : List ℕ) → area_place g Second ≤ length img → HasBlocks img → (b : ℕ) → b ≤ top_block g
      → slice_range img (0x3000 + b * g.blocksize) (0x3000 + b * g.blocksize + g.blocksize) ≡ made_block_bytes g order moment b
  block_bytes-made img room has b within =
      let from = 0x3000 + b * g.blocksize in
      let up : (b + 1) * g.blocksize ≤ (top_block g + 1) * g.blocksize = mul-le (b + 1) g.blocksize (top_block g + 1) g.blocksize (omega arith) (omega arith) in
      let long : length (slice_range img from (from + g.blocksize)) ≡ from + g.blocksize - from = length-range img from (from + g.blocksize) (omega (arith, blocks-room, length-all_blocks)) in
      ext_get_or 0 (slice_range img from (from + g.blocksize)) (made_block_bytes g order moment b) (omega (arith, length-made_block g e order moment b)) (λ j below.
      byte_of_range img from (from + g.blocksize) j (omega arith) ∙ has.each b j within (omega arith))
