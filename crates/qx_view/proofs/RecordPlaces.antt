-- Where a record of a directory stands: its leaf, and its place there.
use Rattle.std.proofs.Common.{◌≡◌, ℕ, ◌+◌, ◌*◌, ◌/◌, ◌%◌, ◌<◌, ap, sym, ◌∙◌, arith}
use Rattle.std.specs.Prelude.{slice_range}
use Rattle.std.proofs.lemmas.Nat.{div-add-mod', div-mul-add, mod-mul-add}
use Rattle.std.proofs.Math.Nat.{add-mul, mod-lt, mul_assoc}
use Rattle.qx_geom.specs.declared.root.Root.{Root}
use Rattle.qx_nodes.specs.BlockMap.{BlockMap}
use Rattle.qx_nodes.specs.Content.{leaf_bytes}
use Rattle.qx_records.specs.NameRecord.{raw_in}
use Rattle.qx_records.specs.Slots.{record_at}
use Rattle.qx_view.proofs.TreeLocality.{record_below}
use Rattle.qx_view.specs.Images.{raw_of}

-- where the record at a place of a leaf begins
begins_at : (size leaf place : ℕ) → size % 32 ≡ 0 → (leaf * (size / 32) + place) * 32 ≡ leaf * size + place * 32
begins_at size leaf place whole =
    let parts : size ≡ size / 32 * 32 = omega (arith, div-add-mod' size 32) in
    add-mul (leaf * (size / 32)) place 32 ∙ ap (λ z. z + place * 32) (mul_assoc leaf (size / 32) 32 ∙ ap (λ z. leaf * z) (sym parts))

module _ (size leaf place : ℕ) (whole : size % 32 ≡ 0) (low : place < size / 32) where
  -- the leaf of the record of this number
  pub leaf_is : (leaf * (size / 32) + place) * 32 / size ≡ leaf
  leaf_is = ap (λ z. z / size) (begins_at size leaf place whole) ∙ div-mul-add leaf size (place * 32) (record_below place size low)

  -- and where it begins there
  pub place_is : (leaf * (size / 32) + place) * 32 % size ≡ place * 32
  place_is = ap (λ z. z % size) (begins_at size leaf place whole) ∙ mod-mul-add leaf size (place * 32) (record_below place size low)

-- the record of this number is the one at this place of its leaf
pub placed_record : (m : BlockMap) (node : Root) (leaf place : ℕ) → m.size % 32 ≡ 0 → place < m.size / 32 → raw_of m node (leaf * (m.size / 32) + place) ≡ (record_at m.order (leaf_bytes m node leaf) place).raw
placed_record m node leaf place whole low =
    let begin : ℕ = (leaf * (m.size / 32) + place) * 32 in
    ap (λ z. raw_in m.order (slice_range (leaf_bytes m node z) (begin % m.size) (begin % m.size + 32))) (leaf_is m.size leaf place whole low)
    ∙ ap (λ z. raw_in m.order (slice_range (leaf_bytes m node leaf) z (z + 32))) (place_is m.size leaf place whole low)

-- a record's leaf and its place there, by its number
pub numbered_record : (m : BlockMap) (node : Root) (k : ℕ) → m.size % 32 ≡ 0 → 0 < m.size → raw_of m node k ≡ (record_at m.order (leaf_bytes m node (k / (m.size / 32))) (k % (m.size / 32))).raw
numbered_record m node k whole some =
    let room : 0 < m.size / 32 = omega (arith, whole, some, div-add-mod' m.size 32) in
    ap (raw_of m node) (sym (div-add-mod' k (m.size / 32))) ∙ placed_record m node (k / (m.size / 32)) (k % (m.size / 32)) whole (mod-lt k room)
