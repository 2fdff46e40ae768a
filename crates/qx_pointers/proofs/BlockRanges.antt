-- Bytes that are read at once, as those of blocks.
use Rattle.std.proofs.Common.{◌≡◌, ℕ, ◌+◌, ◌-◌, ◌*◌, ◌≤◌, List, length, take, drop, sym, ◌∙◌, ap, subst, arith}
use Rattle.std.specs.Prelude.{IsTrue, slice_range}
use Rattle.std.proofs.lemmas.List.{drop-drop, drop-take, take-take}
use Rattle.std.proofs.Math.Nat.{add-mul}
use Rattle.qx_geom.specs.Layout.{blocks_begin}
use Rattle.qx_nodes.specs.BlockMap.{BlockMap}
use Rattle.qx_outside.specs.Calls.{Idles}
use Rattle.qx_outside.specs.Outside.{Outside}
use Rattle.qx_outside.specs.Trail.{bytes_of}
use Rattle.qx_pointers.specs.declared.source.Shape.{Shape}
use Rattle.qx_pointers.specs.Shown.{HasBlocks, Shows}

-- ---- ranges

-- a range of a range
pub range_within : (bytes : List ℕ) (at size r n : ℕ) → r + n ≤ size → slice_range (slice_range bytes at (at + size)) r (r + n) ≡ slice_range bytes (at + r) (at + r + n)
range_within bytes at size r n room =
    let wide : at + size - at ≡ r + (size - r) = omega arith in
    let part : r + n - r ≡ n = omega arith in
    let same : n ≡ at + r + n - (at + r) = omega arith in
    let few : n ≤ size - r = omega arith in
    ap (λ k. take k (drop r (take (at + size - at) (drop at bytes)))) part
    ∙ ap (λ k. take n (drop r (take k (drop at bytes)))) wide
    ∙ ap (λ l. take n l) (drop-take r (size - r) (drop at bytes))
    ∙ take-take n (size - r) (drop r (drop at bytes)) few
    ∙ ap (λ l. take n l) (drop-drop r at bytes)
    ∙ ap (λ k. take k (drop (at + r) bytes)) same

-- the end of a range
range_end : (bytes : List ℕ) (at size r n : ℕ) → r + n ≡ size → drop r (slice_range bytes at (at + size)) ≡ slice_range bytes (at + r) (at + r + n)
range_end bytes at size r n is =
    let wide : at + size - at ≡ r + n = omega (arith, is) in
    let same : n ≡ at + r + n - (at + r) = omega arith in
    ap (λ k. drop r (take k (drop at bytes))) wide
    ∙ drop-take r n (drop at bytes)
    ∙ ap (λ l. take n l) (drop-drop r at bytes)
    ∙ ap (λ k. take k (drop (at + r) bytes)) same

-- ---- blocks

module _ (shape : Shape) (old new : Outside) (m : BlockMap) where
  -- bytes that were read from one of a block's on
  pub block_end : (block at from n : ℕ) (read : List ℕ) → Shows shape new m → Idles old new → at ≡ blocks_begin + block * shape.blocksize → from + n ≡ shape.blocksize
      → (IsTrue new.tells → read ≡ slice_range (bytes_of old.history) (at + from) (at + from + n)) → read ≡ drop from (m.bytes block)
  block_end block at from n read s idle place is e =
      let img : List ℕ = bytes_of new.history in
      let same : bytes_of old.history ≡ img = ap bytes_of (sym (idle.step s.told)) in
      e s.told ∙ ap (λ l. slice_range l (at + from) (at + from + n)) same ∙ sym (range_end img at shape.blocksize from n is)
      ∙ ap (λ k. drop from (slice_range img k (k + shape.blocksize))) place ∙ sym (ap (λ (b : BlockMap). drop from (b.bytes block)) s.is)

  -- bytes that were read from a block's first on
  pub blocks_side : (first at n : ℕ) (read : List ℕ) → Shows shape new m → Idles old new → at ≡ blocks_begin + first * shape.blocksize → length read ≡ n
      → (IsTrue new.tells → read ≡ slice_range (bytes_of old.history) at (at + n)) → HasBlocks m first read
  blocks_side first at n read s idle place long e = subst (λ b. HasBlocks b first read) (sym s.is) (record {
    each = λ k room.
        let size : ℕ = shape.blocksize in
        let img : List ℕ = bytes_of new.history in
        let same : bytes_of old.history ≡ img = ap bytes_of (sym (idle.step s.told)) in
        let begins : at + k * size ≡ blocks_begin + (first + k) * size = omega (arith, place, add-mul first k size) in
        ap (λ l. slice_range l (k * size) (k * size + size)) (e s.told ∙ ap (λ l. slice_range l at (at + n)) same)
        ∙ range_within img at n (k * size) size (omega (arith, room, long))
        ∙ ap (λ z. slice_range img z (z + size)) begins;
  })
