-- A piece within a leaf is a part of the content.
use Rattle.std.proofs.Common.{◌≡◌, ℕ, ◌+◌, ◌-◌, ◌*◌, ◌/◌, ◌%◌, ◌<◌, ◌≤◌, List, length, drop, sym, ◌∙◌, ap, arith, length-take-le}
use Rattle.std.specs.Prelude.{slice_index, slice_range}
use Rattle.std.proofs.lemmas.List.{ext_get_or, get_or-drop, get_or-take, length-drop}
use Rattle.std.proofs.lemmas.List.FromFn.{get_or-map-range_with_len, length-map-range_with_len}
use Rattle.std.proofs.lemmas.Nat.{div-add-mod', div-mul-add}
use Rattle.qx_geom.specs.declared.root.Root.{Root}
use Rattle.qx_nodes.specs.BlockMap.{BlockMap}
use Rattle.qx_nodes.specs.Content.{byte_of, content_of, leaf_bytes, piece_of}

-- so many elements from a place on, where the list has them
length_piece : (xs : List ℕ) (at count : ℕ) → at + count ≤ length xs → length (slice_range xs at (at + count)) ≡ count
length_piece xs at count room = omega (arith, length-take-le {A = ℕ} (at + count - at) (drop at xs) (omega (arith, length-drop at xs)))

-- element i of them
piece_at : (xs : List ℕ) (at count i : ℕ) → i < count → slice_index (slice_range xs at (at + count)) i ≡ slice_index xs (at + i)
piece_at xs at count i low = get_or-take (at + count - at) (drop at xs) i 0 (omega arith) ∙ get_or-drop at xs i 0

-- a piece is a part of the content, where the block has its bytes
pub piece_in_content : (m : BlockMap) (node : Root) (at count : ℕ) → at + count ≤ node.size → at % m.size + count ≤ m.size → m.size ≤ length (leaf_bytes m node (at / m.size))
    → piece_of m node at count ≡ slice_range (content_of m node) at (at + count)
piece_in_content m node at count below within long =
    let all : length (content_of m node) ≡ node.size = length-map-range_with_len (λ k. byte_of m node k) 0 node.size in
    let left : length (piece_of m node at count) ≡ count = length_piece (leaf_bytes m node (at / m.size)) (at % m.size) count (omega (arith, long, within)) in
    let right : length (slice_range (content_of m node) at (at + count)) ≡ count = length_piece (content_of m node) at count (omega (arith, all, below)) in
    ext_get_or 0 (piece_of m node at count) (slice_range (content_of m node) at (at + count)) (left ∙ sym right) (λ i h.
    let low : i < count = omega (arith, h, left) in
    piece_at (leaf_bytes m node (at / m.size)) (at % m.size) count i low ∙ same i low ∙ sym (piece_at (content_of m node) at count i low))
  where
    same : (i : ℕ) → i < count → slice_index (leaf_bytes m node (at / m.size)) (at % m.size + i) ≡ slice_index (content_of m node) (at + i)
    same i low =
        let is : at + i ≡ at / m.size * m.size + (at % m.size + i) = omega (arith, div-add-mod' at m.size) in
        let leaf : (at + i) / m.size ≡ at / m.size = ap (λ k. k / m.size) is ∙ div-mul-add (at / m.size) m.size (at % m.size + i) (omega (arith, low, within)) in
        let again : (at + i) / m.size * m.size + (at + i) % m.size ≡ at + i = div-add-mod' (at + i) m.size in
        let product : (at + i) / m.size * m.size ≡ at / m.size * m.size = ap (λ k. k * m.size) leaf in
        let place : (at + i) % m.size ≡ at % m.size + i = omega (arith, again, product, is) in
        (λ j. slice_index (leaf_bytes m node (sym leaf j)) (sym place j))
        ∙ sym (get_or-map-range_with_len (λ k. byte_of m node k) 0 node.size (at + i) (at + i) 0 (omega (arith, low, below)) (omega arith))
