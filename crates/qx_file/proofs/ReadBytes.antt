-- Bytes of a node that are copied leaf by leaf.
use Rattle.std.proofs.Common.{◌≡◌, ℕ, ◌+◌, ◌-◌, ◌*◌, ◌/◌, ◌%◌, ◌<◌, ◌≤◌, min, List, ◌++◌, length, take, drop, refl, sym, ◌∙◌, ap, arith, inl, inr, length-take, length-drop}
use Rattle.std.specs.Prelude.{slice_index, slice_range, replicate}
use Rattle.std.proofs.lemmas.List.{ext_get_or, get_or-take, get_or-drop, length-append, length-take-le}
use Rattle.std.proofs.lemmas.List.FromFn.{get_or-map-range_with_len, length-map-range_with_len}
use Rattle.std.proofs.lemmas.Slice.{drop-append-drop}
use Rattle.std.proofs.lemmas.Bool.{cases_lt}
use Rattle.std.proofs.lemmas.Nat.{div-mul-add, mod-mul-add}
use Rattle.qx_bytes.proofs.Puts.{byte_put_apart, byte_put_within, part_put}
use Rattle.qx_geom.specs.declared.root.Root.{Root}
use Rattle.qx_nodes.specs.BlockMap.{BlockMap}
use Rattle.qx_nodes.specs.Content.{byte_of, bytes_at_leaf, content_of, leaf_bytes}
use Rattle.qx_nodes.specs.Leaves.{Hole, leaf_of}
use Rattle.qx_nodes.specs.NodeContents.{bytes_in, node_content}
use Rattle.qx_fields.specs.declared.order.Order.{Order}
use Rattle.qx_blocks.specs.BlockState.{BlockState}
use Rattle.qx_ptree.specs.Trees.{block_map}
use Rattle.qx_file.proofs.PartBytes.{part_of_fill}

-- a byte of a range
pub index_of_range : (xs : List ℕ) (a n j : ℕ) → j < n → slice_index (slice_range xs a (a + n)) j ≡ slice_index xs (a + j)
index_of_range xs a n j low = get_or-take (a + n - a) (drop a xs) j 0 (omega arith) ∙ get_or-drop a xs j 0

-- byte `place` of leaf i is one of the node's
pub byte_in_leaf : (m : BlockMap) (node : Root) (i place k : ℕ) → place < m.size → k ≡ i * m.size + place → slice_index (leaf_bytes m node i) place ≡ byte_of m node k
byte_in_leaf m node i place k low is =
    let leaf : i ≡ k / m.size = sym (ap (λ n. n / m.size) is ∙ div-mul-add i m.size place low) in
    let rest : place ≡ k % m.size = sym (ap (λ n. n % m.size) is ∙ mod-mul-add i m.size place low) in
    λ j. slice_index (leaf_bytes m node (leaf j)) (rest j)

-- where a byte of the range stands that lies in this leaf
lies_here : (size at i k : ℕ) → i * size - at ≤ k → k < (i + 1) * size - at → (at + k ≡ i * size + (at - i * size + (k - (i * size - at)))) × (at - i * size + (k - (i * size - at)) < size)
lies_here size at i k from to = (grind arith, grind arith)

-- once a leaf's bytes are copied as well, all up to its end are
pub read_next : (m : BlockMap) (node : Root) (at count i place from piece : ℕ) (into part : List ℕ) → place ≡ at - i * m.size → from ≡ i * m.size - at → piece ≡ min (m.size - place) (count - from)
    → length part ≡ piece → from + piece ≤ length into → part ≡ slice_range (leaf_bytes m node i) place (place + piece)
    → ((k : ℕ) → k < count → k < i * m.size - at → slice_index into k ≡ byte_of m node (at + k))
    → (k : ℕ) → k < count → k < (i + 1) * m.size - at → slice_index (take from into ++ (part ++ drop (from + piece - from) (drop from into))) k ≡ byte_of m node (at + k)
read_next m node at count i place from piece into part place_is from_is piece_is long room is before k low ends =
    ap (λ (l : List ℕ). slice_index l k) (part_put into part from piece long)
    ∙ elim (cases_lt k from) [
      | inl early ↦ byte_put_apart into part from (length part) k refl (inl early) (omega arith) ∙ before k low (omega (arith, from_is))
      | inr late ↦
          let here = lies_here m.size at i k (omega (arith, from_is)) ends in
          let inside : k - from < piece = within m.size at i place from piece count k place_is from_is piece_is late low ends in
          let at_place : place + (k - from) ≡ at - i * m.size + (k - (i * m.size - at)) = (λ j. place_is j + (k - from_is j)) in
          byte_put_within into part from (length part) k refl late (omega (arith, long)) (omega arith)
          ∙ ap (λ (l : List ℕ). slice_index l (k - from)) is
          ∙ index_of_range (leaf_bytes m node i) place piece (k - from) inside
          ∙ byte_in_leaf m node i (place + (k - from)) (at + k) (omega (arith, here.1, at_place)) (here.0 ∙ ap (λ n. i * m.size + n) (sym at_place))
    ]
  where
    within : (size at i place from piece count k : ℕ) → place ≡ at - i * size → from ≡ i * size - at → piece ≡ min (size - place) (count - from) → from ≤ k → k < count → k < (i + 1) * size - at → k - from < piece
    within size at i place from piece count k place_is from_is piece_is late low ends = grind (arith, place_is, from_is, piece_is)

-- what stands behind all that is copied stays
pub rest_stays : (into part : List ℕ) (from piece count : ℕ) → length part ≡ piece → from + piece ≤ count → from + piece ≤ length into → drop count (take from into ++ (part ++ drop (from + piece - from) (drop from into))) ≡ drop count into
rest_stays into part from piece count long within room =
    ap (λ (l : List ℕ). drop count l) (part_put into part from piece long)
    ∙ drop-append-drop (from + length part) into (take from into ++ part) count (omega (arith, long)) (omega (arith, length-append (take from into) part, length-take-le from into (omega arith)))

-- a hole's bytes are 0
pub hole_part : (m : BlockMap) (node : Root) (i place n : ℕ) → place + n ≤ m.size → Hole ≡ leaf_of m node i → replicate n 0 ≡ slice_range (leaf_bytes m node i) place (place + n)
hole_part m node i place n within hole =
    part_of_fill m.size place n 0 within ∙ ap (λ x. slice_range (bytes_at_leaf m x) place (place + n)) hole

-- bytes that are copied, as a list
pub read_part : (order : Order) (m : BlockState) (node : Root) (at n : ℕ) (into : List ℕ) → n ≡ min (length into) (node.size - at) → ((k : ℕ) → k < n → slice_index into k ≡ byte_of (block_map order m) node (at + k))
    → take n into ≡ take n (drop at (bytes_in m.holdings.size (node_content (block_map order m) node)))
read_part order m node at n into is bytes = ext_get_or 0 (take n into) (take n (drop at content)) (long ∙ sym long_there) same
  where
    content : List ℕ
    content = content_of (block_map order m) node

    long : length (take n into) ≡ n
    long = (let e : length (take n into) ≡ n = omega (arith, is, length-take n into) in e)

    long_there : length (take n (drop at content)) ≡ n
    long_there = (let e : length (take n (drop at content)) ≡ n = omega (arith, is, length-take n (drop at content), length-drop at content, length-map-range_with_len (λ k. byte_of (block_map order m) node k) 0 node.size) in e)

    same : (k : ℕ) → k < length (take n into) → slice_index (take n into) k ≡ slice_index (take n (drop at content)) k
    same k below =
        let low : k < n = omega (arith, below, long) in
        get_or-take n into k 0 low
        ∙ bytes k low
        ∙ sym (get_or-take n (drop at content) k 0 low ∙ get_or-drop at content k 0 ∙ get_or-map-range_with_len (λ k. byte_of (block_map order m) node k) 0 node.size (at + k) (at + k) 0 (omega (arith, is, low)) (omega arith))
