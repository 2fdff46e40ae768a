-- The bytes of a file that was changed and into which bytes were put.
use Rattle.std.proofs.Common.{◌≡◌, ℕ, ◌+◌, ◌*◌, ◌-◌, ◌/◌, ◌%◌, ◌<◌, ◌≤◌, ◌⊎◌, List, length, take, drop, inl, inr, refl, sym, ◌∙◌, ap, arith, length-take}
use Rattle.std.specs.Prelude.{Bool, true, false, None, replicate, nat_lt, slice_index, slice_range, if◌then◌else◌}
use Rattle.std.proofs.Math.Nat.{mod-lt}
use Rattle.std.proofs.Math.ListN.{get_or-append}
use Rattle.std.proofs.lemmas.Bool.{cases_lt, ltb-false, ltb-true}
use Rattle.std.proofs.lemmas.List.{ext_get_or, get_or-append_right, get_or-drop, get_or-replicate, get_or-take}
use Rattle.std.proofs.lemmas.List.FromFn.{get_or-map-range_with_len, length-map-range_with_len}
use Rattle.std.proofs.lemmas.Nat.{div-add-mod', le-div}
use Rattle.qx_bytes.specs.Ranges.{put_at}
use Rattle.qx_bytes.proofs.Puts.{byte_put_apart, byte_put_within, length_put}
use Rattle.qx_outside.specs.Trail.{resized}
use Rattle.qx_file.specs.Puts.{HasByte, with_part}
use Rattle.qx_file.proofs.PartBytes.{ends_past}
use Rattle.qx_file.proofs.PutContent.{leaf_end, part_long}
use Rattle.qx_geom.proofs.LevelCounts.{part_below}
use Rattle.qx_nodes.specs.NodeContents.{NodeContent, bytes_in}
use Rattle.qx_ptree.specs.declared.change.Change.{Change}
use Rattle.qx_batch.specs.Changes.{changed_content}
use Rattle.qx_batch.specs.PutNodes.{has_byte, put_content}
use Rattle.qx_batch.proofs.NodeContentsAfter.{has_passes, passes_has}
use Rattle.qx_model.proofs.WholeOperations.{resized_long}
use Rattle.qx_edits.specs.PutContents.{HasZerosBehind, IsOverBlocks, IsPutInto}
use Rattle.qx_edits.proofs.PutLeaves.{changed_long, kept_leaf}

-- ---- one leaf

-- a byte of the range stands in its leaf
part_byte : (size at i : ℕ) (bytes old : List ℕ) (k r : ℕ) → length old ≡ size → k ≡ i * size + r → r < size → at ≤ k → k < at + length bytes → slice_index (with_part size i at bytes old) r ≡ slice_index bytes (k - at)
part_byte size at i bytes old k r long is low from to =
    let a : ℕ = i * size - at in
    let z : ℕ = (i + 1) * size - at in
    let place : ℕ = at - i * size in
    let e = leaf_end i size in
    let p = part_long bytes a z in
    let inside : r < place + length (slice_range bytes a z) = omega (arith, p, e, is) in
    let here : a + (r - place) ≡ k - at = omega (arith, is) in
    byte_put_within old (slice_range bytes a z) place (length (slice_range bytes a z)) r refl (omega (arith, is)) inside (omega (arith, is, long))
    ∙ get_or-take (z - a) (drop a bytes) (r - place) 0 (omega (arith, e, is)) ∙ get_or-drop a bytes (r - place) 0 ∙ ap (λ j. slice_index bytes j) here

-- and a byte beside it stays
part_apart : (size at i : ℕ) (bytes old : List ℕ) (k r : ℕ) → length old ≡ size → k ≡ i * size + r → r < size → at < (i + 1) * size → (k < at) ⊎ (at + length bytes ≤ k) → slice_index (with_part size i at bytes old) r ≡ slice_index old r
part_apart size at i bytes old k r long is low begins out =
    let a : ℕ = i * size - at in
    let z : ℕ = (i + 1) * size - at in
    let place : ℕ = at - i * size in
    let e = leaf_end i size in
    let p = part_long bytes a z in
    let room : place ≤ length old = omega (arith, e, long) in
    elim out [
      | inl before ↦ byte_put_apart old (slice_range bytes a z) place (length (slice_range bytes a z)) r refl (inl (omega (arith, is))) room
      | inr behind ↦ byte_put_apart old (slice_range bytes a z) place (length (slice_range bytes a z)) r refl (inr (omega (arith, is, p))) room
    ]

-- a byte of all of a content
byte_at : (size : ℕ) (c : NodeContent) (k : ℕ) → k < c.size → slice_index (bytes_in size c) k ≡ slice_index (c.leaves (k / size)) (k % size)
byte_at size c k low = get_or-map-range_with_len (λ j. slice_index (c.leaves (j / size)) (j % size)) 0 c.size k k 0 low (omega arith)

pub bytes_long : (size : ℕ) (c : NodeContent) → length (bytes_in size c) ≡ c.size
bytes_long size c = length-map-range_with_len (λ k. slice_index (c.leaves (k / size)) (k % size)) 0 c.size

-- a byte of a list that is cut or filled up
byte_resized : (xs : List ℕ) (n k : ℕ) → k < n → slice_index (resized xs n) k ≡ (if nat_lt k (length xs) then slice_index xs k else 0)
byte_resized xs n k low = by (nat_lt k (length xs)) refl
  where
    by : (t : Bool) → nat_lt k (length xs) ≡ t → slice_index (resized xs n) k ≡ (if t then slice_index xs k else 0)
    by true e =
        let here : k < length xs = ltb-true k (length xs) e in
        get_or-append (take n xs) (replicate (n - length xs) 0) 0 k (omega (arith, here, length-take n xs)) ∙ get_or-take n xs k 0 low
    by false e =
        let past : length xs ≤ k = ltb-false k (length xs) e in
        get_or-append_right (take n xs) (replicate (n - length xs) 0) (length xs) k 0 (omega (arith, past, length-take n xs)) past ∙ get_or-replicate (n - length xs) (k - length xs) 0 0 (omega (arith, past))

module _ (size at : ℕ) (bytes : List ℕ) (c : Change) (a b : NodeContent) (pos : 0 < size) (over : IsOverBlocks size a) (past : HasZerosBehind size a) (none : c.gone ≡ None) (is : IsPutInto size c at bytes a b) where
  abbrev m : NodeContent
  m = changed_content size c a

  abbrev p : NodeContent
  p = put_content size at bytes m

  -- a byte of the file afterwards, by the leaf into which bytes were put
  byte_now : (k : ℕ) → k < c.size → slice_index (bytes_in size b) k ≡ slice_index (p.leaves (k / size)) (k % size)
  byte_now k low = byte_at size b k (omega (arith, is.size, low)) ∙ ap (λ (l : List ℕ). slice_index l (k % size)) (is.leaves (k / size) (part_below k c.size size pos low))

  -- one that was put
  byte_put : (k : ℕ) → k < c.size → at ≤ k → k < at + length bytes → slice_index (bytes_in size b) k ≡ slice_index bytes (k - at)
  byte_put k low from to =
      let lies = div-add-mod' k size in
      let begin = div-add-mod' at size in
      let has : HasByte size at (length bytes) (k / size) = record { first = first; last = omega (arith, lies, to); some = omega (arith, from, to) } in
      byte_now k low ∙ ap (λ (t : Bool). slice_index (if t then with_part size (k / size) at bytes (m.leaves (k / size)) else m.leaves (k / size)) (k % size)) (has_passes size at (length bytes) (k / size) has)
      ∙ part_byte size at (k / size) bytes (m.leaves (k / size)) k (k % size) (changed_long size c a over (k / size)) (sym lies) (mod-lt k pos) from to
    where
      first : at / size ≤ k / size
      first = le-div (at / size) k size pos (let lies = div-add-mod' at size in omega (arith, lies, from))

  -- one beside: it is as it was, and 0 past the old end
  byte_beside : (k : ℕ) → k < c.size → (k < at) ⊎ (at + length bytes ≤ k) → slice_index (bytes_in size b) k ≡ slice_index (resized (bytes_in size a) c.size) k
  byte_beside k low out =
      byte_now k low ∙ beside (has_byte size at (length bytes) (k / size)) refl
      ∙ ap (λ (l : List ℕ). slice_index l (k % size)) (kept_leaf size c a over none (k / size) (part_below k c.size size pos low))
      ∙ old (nat_lt k a.size) refl
      ∙ ap (λ n. if nat_lt k n then slice_index (bytes_in size a) k else 0) (sym (bytes_long size a))
      ∙ sym (byte_resized (bytes_in size a) c.size k low)
    where
      beside : (t : Bool) → has_byte size at (length bytes) (k / size) ≡ t
          → slice_index (if t then with_part size (k / size) at bytes (m.leaves (k / size)) else m.leaves (k / size)) (k % size) ≡ slice_index (m.leaves (k / size)) (k % size)
      beside true e = part_apart size at (k / size) bytes (m.leaves (k / size)) k (k % size) (changed_long size c a over (k / size)) (sym (div-add-mod' k size)) (mod-lt k pos) (ends_past size at (length bytes) (k / size) pos (passes_has size at (length bytes) (k / size) e)) out
      beside false e = refl

      old : (t : Bool) → nat_lt k a.size ≡ t → slice_index (a.leaves (k / size)) (k % size) ≡ (if t then slice_index (bytes_in size a) k else 0)
      old true e = sym (byte_at size a k (ltb-true k a.size e))
      old false e = past k (ltb-false k a.size e)

  -- all of them
  now_long : length (bytes_in size b) ≡ c.size
  now_long = bytes_long size b ∙ is.size

  pub file_written : at + length bytes ≤ c.size → bytes_in size b ≡ put_at (resized (bytes_in size a) c.size) at bytes
  file_written ends = ext_get_or 0 (bytes_in size b) (put_at (resized (bytes_in size a) c.size) at bytes) long (λ k low. at_byte k (omega (arith, low, now_long)))
    where
      filled : length (resized (bytes_in size a) c.size) ≡ c.size
      filled = resized_long (bytes_in size a) c.size

      long : length (bytes_in size b) ≡ length (put_at (resized (bytes_in size a) c.size) at bytes)
      long = now_long ∙ sym (length_put (resized (bytes_in size a) c.size) bytes at (length bytes) refl (omega (arith, filled, ends)) ∙ filled)

      apart : (k : ℕ) → k < c.size → (k < at) ⊎ (at + length bytes ≤ k) → slice_index (bytes_in size b) k ≡ slice_index (put_at (resized (bytes_in size a) c.size) at bytes) k
      apart k low out = byte_beside k low out ∙ sym (byte_put_apart (resized (bytes_in size a) c.size) bytes at (length bytes) k refl out (omega (arith, filled, ends)))

      at_byte : (k : ℕ) → k < c.size → slice_index (bytes_in size b) k ≡ slice_index (put_at (resized (bytes_in size a) c.size) at bytes) k
      at_byte k low = elim (cases_lt k at) [
        | inl before ↦ apart k low (inl before)
        | inr from ↦ elim (cases_lt k (at + length bytes)) [
          | inl to ↦ byte_put k low from to ∙ sym (byte_put_within (resized (bytes_in size a) c.size) bytes at (length bytes) k refl from to (omega (arith, filled, ends)))
          | inr behind ↦ apart k low (inr behind)
        ]
      ]

  pub file_sized : c.size ≤ at → bytes_in size b ≡ resized (bytes_in size a) c.size
  file_sized behind =
      ext_get_or 0 (bytes_in size b) (resized (bytes_in size a) c.size) (now_long ∙ sym (resized_long (bytes_in size a) c.size)) (λ k low.
      let below : k < c.size = omega (arith, low, now_long) in byte_beside k below (inl (omega (arith, below, behind))))
