-- What the contents of new inodes' nodes are as entries, and how they are filled.
use Rattle.std.proofs.Common.{◌≡◌, ℕ, zero, suc, ◌+◌, ◌*◌, ◌-◌, ◌/◌, ◌%◌, ◌<◌, ◌^◌, List, [], ◌∷◌, ◌++◌, length, take, drop, inl, inr, refl, sym, ◌∙◌, ap, subst, arith, lit<, append-nil}
use Rattle.std.specs.Prelude.{true, false, map, None, Some, replicate, slice_get, slice_index, slice_range}
use Rattle.std.specs.List.{range_with_len}
use Rattle.std.proofs.Math.Nat.{div-eq_of_lt-le, mod-eq_of_lt, mod-lt}
use Rattle.std.proofs.lemmas.List.{append_assoc, drop_all, get_or-replicate, length-append, length-replicate}
use Rattle.qx_bytes.specs.Ranges.{put_at}
use Rattle.qx_bytes.proofs.Pieces.{Piece, joined, range_of_piece}
use Rattle.qx_bytes.proofs.Puts.{range_put_apart}
use Rattle.qx_outside.specs.Trail.{resized}
use Rattle.qx_fields.specs.declared.order.Order.{Order}
use Rattle.qx_geom.specs.Lists.{IsAscending, each_below, is_in}
use Rattle.qx_geom.specs.Pointer.{ceil_div}
use Rattle.qx_geom.specs.Positions.{present_after}
use Rattle.qx_geom.proofs.AscendingLists.{ascending_same}
use Rattle.qx_geom.proofs.ImagesAndFilters.{Contains-in, in_Contains}
use Rattle.qx_geom.proofs.LevelCounts.{part_below}
use Rattle.qx_geom.proofs.Members.{in_head}
use Rattle.qx_geom.proofs.PresentLeaves.{present_after_ascends, present_after_members}
use Rattle.qx_view.proofs.AscendingRanges.{range_ascends}
use Rattle.qx_nodes.specs.NodeContents.{NodeContent, bytes_in}
use Rattle.qx_nodes.proofs.ZeroBytes.{slice_zeros}
use Rattle.qx_ptree.specs.declared.change.Change.{Change}
use Rattle.qx_ptree.specs.Fates.{leaves_after, written_by}
use Rattle.qx_records.specs.declared.inode.Inode.{Inode}
use Rattle.qx_records.specs.declared.kind.Kind.TheVariants as kinds
use Rattle.qx_records.specs.InodeRecord.{kind_of}
use Rattle.qx_records.specs.NameRecord.{raw_in}
use Rattle.qx_records.specs.WrittenNames.{short_bytes}
use Rattle.qx_records.proofs.WrittenRecords.{length_short_bytes, raw_in-short_bytes}
use Rattle.qx_batch.specs.Changes.{changed_content}
use Rattle.qx_batch.specs.PutNodes.{put_content}
use Rattle.qx_model.specs.EmptyTree.{new_directory}
use Rattle.qx_model.specs.Edits.{directory_mode, file_mode, link_mode, new_attr, new_link}
use Rattle.qx_model.specs.NewNames.{empty_file}
use Rattle.qx_model.specs.Tree.{Row, Slot, Unused, dot_name, dots_name}
use Rattle.qx_model.specs.Whole.{HoldsRecords}
use Rattle.qx_model.proofs.WholeOperations.{resized_long}
use Rattle.qx_model.proofs.WholeRows.{multiple}
use Rattle.qx_view.specs.Entries.{IsEntryOf, Reader, attr_of, slot_by}
use Rattle.qx_edits.specs.NewDirectories.{IsNewDirectory}
use Rattle.qx_edits.specs.PutContents.{HasZerosBehind, IsOverBlocks, IsPutInto}
use Rattle.qx_edits.specs.RecordEdits.{record_of}
use Rattle.qx_edits.proofs.ListedElements.{all_there, each_there, listed_by}
use Rattle.qx_edits.proofs.PutFiles.{file_written}
use Rattle.qx_edits.proofs.PutLeaves.{kept_leaf, put_here}
use Rattle.qx_edits.proofs.PutRecords.{raw_zeros}

-- ---- kinds

directory_kind : kind_of 0x41ED ≡ Some kinds.Directory
unfolding kind_of
directory_kind = refl

file_kind : kind_of 0x81A4 ≡ Some kinds.File
unfolding kind_of
file_kind = refl

link_kind : kind_of 0xA1FF ≡ Some kinds.Link
unfolding kind_of
link_kind = refl

-- ---- entries

pub new_file : (r : Reader) (i : Inode) (c : NodeContent) (moment : ℕ) → attr_of i ≡ new_attr file_mode moment → c.size ≡ 0 → c.present ≡ [] → IsEntryOf r i c (empty_file moment)
new_file r i c moment attr size present = record {
  attr = sym attr;
  kind = kinds.File;
  kind_is = file_kind;
  holds = record { size = sym size; present = sym present; body = sym (ap (λ n. each_below n (λ k. slice_index (c.leaves (k / r.blocksize)) (k % r.blocksize))) size) };
}

pub new_target : (r : Reader) (i : Inode) (c : NodeContent) (target : List ℕ) (moment : ℕ) → attr_of i ≡ new_attr link_mode moment → 0 < length target → length target < 1024
    → c.size ≡ length target → c.present ≡ range_with_len 0 (ceil_div (length target) r.blocksize) → bytes_in r.blocksize c ≡ target → IsEntryOf r i c (new_link r.blocksize moment target)
new_target r i c target moment attr some short size present bytes = record {
  attr = sym attr;
  kind = kinds.Link;
  kind_is = link_kind;
  holds = record { size = sym size; present = sym present; body = (sym bytes, omega (arith, size, some), omega (arith, size, short)) };
}

-- so many unused slots
unused_at : (m k : ℕ) → k < m → slice_get (replicate m Unused) k ≡ Some Unused
unused_at zero k low = absurd (omega (arith, low))
unused_at (suc m) zero low = refl
unused_at (suc m) (suc k) low = unused_at m k (omega (arith, low))

pub new_dir : (r : Reader) (i : Inode) (c : NodeContent) (n parent moment : ℕ) → HoldsRecords r.blocksize → attr_of i ≡ new_attr directory_mode moment → IsNewDirectory r.order r.blocksize n parent c
    → IsEntryOf r i c (new_directory r.blocksize n parent moment)
new_dir r i c n parent moment holds attr new = record {
  attr = sym attr;
  kind = kinds.Directory;
  kind_is = directory_kind;
  holds = record { size = sym new.size; present = sym new.present; body = sym (listed_by (c.size / 32) (λ k. slot_by r.names (record_of r.order r.blocksize c k)) (map (λ s. Some s) slots) long each) };
}
  where
    slots : List Slot
    slots = Row n dot_name None ∷ Row parent dots_name None ∷ replicate (r.blocksize / 32 - 2) Unused

    count : length (Row n dot_name None ∷ Row parent dots_name None ∷ replicate (r.blocksize / 32 - 2) Unused) ≡ c.size / 32
    count =
        let size = new.size in
        let two = holds.two in
        let all = length-replicate {A = Slot} (r.blocksize / 32 - 2) Unused in
        let same : c.size / 32 ≡ r.blocksize / 32 = ap (λ z. z / 32) size in
        omega (arith, all, same, two)

    long : length (map (λ s. Some s) (Row n dot_name None ∷ Row parent dots_name None ∷ replicate (r.blocksize / 32 - 2) Unused)) ≡ c.size / 32
    long = all_there (Row n dot_name None ∷ Row parent dots_name None ∷ replicate (r.blocksize / 32 - 2) Unused) ∙ count

    each : (k : ℕ) → k < c.size / 32 → slice_get (map (λ s. Some s) (Row n dot_name None ∷ Row parent dots_name None ∷ replicate (r.blocksize / 32 - 2) Unused)) k ≡ Some (slot_by r.names (record_of r.order r.blocksize c k))
    each zero low = ap (λ raw. Some (slot_by r.names raw)) (sym new.dot)
    each (suc zero) low = ap (λ raw. Some (slot_by r.names raw)) (sym new.dots)
    each (suc (suc k)) low =
        let size = new.size in
        let same : c.size / 32 ≡ r.blocksize / 32 = ap (λ z. z / 32) size in
        let whole = multiple r.blocksize 32 holds.whole in
        each_there (replicate (r.blocksize / 32 - 2) Unused) k Unused (unused_at (r.blocksize / 32 - 2) k (omega (arith, low, same)))
        ∙ ap (λ raw. Some (slot_by r.names raw)) (sym (new.rest (suc (suc k)) (omega arith) (omega (arith, low, same, whole))))

-- ---- a node of nothing

-- it has no leaf
no_leaves : (blocksize : ℕ) (a : NodeContent) → 0 < blocksize → IsOverBlocks blocksize a → a.size ≡ 0 → a.present ≡ []
no_leaves blocksize a pos over size = go a.present refl
  where
    go : (xs : List ℕ) → a.present ≡ xs → a.present ≡ []
    go [] is = is
    go (x ∷ xs) is =
        let low = over.below x (ap (λ ys. is_in ys x) is ∙ in_head x xs) in
        let none : ceil_div a.size blocksize ≡ 0 = ap (λ n. ceil_div n blocksize) size ∙ nothing blocksize pos in
        absurd (omega (arith, low, none))
      where
        nothing : (b : ℕ) → 0 < b → (0 + b - 1) / b ≡ 0
        nothing b pos = div-eq_of_lt-le {k = 0} b {m = 0 + b - 1} (omega arith) (omega (arith, pos))

-- leaves that are written where none was
leaves_of : (last : ℕ) (ws : List ℕ) → IsAscending ws → present_after [] last ws None ≡ ws
leaves_of last ws up =
    ascending_same (present_after [] last ws None) ws (present_after_ascends [] last ws None tt) up
    (λ x there. Contains-in ws x (elim ((present_after_members [] last ws None x).0 (in_Contains (present_after [] last ws None) x there)) [ inl written ↦ written | inr old ↦ absurd (nothing x old.0) ]))
    (λ x there. Contains-in (present_after [] last ws None) x ((present_after_members [] last ws None x).1 (inl (in_Contains ws x there))))
  where
    nothing : (x : ℕ) → is_in [] x ≡ true → ⊥
    nothing x h = cc

take_none : (xs : List ℕ) → take 0 xs ≡ []
take_none [] = refl
take_none (x ∷ xs) = refl

-- a record of the first leaf
record_first : (order : Order) (blocksize : ℕ) (c : NodeContent) (k : ℕ) → k * 32 < blocksize → record_of order blocksize c k ≡ raw_in order (slice_range (c.leaves 0) (k * 32) (k * 32 + 32))
record_first order blocksize c k low =
    let leaf : k * 32 / blocksize ≡ 0 = div-eq_of_lt-le {k = 0} blocksize {m = k * 32} (omega arith) (omega (arith, low)) in
    let place : k * 32 % blocksize ≡ k * 32 = mod-eq_of_lt low in
    (λ i. raw_in order (slice_range (c.leaves (leaf i)) (place i) (place i + 32)))

-- its leaves are 0
zero_leaf : (blocksize : ℕ) (a : NodeContent) → 0 < blocksize → IsOverBlocks blocksize a → a.size ≡ 0 → (i : ℕ) → a.leaves i ≡ replicate blocksize 0
zero_leaf blocksize a pos over size i = over.holes i (ap (λ ps. is_in ps i) (no_leaves blocksize a pos over size) ∙ none i)
  where
    none : (i : ℕ) → is_in [] i ≡ false
    none i = refl

module _ (order : Order) (blocksize n parent : ℕ) (c : Change) (a b : NodeContent) (holds : HoldsRecords blocksize) (over : IsOverBlocks blocksize a) (empty : a.size ≡ 0) (some_n : 0 < n) (fits_n : n < 2 ^ 32) (some_p : 0 < parent) (fits_p : parent < 2 ^ 32)
    (size : c.size ≡ blocksize) (written : written_by c ≡ 0 ∷ []) (none : c.gone ≡ None) (is : IsPutInto blocksize c 0 (short_bytes order n dot_name ++ short_bytes order parent dots_name) a b) where
  pos : 0 < blocksize
  pos = let two = holds.two in omega (arith, two)

  abbrev bytes : List ℕ
  bytes = short_bytes order n (46 ∷ []) ++ short_bytes order parent (46 ∷ 46 ∷ [])

  abbrev pieces : List Piece
  pieces = record { wide = 32; bytes = short_bytes order n (46 ∷ []); long = length_short_bytes order n (46 ∷ []) (omega arith) }
      ∷ record { wide = 32; bytes = short_bytes order parent (46 ∷ 46 ∷ []); long = length_short_bytes order parent (46 ∷ 46 ∷ []) (omega arith) } ∷ []

  abbrev m : NodeContent
  m = changed_content blocksize c a

  long : length bytes ≡ 64
  long = omega (arith, length-append (short_bytes order n (46 ∷ [])) (short_bytes order parent (46 ∷ 46 ∷ [])), length_short_bytes order n (46 ∷ []) (omega arith), length_short_bytes order parent (46 ∷ 46 ∷ []) (omega arith))

  leaf_none : 0 / blocksize ≡ 0
  leaf_none = div-eq_of_lt-le {k = 0} blocksize {m = 0} (omega arith) (omega (arith, pos))

  place_none : 0 % blocksize ≡ 0
  place_none = mod-eq_of_lt pos

  first_low : 0 < leaves_after blocksize c
  first_low = subst (λ q. q < leaves_after blocksize c) leaf_none (part_below 0 c.size blocksize pos (omega (arith, size, pos)))

  -- the leaf
  leaf_is : b.leaves 0 ≡ put_at (replicate blocksize 0) 0 bytes
  leaf_is =
      is.leaves 0 first_low
      ∙ subst (λ q. (put_content blocksize 0 bytes m).leaves q ≡ put_at (m.leaves q) (0 % blocksize) bytes) leaf_none
      (put_here blocksize 0 bytes pos (omega (arith, long)) (let two = holds.two in omega (arith, place_none, long, two)) m)
      ∙ ap (λ r. put_at (m.leaves 0) r bytes) place_none
      ∙ ap (λ (l : List ℕ). put_at l 0 bytes) (kept_leaf blocksize c a over none 0 first_low ∙ zero_leaf blocksize a pos over empty 0)

  abbrev rest : List ℕ
  rest = drop (0 + length bytes) (replicate blocksize 0)

  leaf_joined : b.leaves 0 ≡ joined pieces rest
  leaf_joined = leaf_is ∙ ap (λ (front : List ℕ). (front ++ bytes) ++ rest) (take_none (replicate blocksize 0)) ∙ append_assoc (short_bytes order n (46 ∷ [])) (short_bytes order parent (46 ∷ 46 ∷ [])) rest

  pub directory_filled : IsNewDirectory order blocksize n parent b
  directory_filled = record {
    size = is.size ∙ size;
    present = is.present ∙ (λ i. present_after (no_leaves blocksize a pos over empty i) (leaves_after blocksize c) (written i) (none i)) ∙ leaves_of (leaves_after blocksize c) (0 ∷ []) (λ y there. absurd (omega (arith, there.1)), tt);
    dot = record_first order blocksize b 0 (omega (arith, pos)) ∙ ap (λ (l : List ℕ). raw_in order (slice_range l 0 32)) leaf_joined ∙ ap (raw_in order) (range_of_piece 0 pieces rest (lit< tt))
        ∙ raw_in-short_bytes order n (46 ∷ []) some_n fits_n (omega arith) (omega arith);
    dots = record_first order blocksize b 1 (let two = holds.two in omega (arith, two)) ∙ ap (λ (l : List ℕ). raw_in order (slice_range l 32 64)) leaf_joined ∙ ap (raw_in order) (range_of_piece 1 pieces rest (lit< tt))
        ∙ raw_in-short_bytes order parent (46 ∷ 46 ∷ []) some_p fits_p (omega arith) (omega arith);
    rest = λ k high low. (let z = slice_zeros blocksize (k * 32) (k * 32 + 32) in
        record_first order blocksize b k low ∙ ap (λ (l : List ℕ). raw_in order (slice_range l (k * 32) (k * 32 + 32))) leaf_is
        ∙ ap (raw_in order) (range_put_apart (replicate blocksize 0) bytes 0 (length bytes) (k * 32) 32 refl (inr (omega (arith, long, high))) (omega arith) ∙ z.1) ∙ raw_zeros order z.0);
  }

module _ (blocksize : ℕ) (target : List ℕ) (c : Change) (a b : NodeContent) (pos : 0 < blocksize) (over : IsOverBlocks blocksize a) (empty : a.size ≡ 0)
    (size : c.size ≡ length target) (written : written_by c ≡ range_with_len 0 (ceil_div (length target) blocksize)) (none : c.gone ≡ None) (is : IsPutInto blocksize c 0 target a b) where
  pub target_filled : (b.size ≡ length target) × (b.present ≡ range_with_len 0 (ceil_div (length target) blocksize)) × (bytes_in blocksize b ≡ target)
  target_filled = (
    is.size ∙ size,
    is.present ∙ (λ i. present_after (no_leaves blocksize a pos over empty i) (leaves_after blocksize c) (written i) (none i)) ∙ leaves_of (leaves_after blocksize c) (range_with_len 0 (ceil_div (length target) blocksize)) (range_ascends 0 (ceil_div (length target) blocksize)),
    file_written blocksize 0 target c a b pos over zeros none is (omega (arith, size)) ∙ all (resized (bytes_in blocksize a) c.size) (resized_long (bytes_in blocksize a) c.size ∙ size),
  )
    where
      zeros : HasZerosBehind blocksize a
      zeros k past = ap (λ (l : List ℕ). slice_index l (k % blocksize)) (zero_leaf blocksize a pos over empty (k / blocksize)) ∙ get_or-replicate blocksize (k % blocksize) 0 0 (mod-lt k pos)

      all : (xs : List ℕ) → length xs ≡ length target → put_at xs 0 target ≡ target
      all xs long =
          ap (λ (front : List ℕ). (front ++ target) ++ drop (0 + length target) xs) (take_none xs)
          ∙ ap (λ (back : List ℕ). target ++ back) (drop_all (0 + length target) xs (omega (arith, long))) ∙ append-nil target
