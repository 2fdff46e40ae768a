-- Each operation leaves inodes whole, and the leaves that it writes are present.
use Rattle.std.proofs.Common.{◌≡◌, ℕ, zero, suc, ◌+◌, ◌*◌, ◌-◌, ◌/◌, ◌%◌, ◌<◌, ◌≤◌, ◌⊎◌, inl, inr, List, [], ◌∷◌, length, refl, sym, ap, ◌∙◌, subst, arith}
use Rattle.std.specs.Prelude.{◌≢◌, Bool, true, false, not, ◌&&◌, Option, Some, None, Ok, max, replicate, slice_set, take, nat_lt, unwrap_or, ◌==◌, if◌then◌else◌}
use Rattle.std.specs.List.{position_or_len, range_with_len}
use Rattle.std.proofs.lemmas.Bool.{cases_eq}
use Rattle.std.proofs.lemmas.List.{length-append, length-replicate, length-take}
use Rattle.std.proofs.lemmas.Nat.{le-div}
use Rattle.std.proofs.Math.Nat.{add-mul, div-mul-le_self, mod-eq-sub-div-mul, mul-div_cancel, mul-mod_left, one-mul}
use Rattle.qx_bytes.proofs.Puts.{length_put}
use Rattle.std.proofs.lemmas.Option.{slice_get_within}
use Rattle.qx_bytes.specs.Ranges.{put_at}
use Rattle.qx_outside.specs.Trail.{resized}
use Rattle.qx_geom.specs.Lists.{IsAscending, is_in}
use Rattle.qx_geom.specs.Pointer.{ceil_div}
use Rattle.qx_geom.proofs.ImagesAndFilters.{Contains-in, in_Contains}
use Rattle.qx_geom.proofs.Members.{in_cases}
use Rattle.qx_geom.proofs.PresentLeaves.{present_after_ascends, present_after_members}
use Rattle.qx_geom.proofs.Truths.{and_left, and_right}
use Rattle.qx_model.specs.Owners.{OfInode, OfLongfile, Owner}
use Rattle.qx_model.specs.declared.attr.Attr.{Attr}
use Rattle.qx_model.specs.declared.operation.Op.{Op}
use Rattle.qx_model.specs.Tree.{Entry, Row, Slot, Tree, Unused, entry_of, named_by, slots_of}
use Rattle.qx_model.specs.Rooted.{IsRooted}
use Rattle.qx_model.specs.Answering.{FileAt}
use Rattle.qx_model.specs.Contents.{cut_leaves, leaves_of_range, rewriting, with_content, written_at}
use Rattle.qx_model.specs.Directories.{is_directory, is_unused, long_of_slot, parent_of, slot_at}
use Rattle.qx_model.specs.Edits.{Edit, Setting, StandsLive, add_row, altering, attr_changed, clear_row, content_changed, leaf_of_record, lose_row, move_parent, new_inode, number_for, point_row, pointed, putting, slots_with, unchanged, with_attr, with_long, with_slots, without_long, writing, writing_record}
use Rattle.qx_model.specs.Effects.{Edits}
use Rattle.qx_model.specs.LostNames.{RowAt, moved_onto, moved_to, without_row}
use Rattle.qx_model.specs.NewNames.{made_at}
use Rattle.qx_model.specs.Operate.{operate}
use Rattle.qx_model.specs.Paths.{Place}
use Rattle.qx_model.specs.TreePositions.{entry_shape}
use Rattle.qx_model.specs.TreeTouch.{WritesPresent, written_in}
use Rattle.qx_model.specs.Whole.{AreWhole, HoldsRecords, IsWholeDirectory, IsWholeEntry}
use Rattle.qx_model.proofs.DoneEdits.{IsDone, IsFileAt, IsNewEntry, MayGo, attributes, bytes_written, edit_done, linked, lost, made, new_dir, new_file, new_target, row_moved, row_moved_onto, size_set, sized}
use Rattle.qx_model.proofs.EditOutlines.{IsDirectoryAt, directory_at, directory_outline, directory_slots, length-set, long_inodes, new_place_facts}
use Rattle.qx_model.proofs.ListMembers.{Contains-range, range-Contains}
use Rattle.qx_model.proofs.Outlines.{Absent, Dir, NamesIn, entry-other, outline_of, slot_in, slots_in}
use Rattle.qx_model.proofs.RootedNames.{plain_outline}
use Rattle.qx_model.proofs.RootedRemovals.{IsRow, bare_silent, long_inodes_stay, named_live, plain_silent}
use Rattle.qx_model.proofs.WholeEntries.{IsSteadyEdit, steady_altering, steady_attr, steady_set, steady_start, steady_writing, written_cases}
use Rattle.qx_model.proofs.WholeRows.{directory_whole, entry_altered, entry_set, steady_added, steady_cleared, steady_lost, steady_moved, steady_pointed}

-- nothing is in no list
nothing_in : (i : ℕ) → is_in [] i ≡ true → ⊥
nothing_in i h = cc

-- the numbers of a range
range_in : (a n i : ℕ) → is_in (range_with_len a n) i ≡ true → (a ≤ i) × (i < a + n)
range_in a n i h = range-Contains a n i (Contains-in (range_with_len a n) i h)

in_range : (a n i : ℕ) → a ≤ i → i < a + n → is_in (range_with_len a n) i ≡ true
in_range a n i low high = in_Contains (range_with_len a n) i (Contains-range a n i low high)

range_ascends : (a n : ℕ) → IsAscending (range_with_len a n)
range_ascends a zero = tt
range_ascends a (suc n) = (λ y c. (let r = range-Contains (a + 1) n y c in omega (arith, r.0)), range_ascends (a + 1) n)

-- ---- files

-- a byte below the size stands in a leaf below it
pub leaf_of_place : (k a b : ℕ) → 0 < b → k < a → k / b < ceil_div a b
leaf_of_place k a b pos below =
    let more : (k / b + 1) * b ≤ a + b - 1 = rw (add-mul (k / b) 1 b, one-mul b) (omega (arith, div-mul-le_self k b)) in
    omega (arith, le-div (k / b + 1) (a + b - 1) b pos more)

-- a part of a leaf past the last whole one
part_leaf : (size blocksize : ℕ) → 0 < blocksize → not (size % blocksize == 0) ≡ true → size / blocksize < ceil_div size blocksize
part_leaf size blocksize pos h =
    let some : 0 < size % blocksize = positive (size % blocksize) h in
    let more : (size / blocksize + 1) * blocksize ≤ size + blocksize - 1 = rw (add-mul (size / blocksize) 1 blocksize, one-mul blocksize) (omega (arith, div-mul-le_self size blocksize, mod-eq-sub-div-mul size blocksize, some)) in
    omega (arith, le-div (size / blocksize + 1) (size + blocksize - 1) blocksize pos more)
  where
    positive : (x : ℕ) → not (x == 0) ≡ true → 0 < x
    positive zero h = absurd (cc)
    positive (suc x) h = omega arith

-- one leaf
leaf_one : (b : ℕ) → 0 < b → 0 < ceil_div b b
leaf_one b pos = let h = leaf_of_place 0 b b pos pos in omega (arith, h)

own_div : (b i : ℕ) → 0 < b → i < b / b → i ≡ 0
own_div b i pos h = let one : b / b ≡ 1 = ap (λ n. n / b) (sym (one-mul b)) ∙ mul-div_cancel 1 pos in omega (arith, h, one)

own_mod : (b : ℕ) → b % b ≡ 0
own_mod b = ap (λ n. n % b) (sym (one-mul b)) ∙ mul-mod_left 1 b

-- ---- lengths

-- bytes of another length
pub resized_long : (xs : List ℕ) (size : ℕ) → length (resized xs size) ≡ size
resized_long xs size = omega (arith, length-append (take size xs) (replicate (size - length xs) 0), length-take size xs, length-replicate {A = ℕ} (size - length xs) 0)

-- the leaves of a range lie below its end
range_below : (blocksize at count size i : ℕ) → 0 < blocksize → at + count ≤ size → is_in (leaves_of_range blocksize at count) i ≡ true → i < ceil_div size blocksize
range_below blocksize at zero size i pos most h = absurd (nothing_in i h)
range_below blocksize at (suc last) size i pos most h =
    let first = at / blocksize in
    let r = range_in (at / blocksize) ((at + last) / blocksize + 1 - at / blocksize) i h in
    let low : (at + last) / blocksize < ceil_div size blocksize = leaf_of_place (at + last) size blocksize pos (omega arith) in
    omega (arith, r.0, r.1, low)

module _ (s : Setting) (holds : HoldsRecords s.blocksize) (t : Tree) (whole : AreWhole s.blocksize t) where
  size_pos : 0 < s.blocksize
  size_pos = omega (arith, holds.two)

  -- a file with other bytes
  rewritten : (f : FileAt) (size : ℕ) (content leaves : List ℕ) → IsFileAt t f → length content ≡ size → ((i : ℕ) → is_in leaves i ≡ true → i < ceil_div size s.blocksize) → IsSteadyEdit s.blocksize (rewriting s t f size content leaves)
  rewritten f size content leaves is long low =
      steady_attr s.blocksize f.inode (content_changed s.moment) (writing (OfInode f.inode) leaves (altering f.inode change (unchanged t)))
      (steady_writing s.blocksize (OfInode f.inode) leaves (altering f.inode change (unchanged t))
      (steady_altering s.blocksize f.inode change (unchanged t) (steady_start s.blocksize t whole) (λ x live. (file_whole x (whole f.inode x live), λ i w. absurd (nothing_in i w))))
      (λ i h. ap (λ o. is_in (let y = entry_shape s.blocksize o in y.present) i) (entry_altered f.inode change (unchanged t) f.entry is.live)
      ∙ (present_after_members f.entry.present (ceil_div size s.blocksize) leaves None i).1 (inl h)))
    where
      change : Entry → Entry
      change = with_content s.blocksize size content leaves

      file_whole : (x : Entry) → IsWholeEntry s.blocksize f.inode x → IsWholeEntry s.blocksize f.inode (with_content s.blocksize size content leaves x)
      file_whole x w = record {
        size = sym long;
        ascends = present_after_ascends x.present (ceil_div size s.blocksize) leaves None w.ascends;
        below = λ i h. elim ((present_after_members x.present (ceil_div size s.blocksize) leaves None i).0 h) [ inl written ↦ low i written | inr old ↦ old.1 ];
        body = tt;
      }

  bytes_steady : (f : FileAt) (at : ℕ) (bytes : List ℕ) → IsFileAt t f → IsSteadyEdit s.blocksize (written_at s t f at bytes)
  bytes_steady f at [] is = steady_attr s.blocksize f.inode (content_changed s.moment) (unchanged t) (steady_start s.blocksize t whole)
  bytes_steady f at (b ∷ bytes) is =
      let size = max f.entry.size (at + length (b ∷ bytes)) in
      rewritten f size (put_at (resized f.content size) at (b ∷ bytes)) (leaves_of_range s.blocksize at (length (b ∷ bytes))) is (length_put (resized f.content size) (b ∷ bytes) at (length (b ∷ bytes)) refl (let long = resized_long f.content size in omega (arith, long)) ∙ resized_long f.content size)
      (λ i h. range_below s.blocksize at (length (b ∷ bytes)) size i size_pos (omega arith) h)

  size_steady : (f : FileAt) (size : ℕ) → IsFileAt t f → IsSteadyEdit s.blocksize (sized s t f size)
  size_steady f size is = rewritten f size (resized f.content size) (cut_leaves s.blocksize f.entry size) is (resized_long f.content size) (λ i h. cut i (nat_lt size f.entry.size && (not (size % s.blocksize == 0) && is_in f.entry.present (size / s.blocksize))) refl h)
    where
      cut : (i : ℕ) (b : Bool) → (nat_lt size f.entry.size && (not (size % s.blocksize == 0) && is_in f.entry.present (size / s.blocksize))) ≡ b → is_in (if b then size / s.blocksize ∷ [] else []) i ≡ true → i < ceil_div size s.blocksize
      cut i true is h = elim (in_cases (size / s.blocksize) i [] h) [
        | inl same ↦ subst (λ j. j < ceil_div size s.blocksize) same (part_leaf size s.blocksize size_pos
            (and_left (not (size % s.blocksize == 0)) (is_in f.entry.present (size / s.blocksize)) (and_right (nat_lt size f.entry.size) (not (size % s.blocksize == 0) && is_in f.entry.present (size / s.blocksize)) is)))
        | inr none ↦ absurd (nothing_in i none)
      ]
      cut i false is h = absurd (nothing_in i h)

  -- ---- new inodes

  -- a new inode is whole, and its written leaves are present
  pub new_whole : (n d : ℕ) (x : Entry) (leaves : List ℕ) → IsNewEntry s n d x leaves → IsWholeEntry s.blocksize n x × ((i : ℕ) → is_in leaves i ≡ true → is_in x.present i ≡ true)
  new_whole n d x leaves new_file = (record { size = refl; ascends = tt; below = λ i h. absurd (nothing_in i h); body = tt }, λ i h. absurd (nothing_in i h))
  new_whole n d x leaves new_dir =
      let two = holds.two in
      let size_is : 32 * suc (suc (s.blocksize / 32 - 2)) ≡ s.blocksize = omega (arith, holds.two, holds.whole) in (
        record {
          size = sym (ap (λ m. 32 * suc (suc m)) (length-replicate (s.blocksize / 32 - 2) Unused) ∙ size_is);
          ascends = (λ y c. absurd (nothing_in y (in_Contains [] y c)), tt);
          below = λ i h. elim (in_cases 0 i [] h) [ inl is ↦ subst (λ j. j < ceil_div s.blocksize s.blocksize) is (leaf_one s.blocksize size_pos) | inr none ↦ absurd (nothing_in i none) ];
          body = record { some = size_pos; whole = own_mod s.blocksize; filled = λ i h. first i (own_div s.blocksize i size_pos h); dot = refl; dots = refl };
        },
        λ i h. h,
      )
    where
      first : (i : ℕ) → i ≡ 0 → is_in (0 ∷ []) i ≡ true
      first i is = subst (λ j. is_in (0 ∷ []) j ≡ true) (sym is) refl
  new_whole n d x leaves (new_target target q read) =
      (record { size = refl; ascends = range_ascends 0 (ceil_div (length target) s.blocksize); below = λ i h. (let r = range_in 0 (ceil_div (length target) s.blocksize) i h in omega (arith, r.1)); body = tt }, λ i h. h)

-- a row that is added leaves every other inode
pub added_other : (s : Setting) (d n : ℕ) (name : List ℕ) (e : Edit) (m : ℕ) → m ≢ d → entry_of (add_row s d n name e).tree m ≡ entry_of e.tree m
added_other s d n name e m ne =
    let long = number_for e.tree name in
    let f : Edit = with_long s.blocksize long name e in
    let g : Edit = writing_record s.blocksize d (position_or_len is_unused (slots_of e.tree d)) (slots_with s.blocksize (slots_of e.tree d) (Row n name long)) f in
    entry-other g.tree d m _ (λ z. ne (sym z)) ∙ entry-other f.tree d m _ (λ z. ne (sym z)) ∙ long_inodes s.blocksize long name e m

-- ---- directories on the way

-- a directory has a record
pub record HasRecord (e : Edit) (d k : ℕ) : Type 0 where
  pub directory : IsDirectoryAt e.tree d
  pub within : k < length directory.slots

-- a directory is one, with the same slots
one_slots : (t : Tree) (d : ℕ) (a b : IsDirectoryAt t d) → a.slots ≡ b.slots
one_slots t d a b = sym (directory_slots t d a) ∙ directory_slots t d b

record_attr : (n : ℕ) (change : Attr → Attr) (e : Edit) (d k : ℕ) → HasRecord e d k → HasRecord (with_attr n change e) d k
record_attr n change e d k h = elim (cases_eq d n) [
  | inl is ↦ subst (λ m. HasRecord (with_attr n change e) m k) (sym is) (own (subst (λ m. HasRecord e m k) is h))
  | inr ne ↦ record {
    directory = record { entry = h.directory.entry; slots = h.directory.slots; up = h.directory.up; live = entry-other e.tree n d _ (λ z. ne (sym z)) ∙ h.directory.live; body = h.directory.body };
    within = h.within;
  }
]
  where
    own : HasRecord e n k → HasRecord (with_attr n change e) n k
    own h = record {
      directory = record {
        entry = record h.directory.entry { attr = change (let x = h.directory.entry in x.attr) };
        slots = h.directory.slots;
        up = h.directory.up;
        live = entry_altered n (λ x. record x { attr = change x.attr }) e h.directory.entry h.directory.live;
        body = h.directory.body;
      };
      within = h.within;
    }

record_written : (blocksize d j : ℕ) (new : List Slot) (e : Edit) (h : IsDirectoryAt e.tree d) → length h.slots ≤ length new → (m k : ℕ) → HasRecord e m k → HasRecord (writing_record blocksize d j new e) m k
record_written blocksize d j new e h most m k r = elim (cases_eq m d) [
  | inl is ↦ subst (λ m. HasRecord (writing_record blocksize d j new e) m k) (sym is) (own (subst (λ m. HasRecord e m k) is r))
  | inr ne ↦ record {
    directory = record { entry = r.directory.entry; slots = r.directory.slots; up = r.directory.up; live = entry-other e.tree d m _ (λ z. ne (sym z)) ∙ r.directory.live; body = r.directory.body };
    within = r.within;
  }
]
  where
    change : Entry → Entry
    change = with_slots blocksize new (unwrap_or (parent_of e.tree d) d) (leaf_of_record blocksize j)

    own : HasRecord e d k → HasRecord (writing_record blocksize d j new e) d k
    own r = record {
      directory = record { entry = with_slots blocksize new (unwrap_or (parent_of e.tree d) d) (leaf_of_record blocksize j) h.entry; slots = new; up = unwrap_or (parent_of e.tree d) d; live = entry_altered d (with_slots blocksize new (unwrap_or (parent_of e.tree d) d) (leaf_of_record blocksize j)) e h.entry h.live; body = refl };
      within = (let low = r.within in let same : length r.directory.slots ≡ length h.slots = ap length (one_slots e.tree d r.directory h) in omega (arith, low, same, most));
    }

-- a tree with the same inodes
record_alike : (e f : Edit) → ((n : ℕ) → entry_of f.tree n ≡ entry_of e.tree n) → (d k : ℕ) → HasRecord e d k → HasRecord f d k
record_alike e f same d k h = record {
  directory = record { entry = h.directory.entry; slots = h.directory.slots; up = h.directory.up; live = same d ∙ h.directory.live; body = h.directory.body };
  within = h.within;
}

-- a directory keeps its records where one is cleared or pointed elsewhere
pub record_cleared : (s : Setting) (d j : ℕ) (e : Edit) → IsDirectoryAt e.tree d → (m k : ℕ) → HasRecord e m k → HasRecord (clear_row s d j e) m k
record_cleared s d j e h m k r =
    let long = long_of_slot (slot_at e.tree d j) in
    let f : Edit = without_long long e in
    let there : IsDirectoryAt f.tree d = record { entry = h.entry; slots = h.slots; up = h.up; live = long_inodes_stay long e d ∙ h.live; body = h.body } in
    let new : List Slot = slice_set (slots_of e.tree d) j Unused in
    let same : length (slice_set (slots_of e.tree d) j Unused) ≡ length h.slots = length-set (slots_of e.tree d) j Unused ∙ ap length (directory_slots e.tree d h) in
    record_attr d (content_changed s.moment) (writing_record s.blocksize d j new f) m k
    (record_written s.blocksize d j new f there (omega (arith, same)) m k (record_alike e f (long_inodes_stay long e) m k r))

-- a record stays where one is pointed elsewhere
pub record_pointed : (s : Setting) (d j n : ℕ) (e : Edit) → IsDirectoryAt e.tree d → (m k : ℕ) → HasRecord e m k → HasRecord (point_row s d j n e) m k
record_pointed s d j n e h m k r =
    let row = pointed n (slot_at e.tree d j) in
    let same : length (slice_set (slots_of e.tree d) j (pointed n (slot_at e.tree d j))) ≡ length h.slots = length-set (slots_of e.tree d) j (pointed n (slot_at e.tree d j)) ∙ ap length (directory_slots e.tree d h) in
    record_attr d (content_changed s.moment) (writing_record s.blocksize d j (slice_set (slots_of e.tree d) j row) e) m k
    (record_written s.blocksize d j (slice_set (slots_of e.tree d) j row) e h (omega (arith, same)) m k r)

-- ---- what is written by rows

-- a cleared row writes into its directory alone
cleared_written : (s : Setting) (d k : ℕ) (e : Edit) (o : Owner) (i : ℕ) → is_in (written_in o (clear_row s d k e).written) i ≡ true → (is_in (written_in o e.written) i ≡ true) ⊎ (o ≡ OfInode d)
cleared_written s d k e o i h = go (long_of_slot (slot_at e.tree d k)) h
  where
    go : (long : Option ℕ) → is_in (written_in o (let f = writing_record s.blocksize d k (slice_set (slots_of e.tree d) k Unused) (without_long long e) in f.written)) i ≡ true → (is_in (written_in o e.written) i ≡ true) ⊎ (o ≡ OfInode d)
    go None h = elim (written_cases o (OfInode d) e.written (leaf_of_record s.blocksize k ∷ []) i h) [ inl before ↦ inl before | inr new ↦ inr new.0 ]
    go (Some j) h = elim (written_cases o (OfInode d) e.written (leaf_of_record s.blocksize k ∷ []) i h) [ inl before ↦ inl before | inr new ↦ inr new.0 ]

pointed_written : (s : Setting) (d k n : ℕ) (e : Edit) (o : Owner) (i : ℕ) → is_in (written_in o (point_row s d k n e).written) i ≡ true → (is_in (written_in o e.written) i ≡ true) ⊎ (o ≡ OfInode d)
pointed_written s d k n e o i h = elim (written_cases o (OfInode d) e.written (leaf_of_record s.blocksize k ∷ []) i h) [ inl before ↦ inl before | inr new ↦ inr new.0 ]

inode_owner : (n m : ℕ) → OfInode n ≡ OfInode m → n ≡ m
inode_owner n m h = cc

longs_owner : (n : ℕ) → OfLongfile ≡ OfInode n → ⊥
longs_owner n h = cc

-- ---- rows of a whole tree

-- a row that names an inode is none of the first two
row_from : (blocksize : ℕ) (t : Tree) → AreWhole blocksize t → (row : RowAt) (is : IsRow t row) → 2 ≤ row.record_number
row_from blocksize t whole row is = go row.record_number refl
  where
    own : IsWholeDirectory blocksize row.directory (let h = is.directory in h.entry) (let h = is.directory in h.slots) (let h = is.directory in h.up)
    own = directory_whole blocksize t row.directory is.directory whole

    named : (k : ℕ) → row.record_number ≡ k → named_by (slot_in (let h = is.directory in h.slots) k) ≡ Some row.inode
    named k at = subst (λ j. named_by (slot_in (let h = is.directory in h.slots) j) ≡ Some row.inode) at (ap (λ x. named_by (slots_in x row.record_number)) (sym (directory_outline t row.directory is.directory)) ∙ is.names)

    go : (k : ℕ) → row.record_number ≡ k → 2 ≤ row.record_number
    go zero at = let none : named_by (Row row.directory (46 ∷ []) None) ≡ Some row.inode = ap (λ o. named_by (unwrap_or o Unused)) (sym own.dot) ∙ named 0 at in absurd (cc)
    go (suc zero) at = let none : named_by (Row (let h = is.directory in h.up) (46 ∷ 46 ∷ []) None) ≡ Some row.inode = ap (λ o. named_by (unwrap_or o Unused)) (sym own.dots) ∙ named 1 at in absurd (cc)
    go (suc (suc k)) at = omega (arith, at)

-- an inode whose last row may go names nothing
silent : (t : Tree) (row : RowAt) → IsRooted t → IsRow t row → MayGo t row.inode → (k m : ℕ) → NamesIn (outline_of t) row.inode k m → ⊥
silent t row r is may k m names = go (is_directory t row.inode) refl
  where
    go : (b : Bool) → is_directory t row.inode ≡ b → ⊥
    go true dir = bare_silent t row.inode (directory_at t row.inode dir) (may dir) k m names
    go false dir = plain_silent (outline_of t) row.inode (plain_outline t row.inode (named_live t row r is) dir) k m names

-- so it is no directory that has a row
apart : (t : Tree) (old row : RowAt) → IsRooted t → IsRow t old → MayGo t old.inode → IsRow t row → old.inode ≢ row.directory
apart t old row r is_old may is e = silent t old r is_old may row.record_number row.inode (subst (λ d. NamesIn (outline_of t) d row.record_number row.inode) (sym e) is.names)

-- ---- all edits

module _ (s : Setting) (holds : HoldsRecords s.blocksize) (t : Tree) (whole : AreWhole s.blocksize t) (r : IsRooted t) where
  none_written : (o : Owner) (i : ℕ) → is_in (written_in o (let e = unchanged t in e.written)) i ≡ true → ⊥
  none_written o i h = nothing_in i h

  -- a new inode
  made_steady : (p : Place) (n : ℕ) (x : Entry) (leaves : List ℕ) → is_directory t p.directory ≡ true → new_inode t ≡ Ok n → IsNewEntry s n p.directory x leaves → IsSteadyEdit s.blocksize (made_at s t p n x leaves)
  made_steady p n x leaves dir new is =
      let d = p.directory in
      let place = new_place_facts t n new in
      let h = directory_at t p.directory dir in
      let differ : p.directory ≢ n = λ e. not_absent h.slots h.up (sym (directory_outline t p.directory h) ∙ ap (outline_of t) e ∙ place.1) in
      let f = new_whole s holds t whole n p.directory x leaves is in
      let e0 : Edit = putting n (Some x) (unchanged t) in
      let there : IsDirectoryAt e0.tree d = record { entry = h.entry; slots = h.slots; up = h.up; live = entry-other t n d (Some x) (λ e. differ (sym e)) ∙ h.live; body = h.body } in
      steady_writing s.blocksize (OfInode n) leaves (add_row s d n p.name e0)
      (steady_added s holds d e0 there (steady_set s.blocksize n (Some x) (unchanged t) (steady_start s.blocksize t whole) (λ y same. subst (IsWholeEntry s.blocksize n) (one x y same) f.0) (λ i w. absurd (nothing_in i w))) n p.name)
      (λ i w. ap (λ o. is_in (let y = entry_shape s.blocksize o in y.present) i) (added_other s d n p.name e0 n (λ e. differ (sym e)) ∙ entry_set t n (Some x) place.0) ∙ f.1 i w)
    where
      not_absent : (xs : List Slot) (up : ℕ) → Dir (slot_in xs) up ≡ Absent → ⊥
      not_absent xs up h = cc

      one : (x y : Entry) → Some x ≡ Some y → x ≡ y
      one x y h = cc

  lost_steady : (row : RowAt) → IsRow t row → MayGo t row.inode → IsSteadyEdit s.blocksize (without_row s t row)
  lost_steady row is may =
      steady_lost s row.inode (clear_row s row.directory row.record_number (unchanged t))
      (steady_cleared s holds row.directory (unchanged t) is.directory (steady_start s.blocksize t whole) row.record_number (row_from s.blocksize t whole row is) is.within (none_written OfLongfile))
      (λ i w. elim (cleared_written s row.directory row.record_number (unchanged t) (OfInode row.inode) i w) [
        | inl before ↦ none_written (OfInode row.inode) i before
        | inr own ↦ apart t row row r is may is (inode_owner row.inode row.directory own)
      ])

  moved_steady : (row : RowAt) (p : Place) → IsRow t row → is_directory t p.directory ≡ true → IsSteadyEdit s.blocksize (moved_to s t row p)
  moved_steady row p is dir =
      let cleared = clear_row s row.directory row.record_number (unchanged t) in
      let h = directory_at t p.directory dir in
      let own = directory_whole s.blocksize t p.directory h whole in
      let there = record_cleared s row.directory row.record_number (unchanged t) is.directory p.directory 0 (record { directory = h; within = slice_get_within h.slots 0 _ own.dot }) in
      steady_attr s.blocksize row.inode (attr_changed s.moment) (move_parent s row.inode row.directory p.directory (add_row s p.directory row.inode p.name cleared))
      (steady_moved s holds row.inode row.directory p.directory (add_row s p.directory row.inode p.name cleared)
      (steady_added s holds p.directory cleared there.directory
      (steady_cleared s holds row.directory (unchanged t) is.directory (steady_start s.blocksize t whole) row.record_number (row_from s.blocksize t whole row is) is.within (none_written OfLongfile)) row.inode p.name))

  onto_steady : (row old : RowAt) → IsRow t row → IsRow t old → MayGo t old.inode → IsSteadyEdit s.blocksize (moved_onto s t row old)
  onto_steady row old is is_old may =
      let e1 = point_row s old.directory old.record_number row.inode (unchanged t) in
      let e2 = clear_row s row.directory row.record_number e1 in
      let there = record_pointed s old.directory old.record_number row.inode (unchanged t) is_old.directory row.directory row.record_number (record { directory = is.directory; within = is.within }) in
      steady_attr s.blocksize row.inode (attr_changed s.moment) (move_parent s row.inode row.directory old.directory (lose_row s old.inode e2))
      (steady_moved s holds row.inode row.directory old.directory (lose_row s old.inode e2)
      (steady_lost s old.inode e2
      (steady_cleared s holds row.directory e1 there.directory
      (steady_pointed s holds old.directory (unchanged t) is_old.directory (steady_start s.blocksize t whole) old.record_number row.inode (row_from s.blocksize t whole old is_old) is_old.within)
      row.record_number (row_from s.blocksize t whole row is) there.within (λ i w. quiet OfLongfile (λ e. longs_owner old.directory e) i w))
      (λ i w. elim (cleared_written s row.directory row.record_number e1 (OfInode old.inode) i w) [
        | inl before ↦ quiet (OfInode old.inode) (λ e. apart t old old r is_old may is_old (inode_owner old.inode old.directory e)) i before
        | inr own ↦ apart t old row r is_old may is (inode_owner old.inode row.directory own)
      ])))
    where
      quiet : (o : Owner) → (o ≡ OfInode old.directory → ⊥) → (i : ℕ) → is_in (written_in o (let e = point_row s old.directory old.record_number row.inode (unchanged t) in e.written)) i ≡ true → ⊥
      quiet o other i w = elim (pointed_written s old.directory old.record_number row.inode (unchanged t) o i w) [
        | inl before ↦ none_written o i before
        | inr own ↦ other own
      ]

  -- whatever the edit is
  done_steady : (e : Edit) → IsDone s t e → IsSteadyEdit s.blocksize e
  done_steady e (attributes n change kept) = steady_attr s.blocksize n change (unchanged t) (steady_start s.blocksize t whole)
  done_steady e (bytes_written f at bytes is fits) = bytes_steady s holds t whole f at bytes is
  done_steady e (size_set f size is fits) = size_steady s holds t whole f size is
  done_steady e (made p n x leaves new is f) = let place = new.place in made_steady p n x leaves place.directory is f
  done_steady e (linked p n new live plain no_special) =
      let place = new.place in
      steady_attr s.blocksize n (attr_changed s.moment) (add_row s p.directory n p.name (unchanged t))
      (steady_added s holds p.directory (unchanged t) (directory_at t p.directory place.directory) (steady_start s.blocksize t whole) n p.name)
  done_steady e (lost row is may) = lost_steady row is may
  done_steady e (row_moved row p is at free outside) = moved_steady row p is at.directory
  done_steady e (row_moved_onto row old is is_old differ outside may) = onto_steady row old is is_old may

operation_steady : (s : Setting) (t : Tree) (o : Op) (is_removing : Bool) (e : Edit) → HoldsRecords s.blocksize → IsRooted t → AreWhole s.blocksize t → StandsLive s t → operate s t o ≡ Ok (Edits is_removing e) → IsSteadyEdit s.blocksize e
operation_steady s t o is_removing e holds r whole live is = done_steady s holds t whole r e (edit_done s t o is_removing e r live is)

-- what an operation writes is present
pub operation_writes : (s : Setting) (t : Tree) (o : Op) (is_removing : Bool) (e : Edit) → HoldsRecords s.blocksize → IsRooted t → AreWhole s.blocksize t → StandsLive s t → operate s t o ≡ Ok (Edits is_removing e) → WritesPresent s.blocksize e
operation_writes s t o is_removing e holds r whole live is = (operation_steady s t o is_removing e holds r whole live is).present

-- and inodes are whole after it
pub operation_whole : (s : Setting) (t : Tree) (o : Op) (is_removing : Bool) (e : Edit) → HoldsRecords s.blocksize → IsRooted t → AreWhole s.blocksize t → StandsLive s t → operate s t o ≡ Ok (Edits is_removing e) → AreWhole s.blocksize e.tree
operation_whole s t o is_removing e holds r whole live is = (operation_steady s t o is_removing e holds r whole live is).entries
