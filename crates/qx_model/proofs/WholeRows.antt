-- Rows that are added, cleared and pointed elsewhere: directories stay whole, and the record's leaf is present.
use Rattle.std.proofs.Common.{◌≡◌, ℕ, zero, suc, ◌+◌, ◌*◌, ◌-◌, ◌/◌, ◌%◌, ◌<◌, ◌≤◌, ◌⊎◌, inl, inr, List, [], ◌∷◌, ◌++◌, length, refl, sym, ap, ◌∙◌, subst, arith}
use Rattle.std.specs.Prelude.{Bool, true, false, not, ◌&&◌, Option, Some, None, option_map, replicate, slice_get, slice_set, nat_lt, unwrap_or, ◌==◌, if◌then◌else◌}
use Rattle.std.specs.List.{position_or_len}
use Rattle.std.proofs.lemmas.Bool.{cases_lt, ltb-false, ltb-true}
use Rattle.std.proofs.lemmas.List.{length-append, length-replicate}
use Rattle.std.proofs.lemmas.List.Sums.{prefix_len-le-length}
use Rattle.std.proofs.Math.Nat.{add-mul, div-eq_of_lt-le, div-lt_iff_lt-mul, div-mul-le_self, mod-eq-sub-div-mul, mul-div_cancel, mul-mod_left, one-mul}
use Rattle.qx_geom.specs.Lists.{is_in}
use Rattle.qx_geom.specs.Pointer.{ceil_div}
use Rattle.qx_geom.specs.Positions.{with_number}
use Rattle.qx_geom.proofs.Members.{in_cases}
use Rattle.qx_geom.proofs.Truths.{and_left}
use Rattle.qx_geom.proofs.ImagesAndFilters.{in_head_as}
use Rattle.qx_geom.proofs.PresentLeaves.{number_in, others_in, present_after_ascends, present_after_members}
use Rattle.qx_model.specs.Owners.{OfFurther, OfInode, OfInodes, OfLongfile, Owner}
use Rattle.qx_model.specs.Tree.{Directory, Entry, Row, Slot, Tree, Unused, entry_of, links_of}
use Rattle.qx_model.specs.Directories.{has_name, is_directory, is_unused, long_of_slot, slot_at, with_entry}
use Rattle.qx_model.specs.Edits.{Edit, Setting, add_row, altering, attr_changed, clear_row, content_changed, leaf_of_record, lose_row, move_parent, number_for, point_row, pointed, putting, slots_with, with_attr, with_long, with_parent, with_slots, without_long, writing, writing_record}
use Rattle.qx_model.specs.TreePositions.{entry_shape}
use Rattle.qx_model.specs.TreeTouch.{written_in}
use Rattle.qx_model.specs.Whole.{AreWhole, HoldsRecords, IsWholeBody, IsWholeDirectory, IsWholeEntry, body_size}
use Rattle.qx_model.proofs.Outlines.{entry-same, get-set_other, slot_in}
use Rattle.qx_model.proofs.EditOutlines.{HasPlace, IsDirectoryAt, directory_at, directory_parent, directory_slots, length-set, live_place, long_inodes, unused_place}
use Rattle.qx_model.proofs.RootedRemovals.{long_inodes_stay}
use Rattle.qx_model.proofs.WholeEntries.{IsSteadyEdit, present_in, steady_altering, steady_attr, steady_set, steady_tree, steady_writing}

-- ---- sizes

-- a multiple is one
pub multiple : (size blocksize : ℕ) → size % blocksize ≡ 0 → size ≡ size / blocksize * blocksize
multiple size blocksize h = omega (arith, h, mod-eq-sub-div-mul size blocksize, div-mul-le_self size blocksize)

-- a multiple, divided and rounded up
pub ceil_multiple : (q blocksize : ℕ) → 0 < blocksize → ceil_div (q * blocksize) blocksize ≡ q
ceil_multiple q blocksize pos = div-eq_of_lt-le {k = q} blocksize {m = q * blocksize + blocksize - 1} (omega (arith, pos)) (rw (add-mul q 1 blocksize, one-mul blocksize) (omega (arith, pos)))

-- ---- other slots in a directory

-- the slots of directory d after record k is written: as many or a leaf more, and first `.` and `..`
pub record FitSlots (blocksize d k : ℕ) (old : List Slot) (up : ℕ) (new : List Slot) : Type 0 where
  pub within : k < length new
  pub grown : (length new ≡ length old) ⊎ ((length new ≡ length old + blocksize / 32) × (k ≡ length old))
  pub dot : slice_get new 0 ≡ Some (Row d (46 ∷ []) None)
  pub dots : slice_get new 1 ≡ Some (Row up (46 ∷ 46 ∷ []) None)

module _ (blocksize : ℕ) (holds : HoldsRecords blocksize) (d k : ℕ) (x : Entry) (old new : List Slot) (p up : ℕ) (w : IsWholeEntry blocksize d x) (body : x.body ≡ Directory old p) (fit : FitSlots blocksize d k old up new) where
  pos : 0 < blocksize
  pos = omega (arith, holds.two)

  own : IsWholeDirectory blocksize d x old p
  own = subst (λ b. IsWholeBody blocksize d x b) body w.body

  abbrev leaves : ℕ
  leaves = x.size / blocksize

  size_is : x.size ≡ 32 * length old
  size_is = w.size ∙ ap body_size body

  abbrev leaf : ℕ
  leaf = leaf_of_record blocksize k

  -- how many leaves there are afterwards
  record HasLeaves (after : ℕ) : Type 0 where
    size : 32 * length new ≡ after * blocksize
    more : leaves ≤ after
    each : (i : ℕ) → i < after → (i < leaves) ⊎ (i ≡ leaf)

  grown_leaves : (after : ℕ) × HasLeaves after
  grown_leaves = elim fit.grown [
    | inl same ↦ (leaves, record { size = ap (λ n. 32 * n) same ∙ sym size_is ∙ multiple x.size blocksize own.whole; more = omega arith; each = λ i h. inl h })
    | inr (longer, at) ↦ (
      leaves + 1,
      record {
        size = rw (add-mul leaves 1 blocksize, one-mul blocksize) (omega (arith, longer, size_is, multiple x.size blocksize own.whole, holds.whole));
        more = omega arith;
        each = λ i h. (elim (cases_lt i leaves) [ inl below ↦ inl below | inr past ↦ inr (last i (omega arith) at) ]);
      },
    )
  ]
    where
      last : (i : ℕ) → i ≡ leaves → k ≡ length old → i ≡ leaf
      last i is at =
          let place : k * 32 ≡ leaves * blocksize = omega (arith, at, size_is, multiple x.size blocksize own.whole) in
          is ∙ sym (ap (λ n. n / blocksize) place ∙ mul-div_cancel leaves pos)

  count : ℕ
  count = let g = grown_leaves in g.0

  counted : HasLeaves count
  unfolding count grown_leaves
  counted = let g = grown_leaves in g.1

  ceil_is : ceil_div (32 * length new) blocksize ≡ count
  ceil_is = ap (λ n. ceil_div n blocksize) counted.size ∙ ceil_multiple count blocksize pos

  leaf_low : leaf < count
  leaf_low = let low : k * 32 < count * blocksize = subst (λ n. k * 32 < n) counted.size (omega (arith, fit.within)) in (div-lt_iff_lt-mul pos).1 low

  -- the directory afterwards
  abbrev pub slotted : Entry
  slotted = with_slots blocksize new up (leaf_of_record blocksize k) x

  -- present leaves stay
  pub slotted_keeps : (i : ℕ) → is_in x.present i ≡ true → is_in slotted.present i ≡ true
  slotted_keeps i h =
      let low : i < leaves = subst (λ n. i < n) (ap (λ n. ceil_div n blocksize) (multiple x.size blocksize own.whole) ∙ ceil_multiple leaves blocksize pos) (w.below i h) in
      let more = counted.more in
      (present_after_members x.present (ceil_div (32 * length new) blocksize) (leaf ∷ []) None i).1 (inr (h, subst (λ n. i < n) (sym ceil_is) (omega (arith, low, more)), λ z. cc))

  -- the leaf of the record is present
  pub slotted_writes : is_in slotted.present (leaf_of_record blocksize k) ≡ true
  slotted_writes = (present_after_members x.present (ceil_div (32 * length new) blocksize) (leaf ∷ []) None leaf).1 (inl (in_head_as leaf leaf [] refl))

  -- the directory is whole
  pub slotted_whole : IsWholeEntry blocksize d slotted
  slotted_whole = record {
    size = refl;
    ascends = present_after_ascends x.present (ceil_div (32 * length new) blocksize) (leaf ∷ []) None w.ascends;
    below = below;
    body = record { some = (let in_it = fit.within in omega (arith, in_it)); whole = ap (λ n. n % blocksize) counted.size ∙ mul-mod_left count blocksize; filled = filled; dot = fit.dot; dots = fit.dots };
  }
    where
      below : (i : ℕ) → is_in slotted.present i ≡ true → i < ceil_div (32 * length new) blocksize
      below i h = elim ((present_after_members x.present (ceil_div (32 * length new) blocksize) (leaf ∷ []) None i).0 h) [
        | inl written ↦ subst (λ n. i < n) (sym ceil_is) (elim (in_cases leaf i [] written) [ inl is ↦ subst (λ j. j < count) is leaf_low | inr none ↦ absurd (nothing none) ])
        | inr old ↦ old.1
      ]
        where
          nothing : is_in [] i ≡ true → ⊥
          nothing h = cc

      filled : (i : ℕ) → i < 32 * length new / blocksize → is_in slotted.present i ≡ true
      filled i h =
          let low : i < count = subst (λ n. i < n) (ap (λ n. n / blocksize) counted.size ∙ mul-div_cancel count pos) h in
          elim (counted.each i low) [
            | inl before ↦ slotted_keeps i (own.filled i before)
            | inr is ↦ subst (λ j. is_in slotted.present j ≡ true) (sym is) slotted_writes
          ]

-- ---- steps

-- what an inode with a place is set to stands there
pub entry_set : (t : Tree) (n : ℕ) (x : Option Entry) → HasPlace t n → entry_of (with_entry t n x) n ≡ x
entry_set t n x place = subst (λ m. entry_of (with_entry t m x) m ≡ x) (sym place.is) (entry-same t place.index x place.within)

-- a live inode that is altered
pub entry_altered : (n : ℕ) (change : Entry → Entry) (e : Edit) (x : Entry) → entry_of e.tree n ≡ Some x → entry_of (altering n change e).tree n ≡ Some (change x)
entry_altered n change e x live = entry_set e.tree n (option_map change (entry_of e.tree n)) (live_place e.tree n x live) ∙ ap (option_map change) live

-- other slots in a directory, one record of which is written
pub steady_slots : (blocksize : ℕ) → HoldsRecords blocksize → (d k : ℕ) (new : List Slot) (up : ℕ) (e : Edit) (h : IsDirectoryAt e.tree d) → IsSteadyEdit blocksize e → FitSlots blocksize d k h.slots up new
    → IsSteadyEdit blocksize (writing (OfInode d) (leaf_of_record blocksize k ∷ []) (altering d (with_slots blocksize new up (leaf_of_record blocksize k)) e))
steady_slots blocksize holds d k new up e h s fit =
    steady_writing blocksize (OfInode d) (leaf_of_record blocksize k ∷ []) (altering d change e)
    (steady_altering blocksize d change e s (λ x live. (let is : h.entry ≡ x = one x live in
    let body : x.body ≡ Directory h.slots h.up = subst (λ (y : Entry). y.body ≡ Directory h.slots h.up) is h.body in
    (slotted_whole blocksize holds d k x h.slots new h.up up (s.entries d x live) body fit, λ i w. slotted_keeps blocksize holds d k x h.slots new h.up up (s.entries d x live) body fit i))))
    (λ i w. elim (in_cases (leaf_of_record blocksize k) i [] w) [
      | inl is ↦ subst (λ j. is_in (present_in blocksize (altering d change e).tree (OfInode d)) j ≡ true) is there
      | inr none ↦ absurd (nothing i none)
    ])
  where
    change : Entry → Entry
    change = with_slots blocksize new up (leaf_of_record blocksize k)

    nothing : (i : ℕ) → is_in [] i ≡ true → ⊥
    nothing i h = cc

    one : (x : Entry) → entry_of e.tree d ≡ Some x → h.entry ≡ x
    one x live = let same : Some h.entry ≡ Some x = sym h.live ∙ live in cc

    there : is_in (present_in blocksize (altering d change e).tree (OfInode d)) (leaf_of_record blocksize k) ≡ true
    there = ap (λ o. is_in (let y = entry_shape blocksize o in y.present) (leaf_of_record blocksize k)) (entry_altered d change e h.entry h.live)
        ∙ slotted_writes blocksize holds d k h.entry h.slots new h.up up (s.entries d h.entry h.live) h.body fit

-- and with the tree around it
pub steady_record : (blocksize : ℕ) → HoldsRecords blocksize → (d k : ℕ) (new : List Slot) (e : Edit) (h : IsDirectoryAt e.tree d) → IsSteadyEdit blocksize e → FitSlots blocksize d k h.slots h.up new
    → IsSteadyEdit blocksize (writing_record blocksize d k new e)
steady_record blocksize holds d k new e h s fit =
    subst (λ up. IsSteadyEdit blocksize (writing (OfInode d) (leaf_of_record blocksize k ∷ []) (altering d (with_slots blocksize new up (leaf_of_record blocksize k)) e))) (sym (ap (λ o. unwrap_or o d) (directory_parent e.tree d h)))
    (steady_slots blocksize holds d k new h.up e h s fit)

-- a long name, and one that goes
pub steady_long : (blocksize : ℕ) (long : Option ℕ) (name : List ℕ) (e : Edit) → IsSteadyEdit blocksize e → IsSteadyEdit blocksize (with_long blocksize long name e)
steady_long blocksize None name e s = s
steady_long blocksize (Some k) name e s =
    steady_writing blocksize OfLongfile (k ∷ []) (record e { tree = named })
    (steady_tree blocksize e named s (λ n x h. s.entries n x (sym (inodes n) ∙ h)) stays)
    (λ i w. elim (in_cases k i [] w) [ inl is ↦ subst (λ j. is_in (with_number e.tree.long_present k) j ≡ true) is (number_in e.tree.long_present k) | inr none ↦ absurd (nothing i none) ])
  where
    named : Tree
    named = let f = with_long blocksize (Some k) name e in f.tree

    inodes : (n : ℕ) → entry_of named n ≡ entry_of e.tree n
    inodes n = long_inodes blocksize (Some k) name e n

    nothing : (i : ℕ) → is_in [] i ≡ true → ⊥
    nothing i h = cc

    stays : (o : Owner) (i : ℕ) → is_in (written_in o e.written) i ≡ true → is_in (present_in blocksize e.tree o) i ≡ true → is_in (present_in blocksize named o) i ≡ true
    stays OfInodes i w h = h
    stays (OfFurther j) i w h = h
    stays OfLongfile i w h = others_in e.tree.long_present k i h
    stays (OfInode n) i w h = ap (λ o. is_in (let y = entry_shape blocksize o in y.present) i) (inodes n) ∙ h

-- a long name goes, where none was written
pub steady_without : (blocksize : ℕ) (long : Option ℕ) (e : Edit) → IsSteadyEdit blocksize e → ((i : ℕ) → is_in (written_in OfLongfile e.written) i ≡ true → ⊥) → IsSteadyEdit blocksize (without_long long e)
steady_without blocksize None e s none = s
steady_without blocksize (Some k) e s none = steady_tree blocksize e rest s (λ n x h. s.entries n x (sym (inodes n) ∙ h)) stays
  where
    rest : Tree
    rest = let f = without_long (Some k) e in f.tree

    inodes : (n : ℕ) → entry_of rest n ≡ entry_of e.tree n
    inodes n = long_inodes_stay (Some k) e n

    stays : (o : Owner) (i : ℕ) → is_in (written_in o e.written) i ≡ true → is_in (present_in blocksize e.tree o) i ≡ true → is_in (present_in blocksize rest o) i ≡ true
    stays OfInodes i w h = h
    stays (OfFurther j) i w h = h
    stays OfLongfile i w h = absurd (none i w)
    stays (OfInode n) i w h = ap (λ o. is_in (let y = entry_shape blocksize o in y.present) i) (inodes n) ∙ h

-- ---- slots

-- what stands in a list stands in a longer one
pub get_longer : {A : Type 0} (xs ys : List A) (i : ℕ) (a : A) → slice_get xs i ≡ Some a → slice_get (xs ++ ys) i ≡ Some a
get_longer [] ys zero a h = absurd (cc)
get_longer [] ys (suc i) a h = absurd (cc)
get_longer (x ∷ xs) ys zero a h = h
get_longer (x ∷ xs) ys (suc i) a h = get_longer xs ys i a h

-- a record from the third on is written
pub fit_set : (blocksize d k : ℕ) (xs : List Slot) (up : ℕ) (row : Slot) → 2 ≤ k → k < length xs → slice_get xs 0 ≡ Some (Row d (46 ∷ []) None) → slice_get xs 1 ≡ Some (Row up (46 ∷ 46 ∷ []) None)
    → FitSlots blocksize d k xs up (slice_set xs k row)
fit_set blocksize d k xs up row from within dot dots = record {
  within = subst (λ n. k < n) (sym (length-set xs k row)) within;
  grown = inl (length-set xs k row);
  dot = get-set_other xs k 0 row (λ e. omega (arith, from, e)) ∙ dot;
  dots = get-set_other xs k 1 row (λ e. omega (arith, from, e)) ∙ dots;
}

-- the first unused record is none of the first two
pub unused_from : (d up : ℕ) (xs : List Slot) → slice_get xs 0 ≡ Some (Row d (46 ∷ []) None) → slice_get xs 1 ≡ Some (Row up (46 ∷ 46 ∷ []) None) → 2 ≤ position_or_len is_unused xs
unused_from d up xs dot dots = go (position_or_len is_unused xs) (unused_place xs)
  where
    go : (j : ℕ) → slot_in xs j ≡ Unused → 2 ≤ j
    go zero h = let row : Row d (46 ∷ []) None ≡ Unused = sym (ap (λ o. unwrap_or o Unused) dot) ∙ h in absurd (cc)
    go (suc zero) h = let row : Row up (46 ∷ 46 ∷ []) None ≡ Unused = sym (ap (λ o. unwrap_or o Unused) dots) ∙ h in absurd (cc)
    go (suc (suc j)) h = omega arith

-- slots with a new row fit a directory
pub fit_added : (blocksize d : ℕ) → HoldsRecords blocksize → (xs : List Slot) (up : ℕ) (row : Slot) → slice_get xs 0 ≡ Some (Row d (46 ∷ []) None) → slice_get xs 1 ≡ Some (Row up (46 ∷ 46 ∷ []) None)
    → FitSlots blocksize d (position_or_len is_unused xs) xs up (slots_with blocksize xs row)
fit_added blocksize d holds xs up row dot dots = go (nat_lt (position_or_len is_unused xs) (length xs)) refl
  where
    go : (b : Bool) → nat_lt (position_or_len is_unused xs) (length xs) ≡ b
        → FitSlots blocksize d (position_or_len is_unused xs) xs up (if b then slice_set xs (position_or_len is_unused xs) row else xs ++ row ∷ replicate (blocksize / 32 - 1) Unused)
    go true is = fit_set blocksize d (position_or_len is_unused xs) xs up row (unused_from d up xs dot dots) (ltb-true (position_or_len is_unused xs) (length xs) is) dot dots
    go false is =
        let past = ltb-false (position_or_len is_unused xs) (length xs) is in
        let most = prefix_len-le-length (λ x. not (is_unused x)) xs in
        let end : position_or_len is_unused xs ≡ length xs = omega arith in
        let long : length (xs ++ row ∷ replicate (blocksize / 32 - 1) Unused) ≡ length xs + suc (blocksize / 32 - 1) = length-append xs (row ∷ replicate (blocksize / 32 - 1) Unused) ∙ ap (λ n. length xs + suc n) (length-replicate (blocksize / 32 - 1) Unused) in
        let two = holds.two in
        record {
          within = omega (arith, end, long);
          grown = inr (omega (arith, long, two), end);
          dot = get_longer xs (row ∷ replicate (blocksize / 32 - 1) Unused) 0 (Row d (46 ∷ []) None) dot;
          dots = get_longer xs (row ∷ replicate (blocksize / 32 - 1) Unused) 1 (Row up (46 ∷ 46 ∷ []) None) dots;
        }

-- what a directory on the way is
pub directory_whole : (blocksize : ℕ) (t : Tree) (d : ℕ) (h : IsDirectoryAt t d) → AreWhole blocksize t → IsWholeDirectory blocksize d h.entry h.slots h.up
directory_whole blocksize t d h whole = let w = whole d h.entry h.live in subst (λ b. IsWholeBody blocksize d h.entry b) h.body w.body

-- ---- rows

module _ (s : Setting) (holds : HoldsRecords s.blocksize) (d : ℕ) (e : Edit) (h : IsDirectoryAt e.tree d) (steady : IsSteadyEdit s.blocksize e) where
  whole_here : IsWholeDirectory s.blocksize d h.entry h.slots h.up
  whole_here = directory_whole s.blocksize e.tree d h steady.entries

  -- a row is added
  pub steady_added : (n : ℕ) (name : List ℕ) → IsSteadyEdit s.blocksize (add_row s d n name e)
  steady_added n name =
      let long = number_for e.tree name in
      let f : Edit = with_long s.blocksize long name e in
      let there : IsDirectoryAt f.tree d = record { entry = h.entry; slots = h.slots; up = h.up; live = long_inodes s.blocksize long name e d ∙ h.live; body = h.body } in
      subst (λ xs. IsSteadyEdit s.blocksize (with_attr d (content_changed s.moment) (writing_record s.blocksize d (position_or_len is_unused xs) (slots_with s.blocksize xs (Row n name long)) f))) (sym (directory_slots e.tree d h))
      (steady_attr s.blocksize d (content_changed s.moment) (writing_record s.blocksize d (position_or_len is_unused h.slots) (slots_with s.blocksize h.slots (Row n name long)) f)
      (steady_record s.blocksize holds d (position_or_len is_unused h.slots) (slots_with s.blocksize h.slots (Row n name long)) f there (steady_long s.blocksize long name e steady)
      (fit_added s.blocksize d holds h.slots h.up (Row n name long) whole_here.dot whole_here.dots)))

  -- a row is cleared
  pub steady_cleared : (k : ℕ) → 2 ≤ k → k < length h.slots → ((i : ℕ) → is_in (written_in OfLongfile e.written) i ≡ true → ⊥) → IsSteadyEdit s.blocksize (clear_row s d k e)
  steady_cleared k from within none =
      let long = long_of_slot (slot_at e.tree d k) in
      let f : Edit = without_long long e in
      let there : IsDirectoryAt f.tree d = record { entry = h.entry; slots = h.slots; up = h.up; live = long_inodes_stay long e d ∙ h.live; body = h.body } in
      subst (λ xs. IsSteadyEdit s.blocksize (with_attr d (content_changed s.moment) (writing_record s.blocksize d k (slice_set xs k Unused) f))) (sym (directory_slots e.tree d h))
      (steady_attr s.blocksize d (content_changed s.moment) (writing_record s.blocksize d k (slice_set h.slots k Unused) f)
      (steady_record s.blocksize holds d k (slice_set h.slots k Unused) f there (steady_without s.blocksize long e steady none) (fit_set s.blocksize d k h.slots h.up Unused from within whole_here.dot whole_here.dots)))

  -- a row names another inode
  pub steady_pointed : (k n : ℕ) → 2 ≤ k → k < length h.slots → IsSteadyEdit s.blocksize (point_row s d k n e)
  steady_pointed k n from within =
      let row = pointed n (slot_at e.tree d k) in
      subst (λ xs. IsSteadyEdit s.blocksize (with_attr d (content_changed s.moment) (writing_record s.blocksize d k (slice_set xs k row) e))) (sym (directory_slots e.tree d h))
      (steady_attr s.blocksize d (content_changed s.moment) (writing_record s.blocksize d k (slice_set h.slots k row) e)
      (steady_record s.blocksize holds d k (slice_set h.slots k row) e h steady (fit_set s.blocksize d k h.slots h.up row from within whole_here.dot whole_here.dots)))

  -- the row `..` is the second one, and names another directory
  pub fit_parent : (xs : List Slot) (up to : ℕ) → slice_get xs 0 ≡ Some (Row d (46 ∷ []) None) → slice_get xs 1 ≡ Some (Row up (46 ∷ 46 ∷ []) None)
      → FitSlots s.blocksize d (position_or_len (has_name (46 ∷ 46 ∷ [])) xs) xs to (slice_set xs (position_or_len (has_name (46 ∷ 46 ∷ [])) xs) (pointed to (slot_in xs (position_or_len (has_name (46 ∷ 46 ∷ [])) xs))))
  fit_parent [] up to dot dots = absurd (cc)
  fit_parent (a ∷ []) up to dot dots = absurd (cc)
  fit_parent (a ∷ b ∷ rest) up to dot dots =
      let first : Row d (46 ∷ []) None ≡ a = cc in
      let second : Row up (46 ∷ 46 ∷ []) None ≡ b = cc in
      subst (λ x. FitSlots s.blocksize d (position_or_len (has_name (46 ∷ 46 ∷ [])) (x ∷ b ∷ rest)) (x ∷ b ∷ rest) to (slice_set (x ∷ b ∷ rest) (position_or_len (has_name (46 ∷ 46 ∷ [])) (x ∷ b ∷ rest)) (pointed to (slot_in (x ∷ b ∷ rest) (position_or_len (has_name (46 ∷ 46 ∷ [])) (x ∷ b ∷ rest)))))) first
      (subst (λ y. FitSlots s.blocksize d (position_or_len (has_name (46 ∷ 46 ∷ [])) (Row d (46 ∷ []) None ∷ y ∷ rest)) (Row d (46 ∷ []) None ∷ y ∷ rest) to (slice_set (Row d (46 ∷ []) None ∷ y ∷ rest) (position_or_len (has_name (46 ∷ 46 ∷ [])) (Row d (46 ∷ []) None ∷ y ∷ rest)) (pointed to (slot_in (Row d (46 ∷ []) None ∷ y ∷ rest) (position_or_len (has_name (46 ∷ 46 ∷ [])) (Row d (46 ∷ []) None ∷ y ∷ rest)))))) second
      (record { within = omega arith; grown = inl refl; dot = refl; dots = refl }))

  -- another parent
  pub steady_parent : (to : ℕ) → IsSteadyEdit s.blocksize (with_parent s d to e)
  steady_parent to =
      subst (λ xs. IsSteadyEdit s.blocksize (let k = position_or_len (has_name (46 ∷ 46 ∷ [])) xs in
      writing (OfInode d) (leaf_of_record s.blocksize k ∷ []) (altering d (with_slots s.blocksize (slice_set xs k (pointed to (slot_in xs k))) to (leaf_of_record s.blocksize k)) e))) (sym (directory_slots e.tree d h))
      (steady_slots s.blocksize holds d (position_or_len (has_name (46 ∷ 46 ∷ [])) h.slots) _ to e h steady (fit_parent h.slots h.up to whole_here.dot whole_here.dots))

-- a directory that moves gets another parent
pub steady_moved : (s : Setting) → HoldsRecords s.blocksize → (n from to : ℕ) (e : Edit) → IsSteadyEdit s.blocksize e → IsSteadyEdit s.blocksize (move_parent s n from to e)
steady_moved s holds n from to e steady = go (is_directory e.tree n && not (from == to)) refl
  where
    go : (b : Bool) → (is_directory e.tree n && not (from == to)) ≡ b → IsSteadyEdit s.blocksize (if b then with_parent s n to e else e)
    go true is = steady_parent s holds n e (directory_at e.tree n (and_left (is_directory e.tree n) (not (from == to)) is)) steady to
    go false is = steady

-- an inode loses a row: none of its leaves was written
pub steady_lost : (s : Setting) (n : ℕ) (e : Edit) → IsSteadyEdit s.blocksize e → ((i : ℕ) → is_in (written_in (OfInode n) e.written) i ≡ true → ⊥) → IsSteadyEdit s.blocksize (lose_row s n e)
steady_lost s n e steady none = go (links_of e.tree n == 0)
  where
    go : (b : Bool) → IsSteadyEdit s.blocksize (if b then putting n None e else with_attr n (attr_changed s.moment) e)
    go true = steady_set s.blocksize n None e steady (λ y h. absurd (cc)) (λ i w h. absurd (none i w))
    go false = steady_attr s.blocksize n (attr_changed s.moment) e steady
