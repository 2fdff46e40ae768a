-- Each operation leaves each long name with a row that has its number.
use Rattle.std.proofs.Common.{◌≡◌, ℕ, ◌<◌, ◌⊎◌, inl, inr, List, [], ◌∷◌, length, refl, sym, ap, ◌∙◌, subst, zero, suc}
use Rattle.std.specs.Prelude.{◌≢◌, Bool, true, false, not, ◌&&◌, Option, Some, None, is_some, option_map, slice_set, nat_lt, ◌==◌, if◌then◌else◌, Ok, option_and_then}
use Rattle.std.specs.List.{position_or_len}
use Rattle.std.proofs.lemmas.Bool.{cases_eq, cases_lt, eqb-true}
use Rattle.qx_geom.proofs.Truths.{and_left, and_right, true_or_false}
use Rattle.qx_model.specs.declared.attr.Attr.{Attr}
use Rattle.qx_model.specs.declared.operation.Op.{Op}
use Rattle.qx_model.specs.Tree.{Body, Directory, Entry, File, Link, Row, Slot, Special, Tree, Unused, entry_of, is_dots, links_of, named_by, slots_of}
use Rattle.qx_model.specs.Rooted.{IsRooted}
use Rattle.qx_model.specs.Directories.{is_directory, is_unused, long_of_slot, slot_at, with_entry, parent_of_body}
use Rattle.qx_model.specs.Edits.{Edit, Setting, StandsLive, absent_number, add_row, altering, attr_changed, clear_row, content_changed, lose_row, move_parent, new_inode, number_for, point_row, pointed, putting, slots_with, unchanged, with_attr, with_long, with_parent, without_long, writing, writing_record}
use Rattle.qx_model.specs.Answering.{FileAt}
use Rattle.qx_model.specs.Contents.{rewriting, with_content, written_at}
use Rattle.qx_model.specs.Effects.{Edits}
use Rattle.qx_model.specs.NewNames.{made_at}
use Rattle.qx_model.specs.Owners.{OfInode}
use Rattle.qx_model.specs.Paths.{Place}
use Rattle.qx_model.specs.Operate.{operate}
use Rattle.qx_model.specs.Whole.{AreUsed, AreWhole, HoldsRecords, IsWhole, IsWholeDirectory, long_name_of, IsWholeBody}
use Rattle.qx_model.specs.EmptyTree.{empty_tree}
use Rattle.qx_model.proofs.WholeOperations.{record_pointed}
use Rattle.qx_model.proofs.WholeTrees.{stays, unnumbered}
use Rattle.qx_model.proofs.AddedRows.{set_at, set_at-other, set_at-same}
use Rattle.qx_model.proofs.DoneEdits.{IsDone, IsFileAt, IsNewEntry, MayGo, attributes, bytes_written, edit_done, linked, lost, made, row_moved, row_moved_onto, size_set}
use Rattle.qx_model.proofs.EditOutlines.{IsDirectoryAt, added_outlines, directory_at, directory_outline, replaced, unused_place, new_place_facts}
use Rattle.qx_model.proofs.Outlines.{Absent, Dir, Outline, altered_outlines, body_outline, entry-other, entry_outline, outline_of, set_past, slot_in, slots_in, row_read, to_rooted}
use Rattle.qx_model.proofs.RootedMoves.{dots_at, parent_outlines, repointed}
use Rattle.qx_model.proofs.RootedRemovals.{cleared_outlines, bare_silent}
use Rattle.qx_model.proofs.RootedReplacements.{pointed_outlines}
use Rattle.qx_model.proofs.WholeEntries.{set_or_stays}
use Rattle.qx_model.proofs.WholeNames.{named_beside, unnamed_at, unnamed_beside}
use Rattle.qx_model.proofs.WholeNumbers.{HasNames, SameLongs, long_name_entry, longs_with, same_name, slot_by_outline, written_longs, names_cleared, names_entry, names_pointed, pointed_row}

-- ---- rows by outlines

-- some row has this number
record Numbered (o : ℕ → Outline) (q : ℕ) : Type 0 where
  d : ℕ
  k : ℕ
  i : ℕ
  name : List ℕ
  is : slots_in (o d) k ≡ Row i name (Some q)

alike : (o new : ℕ → Outline) → ((m : ℕ) → new m ≡ o m) → (q : ℕ) → Numbered o q → Numbered new q
alike o new same q r = record { d = r.d; k = r.k; i = r.i; name = r.name; is = ap (λ x. slots_in x r.k) (same r.d) ∙ r.is }

-- where a directory gets other slots that keep the rows with this number
slots_kept : (o new : ℕ → Outline) (d : ℕ) (f g : ℕ → Slot) (p r : ℕ) → o d ≡ Dir f p → ((m : ℕ) → new m ≡ set_at d (Dir g r) o m) → (q : ℕ)
    → ((k i : ℕ) (name : List ℕ) → f k ≡ Row i name (Some q) → (y : ℕ) × (g k ≡ Row y name (Some q))) → Numbered o q → Numbered new q
slots_kept o new d f g p r was now q rows n = elim (cases_eq n.d d) [
  | inl at ↦
      let here : f n.k ≡ Row n.i n.name (Some q) = ap (λ x. slots_in x n.k) (sym was ∙ ap o (sym at)) ∙ n.is in
      let w = rows n.k n.i n.name here in
      record { d = d; k = n.k; i = w.0; name = n.name; is = ap (λ x. slots_in x n.k) (now d ∙ set_at-same d (Dir g r) o) ∙ w.1 }
  | inr ne ↦ record { d = n.d; k = n.k; i = n.i; name = n.name; is = ap (λ x. slots_in x n.k) (now n.d ∙ set_at-other d (Dir g r) o n.d ne) ∙ n.is }
]

-- each long name of a tree is some row's
abbrev Used : Tree → Type 0
Used t = (q : ℕ) → is_some (long_name_of t q) ≡ true → Numbered (outline_of t) q

-- names that there are were there, and their rows stay
used_by : (t u : Tree) → ((q : ℕ) → is_some (long_name_of u q) ≡ true → is_some (long_name_of t q) ≡ true) → ((q : ℕ) → is_some (long_name_of u q) ≡ true → Numbered (outline_of t) q → Numbered (outline_of u) q) → Used t → Used u
used_by t u old kept h q there = kept q there (h q (old q there))

-- the same names
by_names : (t u : Tree) (q : ℕ) → long_name_of u q ≡ long_name_of t q → is_some (long_name_of u q) ≡ true → is_some (long_name_of t q) ≡ true
by_names t u q same there = ap (λ o. is_some o) (sym same) ∙ there

-- ---- inodes

entry_used : (t : Tree) (n : ℕ) (x : Option Entry) → ((k i q : ℕ) (name : List ℕ) → slots_in (outline_of t n) k ≡ Row i name (Some q) → (y : ℕ) × (slots_in (entry_outline x) k ≡ Row y name (Some q)))
    → Used t → Used (with_entry t n x)
entry_used t n x rows = used_by t (with_entry t n x) (λ q there. by_names t (with_entry t n x) q (long_name_entry t n x q) there) (λ q there r. stays q r (cases_eq r.d n))
  where
    stays : (q : ℕ) (r : Numbered (outline_of t) q) → (r.d ≡ n) ⊎ (r.d ≢ n) → Numbered (outline_of (with_entry t n x)) q
    stays q r (inr ne) = record { d = r.d; k = r.k; i = r.i; name = r.name; is = ap (λ o. slots_in (entry_outline o) r.k) (entry-other t n r.d x (λ z. ne (sym z))) ∙ r.is }
    stays q r (inl at) =
        let here : slots_in (outline_of t n) r.k ≡ Row r.i r.name (Some q) = ap (λ m. slots_in (outline_of t m) r.k) (sym at) ∙ r.is in
        elim (set_or_stays t n x) [
          | inl new ↦ (let w = rows r.k r.i q r.name here in record { d = n; k = r.k; i = w.0; name = r.name; is = ap (λ o. slots_in (entry_outline o) r.k) new ∙ w.1 })
          | inr old ↦ record { d = n; k = r.k; i = r.i; name = r.name; is = ap (λ o. slots_in (entry_outline o) r.k) old ∙ here }
        ]

altered_used : (n : ℕ) (change : Entry → Entry) (e : Edit) → ((x : Entry) → entry_of e.tree n ≡ Some x → body_outline (let y = change x in y.body) ≡ body_outline x.body) → Used e.tree → Used (altering n change e).tree
altered_used n change e same =
    used_by e.tree (altering n change e).tree (λ q there. by_names e.tree (altering n change e).tree q (long_name_entry e.tree n (option_map change (entry_of e.tree n)) q) there)
    (λ q there r. alike (outline_of e.tree) (outline_of (altering n change e).tree) (altered_outlines e.tree n change same) q r)

attr_used : (n : ℕ) (change : Attr → Attr) (e : Edit) → Used e.tree → Used (with_attr n change e).tree
attr_used n change e = altered_used n (λ x. record x { attr = change x.attr }) e (λ x live. refl)

-- ---- rows

-- a row that is pointed elsewhere keeps its number
pointed_keeps : (f : ℕ → Slot) (j n k i q : ℕ) (name : List ℕ) → f k ≡ Row i name (Some q) → (y : ℕ) × (set_at j (pointed n (f j)) f k ≡ Row y name (Some q))
pointed_keeps f j n k i q name row = elim (cases_eq k j) [
  | inl is ↦ (n, ap (set_at j (pointed n (f j)) f) is ∙ set_at-same j (pointed n (f j)) f ∙ ap (λ m. pointed n (f m)) (sym is) ∙ ap (pointed n) row)
  | inr ne ↦ (i, set_at-other j (pointed n (f j)) f k ne ∙ row)
]

module _ (s : Setting) (d : ℕ) (e : Edit) (h : IsDirectoryAt e.tree d) where
  pointed_used : (k n : ℕ) → k < length h.slots → Used e.tree → Used (point_row s d k n e).tree
  pointed_used k n within =
      used_by e.tree (point_row s d k n e).tree (λ q there. by_names e.tree (point_row s d k n e).tree q (same_name e.tree (point_row s d k n e).tree (written_longs s d k (slice_set (slots_of e.tree d) k (pointed n (slot_at e.tree d k))) e) q) there)
      (λ q there r. slots_kept (outline_of e.tree) (outline_of (point_row s d k n e).tree) d (slot_in h.slots) (set_at k (pointed n (slot_in h.slots k)) (slot_in h.slots)) h.up h.up (directory_outline e.tree d h) (pointed_outlines s d k n e h within) q
      (λ j i name row. pointed_keeps (slot_in h.slots) k n j i q name row) r)

  parent_used : (c : ℕ) → Used e.tree → Used (with_parent s d c e).tree
  parent_used c =
      used_by e.tree (with_parent s d c e).tree (λ q there. by_names e.tree (with_parent s d c e).tree q (same_name e.tree (with_parent s d c e).tree (longs_with e.tree d _) q) there)
      (λ q there r. slots_kept (outline_of e.tree) (outline_of (with_parent s d c e).tree) d (slot_in h.slots) (slot_in (repointed c h.slots)) h.up c (directory_outline e.tree d h) (parent_outlines s d c e h) q (rows q) r)
    where
      rows : (q k i : ℕ) (name : List ℕ) → slot_in h.slots k ≡ Row i name (Some q) → (y : ℕ) × (slot_in (repointed c h.slots) k ≡ Row y name (Some q))
      rows q k i name row = elim (cases_lt (dots_at h.slots) (length h.slots)) [
        | inl below ↦ (let w = pointed_keeps (slot_in h.slots) (dots_at h.slots) c k i q name row in (w.0, replaced h.slots (pointed c (slot_in h.slots (dots_at h.slots))) (dots_at h.slots) k below ∙ w.1))
        | inr past ↦ (i, ap (λ xs. slot_in xs k) (set_past h.slots (dots_at h.slots) (pointed c (slot_in h.slots (dots_at h.slots))) past) ∙ row)
      ]

-- a directory gets another parent
moved_used : (s : Setting) (n from to : ℕ) (e : Edit) → Used e.tree → Used (move_parent s n from to e).tree
moved_used s n from to e u = go (is_directory e.tree n && not (from == to)) refl
  where
    go : (b : Bool) → (is_directory e.tree n && not (from == to)) ≡ b → Used (let f = if b then with_parent s n to e else e in f.tree)
    go true is = parent_used s n e (directory_at e.tree n (and_left (is_directory e.tree n) (not (from == to)) is)) to u
    go false is = u

-- record k of directory d cleared, and this long name gone
abbrev cleared_by : Setting → ℕ → ℕ → Edit → Option ℕ → Tree
cleared_by s d k e long = let f = with_attr d (content_changed s.moment) (writing_record s.blocksize d k (slice_set (slots_of e.tree d) k Unused) (without_long long e)) in f.tree

-- directory d with a new row of this number
abbrev added_by : Setting → ℕ → ℕ → List ℕ → Edit → Option ℕ → Tree
added_by s d n name e long =
    let f = with_attr d (content_changed s.moment) (writing_record s.blocksize d (position_or_len is_unused (slots_of e.tree d)) (slots_with s.blocksize (slots_of e.tree d) (Row n name long)) (with_long s.blocksize long name e)) in f.tree

module _ (s : Setting) (d : ℕ) (e : Edit) (h : IsDirectoryAt e.tree d) (names : HasNames s.blocksize e.tree) (used : Used e.tree) where
  -- a row is cleared, and its long name goes
  cleared_used : (k : ℕ) → k < length h.slots → Used (clear_row s d k e).tree
  cleared_used k within = go (long_of_slot (slot_at e.tree d k)) refl
    where
      slot_is : slot_at e.tree d k ≡ slot_in h.slots k
      slot_is = slot_by_outline e.tree d k ∙ ap (λ o. slots_in o k) (directory_outline e.tree d h)

      -- rows of another number than the cleared one stay
      rows : (q : ℕ) → (long_of_slot (slot_at e.tree d k) ≢ Some q) → (j i : ℕ) (name : List ℕ) → slot_in h.slots j ≡ Row i name (Some q) → (y : ℕ) × (set_at k Unused (slot_in h.slots) j ≡ Row y name (Some q))
      rows q ne j i name row = elim (cases_eq j k) [
        | inl at ↦ absurd (ne (ap long_of_slot (slot_is ∙ ap (slot_in h.slots) (sym at) ∙ row)))
        | inr other ↦ (i, set_at-other k Unused (slot_in h.slots) j other ∙ row)
      ]

      kept : (q : ℕ) → (long_of_slot (slot_at e.tree d k) ≢ Some q) → Numbered (outline_of e.tree) q → Numbered (outline_of (clear_row s d k e).tree) q
      kept q ne r = slots_kept (outline_of e.tree) (outline_of (clear_row s d k e).tree) d (slot_in h.slots) (set_at k Unused (slot_in h.slots)) h.up h.up (directory_outline e.tree d h) (cleared_outlines s d k e h within) q (rows q ne) r

      go : (long : Option ℕ) → long_of_slot (slot_at e.tree d k) ≡ long → Used (cleared_by s d k e (long_of_slot (slot_at e.tree d k)))
      go None is =
          let longs : SameLongs e.tree (clear_row s d k e).tree = subst (λ l. SameLongs e.tree (cleared_by s d k e l)) (sym is) (written_longs s d k (slice_set (slots_of e.tree d) k Unused) e) in
          used_by e.tree (clear_row s d k e).tree (λ q there. by_names e.tree (clear_row s d k e).tree q (same_name e.tree (clear_row s d k e).tree longs q) there) (λ q there r. kept q (λ z. clash q (sym is ∙ z)) r) used
        where
          clash : (q : ℕ) → None ≡ Some q → ⊥
          clash q z = cc
      go (Some p) is =
          let longs : SameLongs (without_long (Some p) e).tree (clear_row s d k e).tree = subst (λ l. SameLongs (without_long (Some p) e).tree (cleared_by s d k e l)) (sym is) (written_longs s d k (slice_set (slots_of e.tree d) k Unused) (without_long (Some p) e)) in
          used_by e.tree (clear_row s d k e).tree
          (λ q there. by_names e.tree (clear_row s d k e).tree q (same_name (without_long (Some p) e).tree (clear_row s d k e).tree longs q ∙ unnamed_beside s.blocksize e.tree names.longs p q (differ q longs there)) there)
          (λ q there r. kept q (λ z. differ q longs there (one q (sym z ∙ is))) r) used
        where
          one : (q : ℕ) → Some q ≡ Some p → q ≡ p
          one q z = cc

          -- its own name is gone
          differ : (q : ℕ) → SameLongs (without_long (Some p) e).tree (clear_row s d k e).tree → is_some (long_name_of (clear_row s d k e).tree q) ≡ true → q ≢ p
          differ q longs there z =
              let gone : long_name_of (clear_row s d k e).tree q ≡ None = same_name (without_long (Some p) e).tree (clear_row s d k e).tree longs q ∙ ap (long_name_of (without_long (Some p) e).tree) z ∙ unnamed_at s.blocksize e.tree names.longs p in
              true_or_false (is_some (long_name_of (clear_row s d k e).tree q)) there (ap (λ o. is_some o) gone)

  -- a row is added, and has the number of its long name
  added_used : (n : ℕ) (name : List ℕ) → Used (add_row s d n name e).tree
  added_used n name = go (number_for e.tree name) refl
    where
      rows : (q k i : ℕ) (other : List ℕ) → slot_in h.slots k ≡ Row i other (Some q) → (y : ℕ) × (set_at (position_or_len is_unused h.slots) (Row n name (number_for e.tree name)) (slot_in h.slots) k ≡ Row y other (Some q))
      rows q k i other row = elim (cases_eq k (position_or_len is_unused h.slots)) [
        | inl at ↦ absurd (clash (sym (unused_place h.slots) ∙ ap (slot_in h.slots) (sym at) ∙ row))
        | inr ne ↦ (i, set_at-other (position_or_len is_unused h.slots) (Row n name (number_for e.tree name)) (slot_in h.slots) k ne ∙ row)
      ]
        where
          clash : Unused ≡ Row i other (Some q) → ⊥
          clash z = cc

      kept : (q : ℕ) → Numbered (outline_of e.tree) q → Numbered (outline_of (add_row s d n name e).tree) q
      kept q r =
          slots_kept (outline_of e.tree) (outline_of (add_row s d n name e).tree) d (slot_in h.slots) (set_at (position_or_len is_unused h.slots) (Row n name (number_for e.tree name)) (slot_in h.slots)) h.up h.up (directory_outline e.tree d h)
          (added_outlines s d n name e h) q (rows q) r

      -- the new row
      own : (q : ℕ) → number_for e.tree name ≡ Some q → Numbered (outline_of (add_row s d n name e).tree) q
      own q is = record {
        d = d;
        k = position_or_len is_unused h.slots;
        i = n;
        name = name;
        is = ap (λ o. slots_in o (position_or_len is_unused h.slots)) (added_outlines s d n name e h d ∙ set_at-same d (Dir (set_at (position_or_len is_unused h.slots) (Row n name (number_for e.tree name)) (slot_in h.slots)) h.up) (outline_of e.tree))
            ∙ set_at-same (position_or_len is_unused h.slots) (Row n name (number_for e.tree name)) (slot_in h.slots) ∙ ap (Row n name) is;
      }

      go : (long : Option ℕ) → number_for e.tree name ≡ long → Used (added_by s d n name e (number_for e.tree name))
      go None is =
          let longs : SameLongs e.tree (add_row s d n name e).tree = subst (λ l. SameLongs e.tree (added_by s d n name e l)) (sym is) (written_longs s d (position_or_len is_unused (slots_of e.tree d)) (slots_with s.blocksize (slots_of e.tree d) (Row n name None)) e) in
          used_by e.tree (add_row s d n name e).tree (λ q there. by_names e.tree (add_row s d n name e).tree q (same_name e.tree (add_row s d n name e).tree longs q) there) (λ q there r. kept q r) used
      go (Some p) is =
          let longs : SameLongs (with_long s.blocksize (Some p) name e).tree (add_row s d n name e).tree =
          subst (λ l. SameLongs (with_long s.blocksize (Some p) name e).tree (added_by s d n name e l)) (sym is) (written_longs s d (position_or_len is_unused (slots_of e.tree d)) (slots_with s.blocksize (slots_of e.tree d) (Row n name (Some p))) (with_long s.blocksize (Some p) name e)) in
          numbered p is (absent is) longs
        where
          absent : number_for e.tree name ≡ Some p → absent_number e.tree ≡ p
          absent is = of_test (nat_lt 27 (length name)) is
            where
              of_test : (b : Bool) → (if b then Some (absent_number e.tree) else None) ≡ Some p → absent_number e.tree ≡ p
              of_test true h = cc
              of_test false h = absurd (cc)

          numbered : (p : ℕ) → number_for e.tree name ≡ Some p → absent_number e.tree ≡ p → SameLongs (with_long s.blocksize (Some p) name e).tree (add_row s d n name e).tree → Used (add_row s d n name e).tree
          numbered p is at longs = by_number
            where
              -- the others were there
              old : (q : ℕ) → q ≢ p → long_name_of (add_row s d n name e).tree q ≡ long_name_of e.tree q
              old q ne =
                  same_name (with_long s.blocksize (Some p) name e).tree (add_row s d n name e).tree longs q
                  ∙ subst (λ z. q ≢ z → long_name_of (with_long s.blocksize (Some z) name e).tree q ≡ long_name_of e.tree q) at (named_beside s.blocksize e.tree names.longs name q) ne

              by_number : (q : ℕ) → is_some (long_name_of (add_row s d n name e).tree q) ≡ true → Numbered (outline_of (add_row s d n name e).tree) q
              by_number q there = elim (cases_eq q p) [
                | inl same ↦ own q (is ∙ ap (λ z. Some z) (sym same))
                | inr ne ↦ kept q (used q (by_names e.tree (add_row s d n name e).tree q (old q ne) there))
              ]

-- an inode loses a row; where it goes, it has no row with a number
lost_used : (s : Setting) (n : ℕ) (e : Edit) → ((k i q : ℕ) (name : List ℕ) → slots_in (outline_of e.tree n) k ≡ Row i name (Some q) → ⊥) → Used e.tree → Used (lose_row s n e).tree
lost_used s n e silent u = go (links_of e.tree n == 0)
  where
    go : (b : Bool) → Used (let f = if b then putting n None e else with_attr n (attr_changed s.moment) e in f.tree)
    go true = entry_used e.tree n None (λ k i q name row. absurd (silent k i q name row)) u
    go false = attr_used n (attr_changed s.moment) e u

-- ---- operations

-- the names `.` and `..`
dots_are : (name : List ℕ) → is_dots name ≡ true → (name ≡ 46 ∷ []) ⊎ (name ≡ 46 ∷ 46 ∷ [])
dots_are [] h = absurd (cc)
dots_are (a ∷ []) h = inl (ap (λ x. x ∷ []) (eqb-true a 46 h))
dots_are (a ∷ b ∷ []) h = inr (let one = eqb-true a 46 (and_left (a == 46) (b == 46) h) in let two = eqb-true b 46 (and_right (a == 46) (b == 46) h) in λ i. one i ∷ two i ∷ [])
dots_are (a ∷ b ∷ c ∷ rest) h = absurd (cc)

-- an inode whose last row may go has no row with a number
gone_silent : (blocksize : ℕ) (t : Tree) (n : ℕ) → IsRooted t → AreWhole blocksize t → MayGo t n → (k i q : ℕ) (name : List ℕ) → slots_in (outline_of t n) k ≡ Row i name (Some q) → ⊥
gone_silent blocksize t n r whole may k i q name row = of_test (is_directory t n) refl
  where
    nothing : Unused ≡ Row i name (Some q) → ⊥
    nothing z = cc

    long_is : (m j : ℕ) (a : List ℕ) (c : List ℕ) → Row m a None ≡ Row j c (Some q) → ⊥
    long_is m j a c z = cc

    -- the row has the place of one of the first two, and these have no number
    first : (h : IsDirectoryAt t n) → IsWholeBody blocksize n h.entry h.entry.body → (name ≡ 46 ∷ []) ⊎ (name ≡ 46 ∷ 46 ∷ []) → ⊥
    first h body (inl one) =
        let w : IsWholeDirectory blocksize n h.entry h.slots h.up = subst (IsWholeBody blocksize n h.entry) h.body body in
        let rows = (to_rooted t r).rows n h.up (record { slots = slot_in h.slots; is = directory_outline t n h }) in
        let at : slots_in (outline_of t n) 0 ≡ Row n (46 ∷ []) None = ap (λ o. slots_in o 0) (directory_outline t n h) ∙ row_read h.slots 0 (Row n (46 ∷ []) None) w.dot in
        let same : k ≡ 0 = rows.differ k 0 i n (46 ∷ []) (Some q) None (row ∙ ap (λ m. Row i m (Some q)) one) at in
        long_is n i (46 ∷ []) name (sym at ∙ ap (slots_in (outline_of t n)) (sym same) ∙ row)
    first h body (inr two) =
        let w : IsWholeDirectory blocksize n h.entry h.slots h.up = subst (IsWholeBody blocksize n h.entry) h.body body in
        let rows = (to_rooted t r).rows n h.up (record { slots = slot_in h.slots; is = directory_outline t n h }) in
        let at : slots_in (outline_of t n) 1 ≡ Row h.up (46 ∷ 46 ∷ []) None = ap (λ o. slots_in o 1) (directory_outline t n h) ∙ row_read h.slots 1 (Row h.up (46 ∷ 46 ∷ []) None) w.dots in
        let same : k ≡ 1 = rows.differ k 1 i h.up (46 ∷ 46 ∷ []) (Some q) None (row ∙ ap (λ m. Row i m (Some q)) two) at in
        long_is h.up i (46 ∷ 46 ∷ []) name (sym at ∙ ap (slots_in (outline_of t n)) (sym same) ∙ row)

    dotted : (h : IsDirectoryAt t n) → is_directory t n ≡ true → (b : Bool) → is_dots name ≡ b → ⊥
    dotted h dir false is = bare_silent t n h (may dir) k i (ap named_by row ∙ ap (λ c. if c then None else Some i) is)
    dotted h dir true is = first h (whole n h.entry h.live).body (dots_are name is)

    of_body : (b : Body) → is_some (parent_of_body b) ≡ false → slots_in (body_outline b) k ≡ Row i name (Some q) → ⊥
    of_body (Directory slots parent) none z = absurd (cc)
    of_body (File content) none z = nothing z
    of_body (Link target) none z = nothing z
    of_body Special none z = nothing z

    of_entry : (o : Option Entry) → is_some (option_and_then (λ (e : Entry). parent_of_body e.body) o) ≡ false → slots_in (entry_outline o) k ≡ Row i name (Some q) → ⊥
    of_entry None none z = nothing z
    of_entry (Some x) none z = of_body x.body none z

    of_test : (b : Bool) → is_directory t n ≡ b → ⊥
    of_test true dir = dotted (directory_at t n dir) dir (is_dots name) refl
    of_test false none = of_entry (entry_of t n) none row

-- rows with numbers were there before, in a directory with other slots and elsewhere
slots_back : (o new : ℕ → Outline) (d : ℕ) (f g : ℕ → Slot) (p r : ℕ) → o d ≡ Dir f p → ((m : ℕ) → new m ≡ set_at d (Dir g r) o m)
    → ((k i q : ℕ) (name : List ℕ) → g k ≡ Row i name (Some q) → (y : ℕ) × (f k ≡ Row y name (Some q))) → (c k i q : ℕ) (name : List ℕ) → slots_in (new c) k ≡ Row i name (Some q) → (y : ℕ) × (slots_in (o c) k ≡ Row y name (Some q))
slots_back o new d f g p r was now rows c k i q name row = elim (cases_eq c d) [
  | inl at ↦
      let here : g k ≡ Row i name (Some q) = ap (λ x. slots_in x k) (sym (set_at-same d (Dir g r) o) ∙ sym (now d) ∙ ap new (sym at)) ∙ row in
      let w = rows k i q name here in
      (w.0, ap (λ x. slots_in x k) (ap o at ∙ was) ∙ w.1)
  | inr ne ↦ (i, ap (λ x. slots_in x k) (sym (now c ∙ set_at-other d (Dir g r) o c ne)) ∙ row)
]

cleared_back : (s : Setting) (d k : ℕ) (e : Edit) (h : IsDirectoryAt e.tree d) → k < length h.slots → (c j i q : ℕ) (name : List ℕ) → slots_in (outline_of (clear_row s d k e).tree c) j ≡ Row i name (Some q)
    → (y : ℕ) × (slots_in (outline_of e.tree c) j ≡ Row y name (Some q))
cleared_back s d k e h within =
    slots_back (outline_of e.tree) (outline_of (clear_row s d k e).tree) d (slot_in h.slots) (set_at k Unused (slot_in h.slots)) h.up h.up (directory_outline e.tree d h) (cleared_outlines s d k e h within) rows
  where
    rows : (j i q : ℕ) (name : List ℕ) → set_at k Unused (slot_in h.slots) j ≡ Row i name (Some q) → (y : ℕ) × (slot_in h.slots j ≡ Row y name (Some q))
    rows j i q name row = elim (cases_eq j k) [
      | inl at ↦ absurd (clash (sym (set_at-same k Unused (slot_in h.slots)) ∙ ap (set_at k Unused (slot_in h.slots)) (sym at) ∙ row))
      | inr ne ↦ (i, sym (set_at-other k Unused (slot_in h.slots) j ne) ∙ row)
    ]
      where
        clash : Unused ≡ Row i name (Some q) → ⊥
        clash z = cc

pointed_back : (s : Setting) (d k n : ℕ) (e : Edit) (h : IsDirectoryAt e.tree d) → k < length h.slots → (c j i q : ℕ) (name : List ℕ) → slots_in (outline_of (point_row s d k n e).tree c) j ≡ Row i name (Some q)
    → (y : ℕ) × (slots_in (outline_of e.tree c) j ≡ Row y name (Some q))
pointed_back s d k n e h within =
    slots_back (outline_of e.tree) (outline_of (point_row s d k n e).tree) d (slot_in h.slots) (set_at k (pointed n (slot_in h.slots k)) (slot_in h.slots)) h.up h.up (directory_outline e.tree d h) (pointed_outlines s d k n e h within)
    (λ j i q name row. pointed_row (slot_in h.slots) k n j i q name row)

module _ (s : Setting) (t : Tree) (r : IsRooted t) (whole : AreWhole s.blocksize t) (h : HasNames s.blocksize t) (u : Used t) where
  rewritten_used : (f : FileAt) (size : ℕ) (content leaves : List ℕ) → IsFileAt t f → Used (rewriting s t f size content leaves).tree
  rewritten_used f size content leaves is =
      attr_used f.inode (content_changed s.moment) (writing (OfInode f.inode) leaves (altering f.inode (with_content s.blocksize size content leaves) (unchanged t)))
      (altered_used f.inode (with_content s.blocksize size content leaves) (unchanged t) (λ x live. sym (ap body_outline (plain x live))) u)
    where
      plain : (x : Entry) → entry_of t f.inode ≡ Some x → x.body ≡ File f.content
      plain x live = let same : Some f.entry ≡ Some x = sym is.live ∙ live in let one : f.entry ≡ x = cc in ap (λ (y : Entry). y.body) (sym one) ∙ is.body

  bytes_used : (f : FileAt) (at : ℕ) (bytes : List ℕ) → IsFileAt t f → Used (written_at s t f at bytes).tree
  bytes_used f at [] is = attr_used f.inode (content_changed s.moment) (unchanged t) u
  bytes_used f at (b ∷ bytes) is = rewritten_used f _ _ _ is

  made_used : (p : Place) (n : ℕ) (x : Entry) (leaves : List ℕ) → is_directory t p.directory ≡ true → new_inode t ≡ Ok n → IsNewEntry s n p.directory x leaves → Used (made_at s t p n x leaves).tree
  made_used p n x leaves dir new is =
      let d = p.directory in
      let place = new_place_facts t n new in
      let g = directory_at t p.directory dir in
      let differ : p.directory ≢ n = λ e. not_absent g.slots g.up (sym (directory_outline t p.directory g) ∙ ap (outline_of t) e ∙ place.1) in
      let e0 : Edit = putting n (Some x) (unchanged t) in
      let there : IsDirectoryAt e0.tree d = record { entry = g.entry; slots = g.slots; up = g.up; live = entry-other t n d (Some x) (λ e. differ (sym e)) ∙ g.live; body = g.body } in
      added_used s d e0 there (names_entry s.blocksize t n (Some x) (λ k i number name z. absurd (unnumbered s t h n p.directory x leaves is k i number name z)) h)
      (entry_used t n (Some x) (λ k i q name row. absurd (no_row k i q name (ap (λ o. slots_in o k) (sym place.1) ∙ row))) u) n p.name
    where
      not_absent : (xs : List Slot) (up : ℕ) → Dir (slot_in xs) up ≡ Absent → ⊥
      not_absent xs up e = cc

      no_row : (k i q : ℕ) (name : List ℕ) → slots_in Absent k ≡ Row i name (Some q) → ⊥
      no_row k i q name z = let clash : Unused ≡ Row i name (Some q) = z in cc

  done_used : (e : Edit) → IsDone s t e → Used e.tree
  done_used e (attributes n change kept) = attr_used n change (unchanged t) u
  done_used e (bytes_written f at bytes is fits) = bytes_used f at bytes is
  done_used e (size_set f size is fits) = rewritten_used f _ _ _ is
  done_used e (made p n x leaves new is f) = let place = new.place in made_used p n x leaves place.directory is f
  done_used e (linked p n new live plain no_special) =
      let place = new.place in
      attr_used n (attr_changed s.moment) (add_row s p.directory n p.name (unchanged t)) (added_used s p.directory (unchanged t) (directory_at t p.directory place.directory) h u n p.name)
  done_used e (lost row is may) =
      lost_used s row.inode (clear_row s row.directory row.record_number (unchanged t))
      (λ k i q name z. let w = cleared_back s row.directory row.record_number (unchanged t) is.directory is.within row.inode k i q name z in gone_silent s.blocksize t row.inode r whole may k w.0 q name w.1)
      (cleared_used s row.directory (unchanged t) is.directory h u row.record_number is.within)
  done_used e (row_moved row p is at free outside) =
      let cleared = clear_row s row.directory row.record_number (unchanged t) in
      attr_used row.inode (attr_changed s.moment) (move_parent s row.inode row.directory p.directory (add_row s p.directory row.inode p.name cleared))
      (moved_used s row.inode row.directory p.directory (add_row s p.directory row.inode p.name cleared)
      (added_used s p.directory cleared (stays s t h row is p.directory at.directory) (names_cleared s row.directory (unchanged t) is.directory h row.record_number is.within)
      (cleared_used s row.directory (unchanged t) is.directory h u row.record_number is.within) row.inode p.name))
  done_used e (row_moved_onto row old is is_old differ outside may) =
      let e1 = point_row s old.directory old.record_number row.inode (unchanged t) in
      let e2 = clear_row s row.directory row.record_number e1 in
      let there = record_pointed s old.directory old.record_number row.inode (unchanged t) is_old.directory row.directory row.record_number (record { directory = is.directory; within = is.within }) in
      attr_used row.inode (attr_changed s.moment) (move_parent s row.inode row.directory old.directory (lose_row s old.inode e2))
      (moved_used s row.inode row.directory old.directory (lose_row s old.inode e2)
      (lost_used s old.inode e2
      (λ k i q name z. let w = cleared_back s row.directory row.record_number e1 there.directory there.within old.inode k i q name z in
      let v = pointed_back s old.directory old.record_number row.inode (unchanged t) is_old.directory is_old.within old.inode k w.0 q name w.1 in
      gone_silent s.blocksize t old.inode r whole may k v.0 q name v.1)
      (cleared_used s row.directory e1 there.directory (names_pointed s old.directory (unchanged t) is_old.directory h old.record_number row.inode is_old.within)
      (pointed_used s old.directory (unchanged t) is_old.directory old.record_number row.inode is_old.within u) row.record_number there.within)))

-- names with rows, by outlines and by slots
to_used : (t : Tree) → AreUsed t → Used t
to_used t a q there = let w = a q there in let n = w.is in record { d = w.directory; k = w.record_number; i = n.inode; name = w.name; is = sym (slot_by_outline t w.directory w.record_number) ∙ n.is }

from_used : (t : Tree) → Used t → AreUsed t
from_used t u q there = let w = u q there in record { directory = w.d; record_number = w.k; name = w.name; is = record { inode = w.i; is = slot_by_outline t w.d w.k ∙ w.is } }

-- each operation leaves each long name with a row
pub operation_used : (s : Setting) (t : Tree) (o : Op) (is_removing : Bool) (e : Edit) → HoldsRecords s.blocksize → IsRooted t → IsWhole s.blocksize t → StandsLive s t → AreUsed t → operate s t o ≡ Ok (Edits is_removing e) → AreUsed e.tree
operation_used s t o is_removing e holds r whole live used is =
    from_used e.tree (done_used s t r whole.entries (record { longs = whole.longs; numbers = whole.numbers }) (to_used t used) e (edit_done s t o is_removing e r live is))

-- a new volume has no long name
pub empty_used : (blocksize num_inodes moment : ℕ) → AreUsed (empty_tree blocksize num_inodes moment)
unfolding empty_tree
empty_used blocksize num_inodes moment zero there = absurd (cc)
empty_used blocksize num_inodes moment (suc q) there = absurd (cc)
