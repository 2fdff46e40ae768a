-- What is shown once a row is added or cleared, with its long name.
use Rattle.std.proofs.Common.{◌≡◌, ◌≢◌, ℕ, zero, suc, ◌+◌, ◌*◌, ◌<◌, List, length, refl, sym, ◌∙◌, ap, subst, arith}
use Rattle.std.specs.Prelude.{Bool, true, false, not, filter, max, nat_lt, ◌==◌, Option, Some, None, slice_get, slice_set, unwrap_or, if◌then◌else◌}
use Rattle.std.specs.List.{position_or_len}
use Rattle.std.specs.Option.{option_flatten}
use Rattle.std.proofs.lemmas.Bool.{eq-eqb}
use Rattle.qx_fields.specs.declared.order.Order.{Order}
use Rattle.qx_geom.specs.Lists.{is_in}
use Rattle.qx_geom.specs.Positions.{with_number}
use Rattle.qx_geom.proofs.ImagesAndFilters.{filter_in}
use Rattle.qx_geom.proofs.Truths.{not_so, not_true, true_or_false}
use Rattle.qx_dir.specs.Rows.{row_of}
use Rattle.qx_nodes.specs.LongNames.{name_in}
use Rattle.qx_nodes.specs.NodeContents.{IsSameContent, NodeContent}
use Rattle.qx_records.specs.NameRecord as raws
use Rattle.qx_records.specs.declared.inode.Inode.{Inode}
use Rattle.qx_model.specs.Directories.{is_unused, long_of_slot, slot_at, with_entry}
use Rattle.qx_model.specs.Edits.{Edit, Setting, absent_number, add_row, clear_row, content_changed, number_for, slots_with, with_long, without_long}
use Rattle.qx_model.specs.Tree.{Entry, Row, Slot, Tree, Unused, slots_of_entry}
use Rattle.qx_model.specs.Whole.{HasNumber, HasRowFor, HoldsRecords, IsWhole, long_name_of}
use Rattle.qx_model.proofs.EditOutlines.{IsDirectoryAt, live_place, replaced, slots_with-in}
use Rattle.qx_model.proofs.WholeNames.{number_free, unnamed_at}
use Rattle.qx_model.proofs.WholeNumbers.{longs_with, names_cleared, same_name}
use Rattle.qx_copies.specs.Copies.{Contents}
use Rattle.qx_copies.specs.Shown.{Shows}
use Rattle.qx_copies.proofs.ShownContents.{same_itself, shows_alike}
use Rattle.qx_copies.proofs.ShownNames.{shows_names}
use Rattle.qx_edits.specs.NameEdits.{AddsName, GetsName, LosesName}
use Rattle.qx_edits.specs.RecordEdits.{SetsRecord}
use Rattle.qx_edits.specs.SetInodes.{SetsAttr}
use Rattle.qx_edits.proofs.LinkedRows.{unnamed_inodes}
use Rattle.qx_edits.proofs.NamedContents.{added_names, dropped_names}
use Rattle.qx_edits.proofs.RecordSlots.{row_says, size_added, size_set}
use Rattle.qx_edits.proofs.RowTrees.{added_is_set, cleared_is_set, rewritten, with_name}
use Rattle.qx_edits.proofs.ShownRows.{entry_size, record_shown, whole_size}

-- the contents with this one for the Longfile
abbrev pub long_in : Contents → NodeContent → Contents
long_in cs c zero = c
long_in cs c (suc k) = cs (suc k)

pub long_beside : (cs : Contents) (c : NodeContent) (o : ℕ) → o ≢ 0 → long_in cs c o ≡ cs o
long_beside cs c zero ne = absurd (ne refl)
long_beside cs c (suc k) ne = refl

-- a slot depends on the inodes
slot_by_inodes : (t u : Tree) → u.inodes ≡ t.inodes → (c j : ℕ) → slot_at u c j ≡ slot_at t c j
slot_by_inodes t u same zero j = refl
slot_by_inodes t u same (suc c) j = ap (λ xs. unwrap_or (slice_get (slots_of_entry (option_flatten (slice_get xs c))) j) Unused) same

module _ (order : Order) (s : Setting) (before after : List (Option Inode)) (old new : Contents) (e : Edit) (d : ℕ) (holds : HoldsRecords s.blocksize) (whole : IsWhole s.blocksize e.tree) (shows : Shows order s.blocksize before old e.tree)
    (h : IsDirectoryAt e.tree d) (sets : SetsAttr before after d (content_changed s.moment)) where
  pos : 0 < s.blocksize
  pos = let two = holds.two in omega (arith, two)

  not_zero : d ≢ 0
  not_zero z = let p = live_place e.tree d h.entry h.live in let is = p.is in omega (arith, is, z)

  size_was : (old d).size ≡ 32 * length h.slots
  size_was = sym (entry_size order s.blocksize before after old new e.tree d h pos shows (content_changed s.moment) sets) ∙ whole_size s.blocksize e.tree d h whole

  -- ---- a name comes

  -- the tree with the name is shown by the contents with the new Longfile
  name_shown : (name : List ℕ) (long : Option ℕ) → number_for e.tree name ≡ long → GetsName order s.blocksize long name (old 0) (new 0) → Shows order s.blocksize before (long_in old (new 0)) (with_long s.blocksize long name e).tree
  name_shown name None is gets = shows_alike order s.blocksize before old (long_in old (new 0)) e.tree pos same shows
    where
      same : (o : ℕ) → IsSameContent s.blocksize (old o) (long_in old (new 0) o)
      same zero = gets
      same (suc o) = same_itself s.blocksize (old (suc o))
  name_shown name (Some k) is gets = subst (λ n. AddsName order s.blocksize n name (old 0) (new 0) → Shows order s.blocksize before (long_in old (new 0)) (with_long s.blocksize (Some n) name e).tree) (absent k is) shown gets
    where
      absent : (q : ℕ) → number_for e.tree name ≡ Some q → absent_number e.tree ≡ q
      absent q is = of_test (nat_lt 27 (length name)) is
        where
          of_test : (b : Bool) → (if b then Some (absent_number e.tree) else None) ≡ Some q → absent_number e.tree ≡ q
          of_test true h = cc
          of_test false h = absurd (cc)

      shown : AddsName order s.blocksize (absent_number e.tree) name (old 0) (new 0) → Shows order s.blocksize before (long_in old (new 0)) (with_long s.blocksize (Some (absent_number e.tree)) name e).tree
      shown adds =
          shows_names order s.blocksize before old (long_in old (new 0)) e.tree (with_long s.blocksize (Some (absent_number e.tree)) name e).tree pos shows
          (λ o ne. subst (λ c. IsSameContent s.blocksize (old o) c) (sym (long_beside old (new 0) o ne)) (same_itself s.blocksize (old o))) refl
          (λ number row. adds.others number (λ z. (let has = whole.numbers.names row.directory row.record_number number row.name row.is in
          let free = number_free s.blocksize e.tree whole.longs name in
          let there : long_name_of e.tree (absent_number e.tree) ≡ Some row.name = subst (λ q. long_name_of e.tree q ≡ Some row.name) z has in
          let clash : Some row.name ≡ None = sym there ∙ free in absurd (cc))))
          (ap (λ n. max n ((absent_number e.tree + 1) * s.blocksize)) shows.long_size ∙ sym adds.size)
          (ap (λ xs. with_number xs (absent_number e.tree)) shows.long_present ∙ sym adds.present)
          (added_names order s.blocksize e.tree (old 0) (new 0) pos whole.longs shows.long_size shows.long_names name adds)

  -- a row is added
  pub added_shown : (n : ℕ) (name : List ℕ) → ((o : ℕ) → o ≢ 0 → o ≢ d → IsSameContent s.blocksize (old o) (new o)) → GetsName order s.blocksize (number_for e.tree name) name (old 0) (new 0)
      → SetsRecord order s.blocksize (position_or_len is_unused h.slots) (row_of n name (absent_number e.tree)) (old d) (new d) → Shows order s.blocksize after new (add_row s d n name e).tree
  added_shown n name others gets put =
      subst (λ t. Shows order s.blocksize after new t) (sym (added_is_set s d e h n name))
      (record_shown order s.blocksize before after (long_in old (new 0)) new (with_long s.blocksize (number_for e.tree name) name e).tree d (with_name s.blocksize (number_for e.tree name) name e d h) pos
      (name_shown name (number_for e.tree name) refl gets) (content_changed s.moment) sets (position_or_len is_unused h.slots) (row_of n name (absent_number e.tree)) row (slots_with s.blocksize h.slots row) h.up (λ a. refl)
      (ap (λ (c : NodeContent). c.size) (long_beside old (new 0) d not_zero) ∙ size_was) rest (subst (λ c. SetsRecord order s.blocksize (position_or_len is_unused h.slots) (row_of n name (absent_number e.tree)) c (new d)) (sym (long_beside old (new 0) d not_zero)) put)
      (row_says (name_in order s.blocksize (new 0)) n (absent_number e.tree) name (λ k is. named (number_for e.tree name) k is gets)) (size_added s.blocksize h.slots row holds) (λ j. slots_with-in s.blocksize h.slots row j))
    where
      row : Slot
      row = Row n name (number_for e.tree name)

      named : (long : Option ℕ) (k : ℕ) → long ≡ Some k → GetsName order s.blocksize long name (old 0) (new 0) → name_in order s.blocksize (new 0) k ≡ Some name
      named None k is g = absurd (cc)
      named (Some q) k is g = let same : q ≡ k = cc in subst (λ z. name_in order s.blocksize (new 0) z ≡ Some name) same g.here

      rest : (o : ℕ) → o ≢ d → IsSameContent s.blocksize (long_in old (new 0) o) (new o)
      rest zero ne = same_itself s.blocksize (new 0)
      rest (suc o) ne = others (suc o) (λ z. omega (arith, z)) ne

  -- ---- a name goes

  -- a row is cleared
  pub cleared_shown : (k : ℕ) → k < length h.slots → ((o : ℕ) → o ≢ 0 → o ≢ d → IsSameContent s.blocksize (old o) (new o)) → LosesName order s.blocksize (long_of_slot (slot_at e.tree d k)) (old 0) (new 0)
      → SetsRecord order s.blocksize k raws.Unused (old d) (new d) → Shows order s.blocksize after new (clear_row s d k e).tree
  cleared_shown k low others loses put = subst (λ t. Shows order s.blocksize after new t) (sym (cleared_is_set s d e h k)) (go (long_of_slot (slot_at e.tree d k)) refl loses)
    where
      y : Entry
      y = rewritten s k (slice_set h.slots k Unused) h.up h.entry

      mid : Contents
      mid = long_in new (old 0)

      rest : (o : ℕ) → o ≢ d → IsSameContent s.blocksize (old o) (long_in new (old 0) o)
      rest zero ne = same_itself s.blocksize (old 0)
      rest (suc o) ne = others (suc o) (λ z. omega (arith, z)) ne

      -- with the old Longfile
      first : Shows order s.blocksize after (long_in new (old 0)) (with_entry e.tree d (Some (rewritten s k (slice_set h.slots k Unused) h.up h.entry)))
      first =
          record_shown order s.blocksize before after old (long_in new (old 0)) e.tree d h pos shows (content_changed s.moment) sets k raws.Unused Unused (slice_set h.slots k Unused) h.up (λ a. refl) size_was rest
          (subst (λ c. SetsRecord order s.blocksize k raws.Unused (old d) c) (sym (long_beside new (old 0) d not_zero)) put) refl (size_set s.blocksize k h.slots Unused low) (λ j. replaced h.slots Unused k j low)

      go : (long : Option ℕ) → long_of_slot (slot_at e.tree d k) ≡ long → LosesName order s.blocksize long (old 0) (new 0)
          → Shows order s.blocksize after new (with_entry (without_long long e).tree d (Some (rewritten s k (slice_set h.slots k Unused) h.up h.entry)))
      go None is same = shows_alike order s.blocksize after (long_in new (old 0)) new (with_entry e.tree d (Some (rewritten s k (slice_set h.slots k Unused) h.up h.entry))) pos all first
        where
          all : (o : ℕ) → IsSameContent s.blocksize (long_in new (old 0) o) (new o)
          all zero = same
          all (suc o) = same_itself s.blocksize (new (suc o))
      go (Some q) is drops =
          shows_names order s.blocksize after (long_in new (old 0)) new t u pos first
          (λ o ne. subst (λ c. IsSameContent s.blocksize c (new o)) (sym (long_beside new (old 0) o ne)) (same_itself s.blocksize (new o))) (unnamed_inodes (Some q) e d (Some (rewritten s k (slice_set h.slots k Unused) h.up h.entry)))
          (λ number row. drops.others number (λ z. in_use number row z))
          ((let l = longs_with w.tree d (Some (rewritten s k (slice_set h.slots k Unused) h.up h.entry)) in l.size) ∙ shows.long_size ∙ sym drops.size)
          ((let l = longs_with w.tree d (Some (rewritten s k (slice_set h.slots k Unused) h.up h.entry)) in l.present) ∙ ap (filter (λ j. not (j == q))) shows.long_present ∙ sym drops.present)
          ((let l = longs_with w.tree d (Some (rewritten s k (slice_set h.slots k Unused) h.up h.entry)) in l.names) ∙ dropped_names order s.blocksize e.tree (old 0) (new 0) pos whole.longs shows.long_size shows.long_names q drops gone)
        where
          w : Edit
          w = without_long (Some q) e

          t : Tree
          t = with_entry e.tree d (Some (rewritten s k (slice_set h.slots k Unused) h.up h.entry))

          u : Tree
          u = with_entry (without_long (Some q) e).tree d (Some (rewritten s k (slice_set h.slots k Unused) h.up h.entry))

          -- the leaf has gone
          gone : is_in (new 0).present q ≡ false
          gone = ap (λ ps. is_in ps q) drops.present ∙ not_so _ (λ m. (let r = filter_in (λ j. not (j == q)) (old 0).present q m in true_or_false (q == q) (eq-eqb q q refl) (not_true (q == q) r.1)))

          -- no row has the number that went
          in_use : (number : ℕ) → HasRowFor (with_entry e.tree d (Some (rewritten s k (slice_set h.slots k Unused) h.up h.entry))) number → number ≡ q → ⊥
          in_use number row z =
              let names = names_cleared s d e h (record { longs = whole.longs; numbers = whole.numbers }) k low in
              let tree : (clear_row s d k e).tree ≡ u = cleared_is_set s d e h k ∙ ap (λ o. with_entry (without_long o e).tree d (Some (rewritten s k (slice_set h.slots k Unused) h.up h.entry))) is in
              let at = row.is in
              let there : HasNumber (clear_row s d k e).tree row.directory row.record_number number row.name =
              record { inode = at.inode; is = ap (λ x. slot_at x row.directory row.record_number) tree ∙ slot_by_inodes t u (unnamed_inodes (Some q) e d (Some (rewritten s k (slice_set h.slots k Unused) h.up h.entry))) row.directory row.record_number ∙ at.is } in
              let has = names.numbers.names row.directory row.record_number number row.name there in
              let none : long_name_of (clear_row s d k e).tree q ≡ None = ap (λ x. long_name_of x q) tree ∙ same_name w.tree u (longs_with w.tree d (Some (rewritten s k (slice_set h.slots k Unused) h.up h.entry))) q ∙ unnamed_at s.blocksize e.tree whole.longs q in
              let clash : Some row.name ≡ None = sym has ∙ ap (long_name_of (clear_row s d k e).tree) z ∙ none in
              absurd (cc)
