-- Each operation leaves long names and their numbers in agreement.
use Rattle.std.proofs.Common.{◌≡◌, ℕ, zero, suc, ◌*◌, ◌<◌, ◌⊎◌, inl, inr, List, [], length, refl, sym, ap, ◌∙◌, subst, arith}
use Rattle.std.specs.Prelude.{◌≢◌, Bool, true, false, not, ◌&&◌, Option, Some, None, is_some, option_map, slice_get, slice_set, nat_lt, unwrap_or, ◌==◌, if◌then◌else◌}
use Rattle.std.specs.List.{position_or_len}
use Rattle.std.specs.Option.{option_flatten}
use Rattle.qx_geom.specs.Lists.{IsAscending, is_in}
use Rattle.std.proofs.lemmas.Bool.{cases_eq, cases_lt}
use Rattle.std.proofs.lemmas.Option.{slice_get_past}
use Rattle.qx_geom.proofs.Truths.{and_left}
use Rattle.qx_model.specs.declared.attr.Attr.{Attr}
use Rattle.qx_model.specs.Tree.{Body, Directory, Entry, File, Link, Row, Slot, Special, Tree, Unused, entry_of, links_of, slots_of, slots_of_body, slots_of_entry}
use Rattle.qx_model.specs.Directories.{is_directory, is_unused, long_of_slot, slot_at, with_entry}
use Rattle.qx_model.specs.Edits.{Edit, Setting, absent_number, add_row, altering, attr_changed, clear_row, content_changed, lose_row, move_parent, number_for, point_row, pointed, putting, slots_with, with_attr, with_long, with_parent, without_long, writing_record}
use Rattle.qx_model.specs.Whole.{AreNumbered, HasNumber, HasWholeNames, long_name_of}
use Rattle.qx_model.proofs.AddedRows.{set_at, set_at-other, set_at-same}
use Rattle.qx_model.proofs.EditOutlines.{IsDirectoryAt, added_outlines, directory_at, directory_outline, replaced}
use Rattle.qx_model.proofs.Outlines.{Dir, body_outline, entry-other, entry_outline, outline_of, set_past, slot_in, slots_in}
use Rattle.qx_model.proofs.RootedMoves.{dots_at, parent_outlines, repointed}
use Rattle.qx_model.proofs.RootedRemovals.{cleared_outlines}
use Rattle.qx_model.proofs.RootedReplacements.{pointed_outlines}
use Rattle.qx_model.proofs.WholeEntries.{set_or_stays}
use Rattle.qx_model.proofs.WholeNames.{named_at, named_beside, named_whole, number_free, unnamed_beside, unnamed_whole}

-- ---- rows by outlines

-- a slot of a tree by its outline
pub slot_by_outline : (t : Tree) (d k : ℕ) → slot_at t d k ≡ slots_in (outline_of t d) k
slot_by_outline t d k = of_entry (entry_of t d) refl
  where
    none : slot_in [] k ≡ Unused
    none = ap (λ o. unwrap_or o Unused) (slice_get_past [] k (omega arith))

    of_body : (b : Body) → slot_in (slots_of_body b) k ≡ slots_in (body_outline b) k
    of_body (Directory slots parent) = refl
    of_body (File content) = none
    of_body (Link target) = none
    of_body Special = none

    of_entry : (o : Option Entry) → entry_of t d ≡ o → slot_at t d k ≡ slots_in (outline_of t d) k
    of_entry None live = ap (λ o. slot_in (slots_of_entry o) k) live ∙ none ∙ sym (ap (λ o. slots_in (entry_outline o) k) live)
    of_entry (Some e) live = ap (λ o. slot_in (slots_of_entry o) k) live ∙ of_body e.body ∙ sym (ap (λ o. slots_in (entry_outline o) k) live)

-- a row with a number in one tree is one in another, and its name is the same
pub record HadRow (t u : Tree) (c k number : ℕ) (name : List ℕ) : Type 0 where
  pub inode : ℕ
  pub was : slots_in (outline_of t c) k ≡ Row inode name (Some number)
  pub same : long_name_of u number ≡ long_name_of t number

-- so numbers and names agree afterwards
pub numbers_kept : (t u : Tree) → ((c k i number : ℕ) (name : List ℕ) → slots_in (outline_of u c) k ≡ Row i name (Some number) → HadRow t u c k number name) → AreNumbered t → AreNumbered u
numbers_kept t u had n = record {
  names = λ d k number name h. (let w = had d k h.inode number name (sym (slot_by_outline u d k) ∙ h.is) in w.same ∙ n.names d k number name (back d k number name w));
  once = λ d k c j number name other a b. n.once d k c j number name other (back d k number name (had d k a.inode number name (sym (slot_by_outline u d k) ∙ a.is))) (back c j number other (had c j b.inode number other (sym (slot_by_outline u c j) ∙ b.is)));
}
  where
    back : (c k number : ℕ) (name : List ℕ) → HadRow t u c k number name → HasNumber t c k number name
    back c k number name w = record { inode = w.inode; is = slot_by_outline t c k ∙ w.was }

-- ---- what is kept

-- the Longfile is whole, and its numbers agree with the rows
pub record HasNames (blocksize : ℕ) (t : Tree) : Type 0 where
  pub longs : HasWholeNames blocksize t
  pub numbers : AreNumbered t

-- the same long names
pub longs_entry : (blocksize : ℕ) (t : Tree) (n : ℕ) (x : Option Entry) → HasWholeNames blocksize t → HasWholeNames blocksize (with_entry t n x)
longs_entry blocksize t zero x h = h
longs_entry blocksize t (suc n) x h = record { whole = h.whole; ascends = h.ascends; there = h.there }

-- an inode that is set leaves the long names
pub long_name_entry : (t : Tree) (n : ℕ) (x : Option Entry) (q : ℕ) → long_name_of (with_entry t n x) q ≡ long_name_of t q
long_name_entry t zero x q = refl
long_name_entry t (suc n) x q = refl

-- an inode is set, and rows with numbers were there before
pub names_entry : (blocksize : ℕ) (t : Tree) (n : ℕ) (x : Option Entry) → ((k i number : ℕ) (name : List ℕ) → slots_in (entry_outline x) k ≡ Row i name (Some number) → (y : ℕ) × (slots_in (outline_of t n) k ≡ Row y name (Some number)))
    → HasNames blocksize t → HasNames blocksize (with_entry t n x)
names_entry blocksize t n x old h = record { longs = longs_entry blocksize t n x h.longs; numbers = numbers_kept t (with_entry t n x) had h.numbers }
  where
    had : (c k i number : ℕ) (name : List ℕ) → slots_in (outline_of (with_entry t n x) c) k ≡ Row i name (Some number) → HadRow t (with_entry t n x) c k number name
    had c k i number name is = elim (cases_eq c n) [
      | inr ne ↦ record { inode = i; was = ap (λ o. slots_in (entry_outline o) k) (sym (entry-other t n c x (λ z. ne (sym z)))) ∙ is; same = long_name_entry t n x number }
      | inl e ↦ subst (λ m. HadRow t (with_entry t n x) m k number name) (sym e) (elim (set_or_stays t n x) [
        | inl new ↦ (let w = old k i number name (ap (λ o. slots_in (entry_outline o) k) (sym new) ∙ ap (λ m. slots_in (outline_of (with_entry t n x) m) k) (sym e) ∙ is) in record { inode = w.0; was = w.1; same = long_name_entry t n x number })
        | inr stays ↦ record { inode = i; was = ap (λ o. slots_in (entry_outline o) k) (sym stays) ∙ ap (λ m. slots_in (outline_of (with_entry t n x) m) k) (sym e) ∙ is; same = long_name_entry t n x number }
      ])
    ]

-- an inode is altered, and its slots stay
pub names_altered : (blocksize n : ℕ) (change : Entry → Entry) (e : Edit) → ((x : Entry) → entry_of e.tree n ≡ Some x → body_outline (let y = change x in y.body) ≡ body_outline x.body) → HasNames blocksize e.tree → HasNames blocksize (altering n change e).tree
names_altered blocksize n change e same h = names_entry blocksize e.tree n (option_map change (entry_of e.tree n)) (λ k i number name is. of_entry (entry_of e.tree n) refl k i number name is) h
  where
    of_entry : (o : Option Entry) → entry_of e.tree n ≡ o → (k i number : ℕ) (name : List ℕ) → slots_in (entry_outline (option_map change o)) k ≡ Row i name (Some number) → (y : ℕ) × (slots_in (entry_outline o) k ≡ Row y name (Some number))
    of_entry None live k i number name is = (i, is)
    of_entry (Some x) live k i number name is = (i, ap (λ o. slots_in o k) (sym (same x live)) ∙ is)

-- other attributes leave them
pub names_attr : (blocksize n : ℕ) (change : Attr → Attr) (e : Edit) → HasNames blocksize e.tree → HasNames blocksize (with_attr n change e).tree
names_attr blocksize n change e h = names_altered blocksize n (λ x. record x { attr = change x.attr }) e (λ x live. refl) h

-- ---- rows

-- a row that is pointed elsewhere keeps its number
pub pointed_row : (f : ℕ → Slot) (j n k i number : ℕ) (name : List ℕ) → set_at j (pointed n (f j)) f k ≡ Row i name (Some number) → (y : ℕ) × (f k ≡ Row y name (Some number))
pointed_row f j n k i number name h = elim (cases_eq k j) [
  | inl is ↦ (let w = of_slot (f j) (sym (set_at-same j (pointed n (f j)) f) ∙ ap (set_at j (pointed n (f j)) f) (sym is) ∙ h) in (w.0, ap f is ∙ w.1))
  | inr ne ↦ (i, sym (set_at-other j (pointed n (f j)) f k ne) ∙ h)
]
  where
    of_slot : (x : Slot) → pointed n x ≡ Row i name (Some number) → (y : ℕ) × (x ≡ Row y name (Some number))
    of_slot Unused h = absurd (cc)
    of_slot (Row m other long) h = let a : other ≡ name = cc in let b : long ≡ Some number = cc in (m, λ z. Row m (a z) (b z))

-- where a tree differs from another in the slots of one directory, which were there before
pub names_slots : (blocksize : ℕ) (t u : Tree) (d : ℕ) (f g : ℕ → Slot) (p q : ℕ) → outline_of t d ≡ Dir f p → ((m : ℕ) → outline_of u m ≡ set_at d (Dir g q) (outline_of t) m) → ((k i number : ℕ) (name : List ℕ) → g k ≡ Row i name (Some number) → (y : ℕ) × (f k ≡ Row y name (Some number)))
    → ((number : ℕ) → long_name_of u number ≡ long_name_of t number) → HasWholeNames blocksize u → HasNames blocksize t → HasNames blocksize u
names_slots blocksize t u d f g p q was now old same longs h = record { longs = longs; numbers = numbers_kept t u had h.numbers }
  where
    had : (c k i number : ℕ) (name : List ℕ) → slots_in (outline_of u c) k ≡ Row i name (Some number) → HadRow t u c k number name
    had c k i number name is = elim (cases_eq c d) [
      | inl e ↦
          let here : g k ≡ Row i name (Some number) = ap (λ o. slots_in o k) (sym (set_at-same d (Dir g q) (outline_of t)) ∙ sym (now d) ∙ ap (outline_of u) (sym e)) ∙ is in
          let w = old k i number name here in
          record { inode = w.0; was = ap (λ m. slots_in (outline_of t m) k) e ∙ ap (λ o. slots_in o k) was ∙ w.1; same = same number }
      | inr ne ↦ record { inode = i; was = ap (λ o. slots_in o k) (sym (now c ∙ set_at-other d (Dir g q) (outline_of t) c ne)) ∙ is; same = same number }
    ]

-- the long names of trees that differ in inodes alone
pub record SameLongs (t u : Tree) : Type 0 where
  pub size : u.long_size ≡ t.long_size
  pub names : u.long_names ≡ t.long_names
  pub present : u.long_present ≡ t.long_present

-- a tree with one inode set has the same long names
pub longs_with : (t : Tree) (n : ℕ) (x : Option Entry) → SameLongs t (with_entry t n x)
longs_with t zero x = record { size = refl; names = refl; present = refl }
longs_with t (suc n) x = record { size = refl; names = refl; present = refl }

longs_then : (t u v : Tree) → SameLongs t u → SameLongs u v → SameLongs t v
longs_then t u v a b = record { size = b.size ∙ a.size; names = b.names ∙ a.names; present = b.present ∙ a.present }

-- and so each name
pub same_name : (t u : Tree) → SameLongs t u → (q : ℕ) → long_name_of u q ≡ long_name_of t q
same_name t u s q = ap (λ xs. option_flatten (slice_get xs q)) s.names

same_longs : (blocksize : ℕ) (t u : Tree) → SameLongs t u → HasWholeNames blocksize t → HasWholeNames blocksize u
same_longs blocksize t u s h = record {
  whole = s.size ∙ h.whole ∙ ap (λ xs. length xs * blocksize) (sym s.names);
  ascends = subst (λ xs. IsAscending xs) (sym s.present) h.ascends;
  there = λ k. ap (λ xs. is_in xs k) s.present ∙ h.there k ∙ ap (λ o. is_some o) (sym (same_name t u s k));
}

-- the row edits leave the long names of the tree after the name was set or taken
pub written_longs : (s : Setting) (d k : ℕ) (slots : List Slot) (e : Edit) → SameLongs e.tree (with_attr d (content_changed s.moment) (writing_record s.blocksize d k slots e)).tree
written_longs s d k slots e = longs_then e.tree (writing_record s.blocksize d k slots e).tree _ (longs_with e.tree d _) (longs_with (writing_record s.blocksize d k slots e).tree d _)

-- record k of directory d cleared, and this long name gone
abbrev cleared_by : Setting → ℕ → ℕ → Edit → Option ℕ → Tree
cleared_by s d k e long = let f = with_attr d (content_changed s.moment) (writing_record s.blocksize d k (slice_set (slots_of e.tree d) k Unused) (without_long long e)) in f.tree

-- directory d with a new row of this number
abbrev added_by : Setting → ℕ → ℕ → List ℕ → Edit → Option ℕ → Tree
added_by s d n name e long =
    let f = with_attr d (content_changed s.moment) (writing_record s.blocksize d (position_or_len is_unused (slots_of e.tree d)) (slots_with s.blocksize (slots_of e.tree d) (Row n name long)) (with_long s.blocksize long name e)) in f.tree

module _ (s : Setting) (d : ℕ) (e : Edit) (h : IsDirectoryAt e.tree d) (names : HasNames s.blocksize e.tree) where
  -- a row that is pointed elsewhere leaves them
  pub names_pointed : (k n : ℕ) → k < length h.slots → HasNames s.blocksize (point_row s d k n e).tree
  names_pointed k n within =
      let longs = written_longs s d k (slice_set (slots_of e.tree d) k (pointed n (slot_at e.tree d k))) e in
      names_slots s.blocksize e.tree (point_row s d k n e).tree d (slot_in h.slots) (set_at k (pointed n (slot_in h.slots k)) (slot_in h.slots)) h.up h.up (directory_outline e.tree d h) (pointed_outlines s d k n e h within)
      (λ j i number name is. pointed_row (slot_in h.slots) k n j i number name is) (same_name e.tree (point_row s d k n e).tree longs) (same_longs s.blocksize e.tree (point_row s d k n e).tree longs names.longs) names

  -- so does another parent
  pub names_parent : (c : ℕ) → HasNames s.blocksize (with_parent s d c e).tree
  names_parent c =
      names_slots s.blocksize e.tree (with_parent s d c e).tree d (slot_in h.slots) (slot_in (repointed c h.slots)) h.up c (directory_outline e.tree d h) (parent_outlines s d c e h)
      rows (same_name e.tree (with_parent s d c e).tree (longs_with e.tree d _)) (same_longs s.blocksize e.tree (with_parent s d c e).tree (longs_with e.tree d _) names.longs) names
    where
      rows : (k i number : ℕ) (name : List ℕ) → slot_in (repointed c h.slots) k ≡ Row i name (Some number) → (y : ℕ) × (slot_in h.slots k ≡ Row y name (Some number))
      rows k i number name is = elim (cases_lt (dots_at h.slots) (length h.slots)) [
        | inl below ↦ pointed_row (slot_in h.slots) (dots_at h.slots) c k i number name (sym (replaced h.slots (pointed c (slot_in h.slots (dots_at h.slots))) (dots_at h.slots) k below) ∙ is)
        | inr past ↦ (i, ap (λ xs. slot_in xs k) (sym (set_past h.slots (dots_at h.slots) (pointed c (slot_in h.slots (dots_at h.slots))) past)) ∙ is)
      ]

  -- a row is cleared: no other has its number
  pub names_cleared : (k : ℕ) → k < length h.slots → HasNames s.blocksize (clear_row s d k e).tree
  names_cleared k within = go (long_of_slot (slot_at e.tree d k)) refl
    where
      now : (m : ℕ) → outline_of (cleared_by s d k e (long_of_slot (slot_at e.tree d k))) m ≡ set_at d (Dir (set_at k Unused (slot_in h.slots)) h.up) (outline_of e.tree) m
      now m = cleared_outlines s d k e h within m

      other : (j i number : ℕ) (name : List ℕ) → set_at k Unused (slot_in h.slots) j ≡ Row i name (Some number) → (j ≢ k) × (slot_in h.slots j ≡ Row i name (Some number))
      other j i number name is = elim (cases_eq j k) [
        | inl e ↦ absurd (clash (sym (set_at-same k Unused (slot_in h.slots)) ∙ ap (set_at k Unused (slot_in h.slots)) (sym e) ∙ is))
        | inr ne ↦ (ne, sym (set_at-other k Unused (slot_in h.slots) j ne) ∙ is)
      ]
        where
          clash : Unused ≡ Row i name (Some number) → ⊥
          clash z = cc

      -- the number of the cleared row
      numbered : (q : ℕ) → long_of_slot (slot_at e.tree d k) ≡ Some q → (name : List ℕ) × HasNumber e.tree d k q name
      numbered q is = of_slot (slot_at e.tree d k) refl is
        where
          of_slot : (x : Slot) → slot_at e.tree d k ≡ x → long_of_slot x ≡ Some q → (name : List ℕ) × HasNumber e.tree d k q name
          of_slot Unused at l = absurd (cc)
          of_slot (Row i name long) at l = (name, record { inode = i; is = at ∙ ap (Row i name) l })

      go : (long : Option ℕ) → long_of_slot (slot_at e.tree d k) ≡ long → HasNames s.blocksize (cleared_by s d k e (long_of_slot (slot_at e.tree d k)))
      go None is =
          let longs : SameLongs e.tree (clear_row s d k e).tree = subst (λ l. SameLongs e.tree (cleared_by s d k e l)) (sym is) (written_longs s d k (slice_set (slots_of e.tree d) k Unused) e) in
          names_slots s.blocksize e.tree (clear_row s d k e).tree d (slot_in h.slots) (set_at k Unused (slot_in h.slots)) h.up h.up (directory_outline e.tree d h) now
          (λ j i number name row. (i, (other j i number name row).1)) (same_name e.tree (clear_row s d k e).tree longs) (same_longs s.blocksize e.tree (clear_row s d k e).tree longs names.longs) names
      go (Some q) is =
          let f : Edit = without_long (Some q) e in
          let longs : SameLongs f.tree (clear_row s d k e).tree = subst (λ l. SameLongs f.tree (cleared_by s d k e l)) (sym is) (written_longs s d k (slice_set (slots_of e.tree d) k Unused) f) in
          record {
            longs = same_longs s.blocksize f.tree (clear_row s d k e).tree longs (unnamed_whole s.blocksize e.tree names.longs q);
            numbers = numbers_kept e.tree (clear_row s d k e).tree (λ c j i number name row. had q (numbered q is) longs c j i number name row (cases_eq c d)) names.numbers;
          }
        where
          had : (q : ℕ) (w : (name : List ℕ) × HasNumber e.tree d k q name) → SameLongs (without_long (Some q) e).tree (clear_row s d k e).tree → (c j i number : ℕ) (name : List ℕ) → slots_in (outline_of (clear_row s d k e).tree c) j ≡ Row i name (Some number) → (c ≡ d) ⊎ (c ≢ d)
              → HadRow e.tree (clear_row s d k e).tree c j number name
          had q w longs c j i number name row (inl at) =
              let here = other j i number name (ap (λ o. slots_in o j) (sym (set_at-same d (Dir (set_at k Unused (slot_in h.slots)) h.up) (outline_of e.tree)) ∙ sym (now d) ∙ ap (outline_of (clear_row s d k e).tree) (sym at)) ∙ row) in
              let was : slots_in (outline_of e.tree c) j ≡ Row i name (Some number) = ap (λ m. slots_in (outline_of e.tree m) j) at ∙ ap (λ o. slots_in o j) (directory_outline e.tree d h) ∙ here.1 in
              let differ : number ≢ q = λ z. (let one = names.numbers.once c j d k q name w.0 (record { inode = i; is = slot_by_outline e.tree c j ∙ was ∙ ap (λ n. Row i name (Some n)) z }) w.1 in here.0 one.1) in
              record { inode = i; was = was; same = same_name (without_long (Some q) e).tree (clear_row s d k e).tree longs number ∙ unnamed_beside s.blocksize e.tree names.longs q number differ }
          had q w longs c j i number name row (inr ne) =
              let was : slots_in (outline_of e.tree c) j ≡ Row i name (Some number) = ap (λ o. slots_in o j) (sym (now c ∙ set_at-other d (Dir (set_at k Unused (slot_in h.slots)) h.up) (outline_of e.tree) c ne)) ∙ row in
              let differ : number ≢ q = λ z. (let one = names.numbers.once c j d k q name w.0 (record { inode = i; is = slot_by_outline e.tree c j ∙ was ∙ ap (λ n. Row i name (Some n)) z }) w.1 in ne one.0) in
              record { inode = i; was = was; same = same_name (without_long (Some q) e).tree (clear_row s d k e).tree longs number ∙ unnamed_beside s.blocksize e.tree names.longs q number differ }

  -- a row is added: no other has its number
  pub names_added : (n : ℕ) (name : List ℕ) → HasNames s.blocksize (add_row s d n name e).tree
  names_added n name = go (number_for e.tree name) refl
    where
      j : ℕ
      j = position_or_len is_unused h.slots

      now : (m : ℕ) → outline_of (add_row s d n name e).tree m ≡ set_at d (Dir (set_at (position_or_len is_unused h.slots) (Row n name (number_for e.tree name)) (slot_in h.slots)) h.up) (outline_of e.tree) m
      now m = added_outlines s d n name e h m

      -- a row was there, or is the new one
      rows : (c k i number : ℕ) (other : List ℕ) → slots_in (outline_of (add_row s d n name e).tree c) k ≡ Row i other (Some number)
          → (slots_in (outline_of e.tree c) k ≡ Row i other (Some number)) ⊎ ((c ≡ d) × (k ≡ position_or_len is_unused h.slots) × (Row n name (number_for e.tree name) ≡ Row i other (Some number)))
      rows c k i number other row = elim (cases_eq c d) [
        | inr ne ↦ inl (ap (λ o. slots_in o k) (sym (now c ∙ set_at-other d _ (outline_of e.tree) c ne)) ∙ row)
        | inl at ↦
            let here : set_at (position_or_len is_unused h.slots) (Row n name (number_for e.tree name)) (slot_in h.slots) k ≡ Row i other (Some number) =
            ap (λ o. slots_in o k) (sym (set_at-same d (Dir (set_at (position_or_len is_unused h.slots) (Row n name (number_for e.tree name)) (slot_in h.slots)) h.up) (outline_of e.tree)) ∙ sym (now d) ∙ ap (outline_of (add_row s d n name e).tree) (sym at)) ∙ row in
            elim (cases_eq k (position_or_len is_unused h.slots)) [
              | inl place ↦ inr (at, place, sym (set_at-same (position_or_len is_unused h.slots) (Row n name (number_for e.tree name)) (slot_in h.slots)) ∙ ap (set_at (position_or_len is_unused h.slots) (Row n name (number_for e.tree name)) (slot_in h.slots)) (sym place) ∙ here)
              | inr ne ↦ inl (ap (λ m. slots_in (outline_of e.tree m) k) at ∙ ap (λ o. slots_in o k) (directory_outline e.tree d h) ∙ sym (set_at-other (position_or_len is_unused h.slots) (Row n name (number_for e.tree name)) (slot_in h.slots) k ne) ∙ here)
            ]
      ]

      number_is : (q number i : ℕ) (other : List ℕ) → number_for e.tree name ≡ Some q → Row n name (number_for e.tree name) ≡ Row i other (Some number) → q ≡ number
      number_is q number i other is same = let a : number_for e.tree name ≡ Some number = cc in let b : Some q ≡ Some number = sym is ∙ a in cc

      name_is : (number i : ℕ) (other : List ℕ) → Row n name (number_for e.tree name) ≡ Row i other (Some number) → name ≡ other
      name_is number i other same = cc

      old_row : (c k i number : ℕ) (other : List ℕ) → slots_in (outline_of e.tree c) k ≡ Row i other (Some number) → HasNumber e.tree c k number other
      old_row c k i number other was = record { inode = i; is = slot_by_outline e.tree c k ∙ was }

      new_row : (c k number : ℕ) (other : List ℕ) → HasNumber (add_row s d n name e).tree c k number other → (i : ℕ) × (slots_in (outline_of (add_row s d n name e).tree c) k ≡ Row i other (Some number))
      new_row c k number other w = (w.inode, sym (slot_by_outline (add_row s d n name e).tree c k) ∙ w.is)

      go : (long : Option ℕ) → number_for e.tree name ≡ long → HasNames s.blocksize (added_by s d n name e (number_for e.tree name))
      go None is =
          let longs : SameLongs e.tree (add_row s d n name e).tree = subst (λ l. SameLongs e.tree (added_by s d n name e l)) (sym is) (written_longs s d (position_or_len is_unused (slots_of e.tree d)) (slots_with s.blocksize (slots_of e.tree d) (Row n name None)) e) in
          record {
            longs = same_longs s.blocksize e.tree (add_row s d n name e).tree longs names.longs;
            numbers = numbers_kept e.tree (add_row s d n name e).tree (λ c k i number other row. elim (rows c k i number other row) [
              | inl was ↦ record { inode = i; was = was; same = same_name e.tree (add_row s d n name e).tree longs number }
              | inr new ↦ absurd (unnumbered i number other new.2)
            ]) names.numbers;
          }
        where
          unnumbered : (i number : ℕ) (other : List ℕ) → Row n name (number_for e.tree name) ≡ Row i other (Some number) → ⊥
          unnumbered i number other same = let a : number_for e.tree name ≡ Some number = cc in let b : None ≡ Some number = sym is ∙ a in cc
      go (Some q) is =
          let f : Edit = with_long s.blocksize (Some q) name e in
          let longs : SameLongs f.tree (add_row s d n name e).tree = subst (λ l. SameLongs f.tree (added_by s d n name e l)) (sym is) (written_longs s d (position_or_len is_unused (slots_of e.tree d)) (slots_with s.blocksize (slots_of e.tree d) (Row n name (Some q))) f) in
          with_number q (absent q is) is longs
        where
          absent : (q : ℕ) → number_for e.tree name ≡ Some q → absent_number e.tree ≡ q
          absent q is = of_test (nat_lt 27 (length name)) is
            where
              of_test : (b : Bool) → (if b then Some (absent_number e.tree) else None) ≡ Some q → absent_number e.tree ≡ q
              of_test true h = cc
              of_test false h = absurd (cc)

          with_number : (q : ℕ) → absent_number e.tree ≡ q → number_for e.tree name ≡ Some q → SameLongs (with_long s.blocksize (Some q) name e).tree (add_row s d n name e).tree → HasNames s.blocksize (add_row s d n name e).tree
          with_number q at is longs = record {
            longs = same_longs s.blocksize (with_long s.blocksize (Some q) name e).tree (add_row s d n name e).tree longs (subst (λ z. HasWholeNames s.blocksize (with_long s.blocksize (Some z) name e).tree) at (named_whole s.blocksize e.tree names.longs name));
            numbers = record {
              names = λ c k number other w. (let v = new_row c k number other w in elim (rows c k v.0 number other v.1) [
                | inl was ↦ old_name number (λ z. taken c k v.0 number other was z) ∙ names.numbers.names c k number other (old_row c k v.0 number other was)
                | inr new ↦ subst (λ z. long_name_of (add_row s d n name e).tree z ≡ Some other) (number_is q number v.0 other is new.2) (own_name ∙ ap (λ x. Some x) (name_is number v.0 other new.2))
              ]);
              once = λ a k c j number one two u w. (let x = new_row a k number one u in let y = new_row c j number two w in elim (rows a k x.0 number one x.1) [
                | inl was ↦ elim (rows c j y.0 number two y.1) [
                  | inl were ↦ names.numbers.once a k c j number one two (old_row a k x.0 number one was) (old_row c j y.0 number two were)
                  | inr new ↦ absurd (taken a k x.0 number one was (sym (number_is q number y.0 two is new.2)))
                ]
                | inr new ↦ elim (rows c j y.0 number two y.1) [
                  | inl were ↦ absurd (taken c j y.0 number two were (sym (number_is q number x.0 one is new.2)))
                  | inr newer ↦ (new.0 ∙ sym newer.0, new.1 ∙ sym newer.1)
                ]
              ]);
            };
          }
            where
              own_name : long_name_of (add_row s d n name e).tree q ≡ Some name
              own_name = same_name (with_long s.blocksize (Some q) name e).tree (add_row s d n name e).tree longs q ∙ subst (λ z. long_name_of (with_long s.blocksize (Some z) name e).tree z ≡ Some name) at (named_at s.blocksize e.tree names.longs name)

              old_name : (number : ℕ) → number ≢ q → long_name_of (add_row s d n name e).tree number ≡ long_name_of e.tree number
              old_name number ne =
                  same_name (with_long s.blocksize (Some q) name e).tree (add_row s d n name e).tree longs number
                  ∙ subst (λ z. number ≢ z → long_name_of (with_long s.blocksize (Some z) name e).tree number ≡ long_name_of e.tree number) at (named_beside s.blocksize e.tree names.longs name number) ne

              -- an old row has another number
              taken : (c k i number : ℕ) (other : List ℕ) → slots_in (outline_of e.tree c) k ≡ Row i other (Some number) → number ≢ q
              taken c k i number other was z =
                  let there : long_name_of e.tree number ≡ Some other = names.numbers.names c k number other (old_row c k i number other was) in
                  let none : long_name_of e.tree number ≡ None = ap (long_name_of e.tree) (z ∙ sym at) ∙ number_free s.blocksize e.tree names.longs name in
                  let clash : Some other ≡ None = sym there ∙ none in
                  absurd (cc)

-- an inode loses a row
pub names_lost : (s : Setting) (n : ℕ) (e : Edit) → HasNames s.blocksize e.tree → HasNames s.blocksize (lose_row s n e).tree
names_lost s n e h = go (links_of e.tree n == 0)
  where
    go : (b : Bool) → HasNames s.blocksize (let f = if b then putting n None e else with_attr n (attr_changed s.moment) e in f.tree)
    go true = names_entry s.blocksize e.tree n None (λ k i number name z. absurd (clash i number name z)) h
      where
        clash : (i number : ℕ) (name : List ℕ) → Unused ≡ Row i name (Some number) → ⊥
        clash i number name z = cc
    go false = names_attr s.blocksize n (attr_changed s.moment) e h

-- a directory gets another parent
pub names_moved : (s : Setting) (n from to : ℕ) (e : Edit) → HasNames s.blocksize e.tree → HasNames s.blocksize (move_parent s n from to e).tree
names_moved s n from to e h = go (is_directory e.tree n && not (from == to)) refl
  where
    go : (b : Bool) → (is_directory e.tree n && not (from == to)) ≡ b → HasNames s.blocksize (let f = if b then with_parent s n to e else e in f.tree)
    go true is = names_parent s n e (directory_at e.tree n (and_left (is_directory e.tree n) (not (from == to)) is)) h to
    go false is = h
