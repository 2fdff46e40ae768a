-- The links of trees after edits of rows.
use Rattle.std.proofs.Common.{◌≡◌, ℕ, zero, suc, ◌+◌, ◌<◌, List, [], ◌∷◌, length, inl, inr, refl, sym, ◌∙◌, ap, subst, arith}
use Rattle.std.specs.Prelude.{true, false, Option, Some, None, count_by, is_some, slice_set, unwrap_or}
use Rattle.std.specs.List.{position_or_len}
use Rattle.std.proofs.lemmas.Bool.{cases_eq}
use Rattle.std.proofs.lemmas.Option.{slice_get_within}
use Rattle.qx_model.specs.Directories.{is_live, is_unused, long_of_slot, slot_at, with_entry}
use Rattle.qx_model.specs.Edits.{Edit, Setting, add_row, clear_row, leaf_of_record, number_for, point_row, pointed, slots_with, with_long, with_parent, with_slots, without_long}
use Rattle.qx_model.specs.Tree.{Directory, Entry, Row, Tree, Unused, entry_of, is_dots, is_link, links_of, named_by}
use Rattle.qx_model.specs.Whole.{IsWhole, IsWholeDirectory}
use Rattle.qx_model.proofs.EditOutlines.{IsDirectoryAt, directory_slots, live_place}
use Rattle.qx_model.proofs.Outlines.{entry-other, slot_in}
use Rattle.qx_model.proofs.WholeRows.{directory_whole, entry_set}
use Rattle.qx_working.specs.declared.links.Link.{Link}
use Rattle.qx_working.specs.Links.{HasLinks}
use Rattle.qx_edits.specs.LinkEdits.{into_parent, one_less, one_more}
use Rattle.qx_edits.proofs.NamedLinks.{count_added, count_set, links_by_inodes, links_less, links_more, links_with, one_link, one_own, parent_link, plain_names, pointed_names}
use Rattle.qx_edits.proofs.RowTrees.{added_is_set, cleared_is_set, dots_place, entry_twice, parent_is_set, pointed_is_set, rewritten}
use Rattle.qx_edits.proofs.ShownRows.{dots_second}

-- what is live is an entry
pub live_entry : (t : Tree) (n : ℕ) → is_live t n ≡ true → (x : Entry) × (entry_of t n ≡ Some x)
live_entry t n h = go (entry_of t n) refl h
  where
    go : (o : Option Entry) → entry_of t n ≡ o → is_some o ≡ true → (x : Entry) × (entry_of t n ≡ Some x)
    go None is h = absurd (cc)
    go (Some x) is h = (x, is)

-- long names are no inodes
named_inodes : (blocksize : ℕ) (long : Option ℕ) (name : List ℕ) (e : Edit) (d : ℕ) (y : Option Entry) → (with_entry (with_long blocksize long name e).tree d y).inodes ≡ (with_entry e.tree d y).inodes
named_inodes blocksize None name e d y = refl
named_inodes blocksize (Some k) name e zero y = refl
named_inodes blocksize (Some k) name e (suc d) y = refl

pub unnamed_inodes : (long : Option ℕ) (e : Edit) (d : ℕ) (y : Option Entry) → (with_entry (without_long long e).tree d y).inodes ≡ (with_entry e.tree d y).inodes
unnamed_inodes None e d y = refl
unnamed_inodes (Some k) e zero y = refl
unnamed_inodes (Some k) e (suc d) y = refl

-- a row that names an inode is one of its links
some_link : (t : Tree) (d k n : ℕ) (h : IsDirectoryAt t d) → k < length h.slots → named_by (slot_in h.slots k) ≡ Some n → 0 < links_of t n
some_link t d k n h low named =
    let cleared : Entry = record (let z = h.entry in z) { body = Directory (slice_set h.slots k Unused) h.up } in
    let now = links_with t d n (Some cleared) (live_place t d h.entry h.live) in
    let slots = ap (count_by (is_link n)) (directory_slots t d h) in
    let one = one_own n (slot_in h.slots k) named in
    let c = count_set n k h.slots Unused low in
    omega (arith, now, slots, one, c)

module _ (s : Setting) (links : List Link) (e : Edit) (d : ℕ) (h : IsDirectoryAt e.tree d) (has : HasLinks links e.tree) where
  -- a row is added
  pub added_links : (n : ℕ) (name : List ℕ) → is_live e.tree n ≡ true → is_dots name ≡ false → HasLinks (one_more links n) (add_row s d n name e).tree
  added_links n name live plain =
      let long = number_for e.tree name in
      let row = Row n name long in
      let ys = slots_with s.blocksize h.slots row in
      let y = rewritten s (position_or_len is_unused h.slots) ys h.up h.entry in
      let x = live_entry e.tree n live in
      subst (λ t. HasLinks (one_more links n) t) (sym (added_is_set s d e h n name))
      (links_by_inodes (one_more links n) (with_entry e.tree d (Some y)) (with_entry (with_long s.blocksize long name e).tree d (Some y)) (named_inodes s.blocksize long name e d (Some y))
      (links_more links e.tree d h y ys row n x.0 has x.1 refl (plain_names n name long plain) (λ m. count_added s.blocksize m h.slots row)))

  -- a row is cleared
  pub cleared_links : (k n : ℕ) → k < length h.slots → named_by (slot_in h.slots k) ≡ Some n → is_live e.tree n ≡ true → HasLinks (one_less links n) (clear_row s d k e).tree
  cleared_links k n low named live =
      let long = long_of_slot (slot_at e.tree d k) in
      let ys = slice_set h.slots k Unused in
      let y = rewritten s k ys h.up h.entry in
      let x = live_entry e.tree n live in
      subst (λ t. HasLinks (one_less links n) t) (sym (cleared_is_set s d e h k))
      (links_by_inodes (one_less links n) (with_entry e.tree d (Some y)) (with_entry (without_long long e).tree d (Some y)) (unnamed_inodes long e d (Some y))
      (links_less links e.tree d h y ys (slot_in h.slots k) n x.0 has x.1 refl named (λ m. (let c = count_set m k h.slots Unused low in omega (arith, c))) (some_link e.tree d k n h low named)))

  -- a row names another inode: the tree without the row stands between
  pub pointed_links : (k m n : ℕ) → k < length h.slots → named_by (slot_in h.slots k) ≡ Some m → is_live e.tree m ≡ true → is_live e.tree n ≡ true → HasLinks (one_more (one_less links m) n) (point_row s d k n e).tree
  pointed_links k m n low named live_m live_n =
      let row = pointed n (slot_in h.slots k) in
      let xs = slice_set h.slots k Unused in
      let y = rewritten s k (slice_set h.slots k row) h.up h.entry in
      let t : Tree = with_entry e.tree d (Some mid) in
      let there : entry_of t d ≡ Some mid = entry_set e.tree d (Some mid) (live_place e.tree d h.entry h.live) in
      let at : IsDirectoryAt t d = record { entry = mid; slots = xs; up = h.up; live = there; body = refl } in
      let b = live_after n live_n in
      subst (λ u. HasLinks (one_more (one_less links m) n) u) (sym (pointed_is_set s d e h k n ∙ ap (λ ys. with_entry e.tree d (Some (rewritten s k (slice_set h.slots k (pointed n (slot_in ys k))) h.up h.entry))) (directory_slots e.tree d h)
      ∙ sym (entry_twice e.tree d (Some mid) (Some y))))
      (links_more (one_less links m) t d at y (slice_set h.slots k row) row n b.0 first b.1 refl (pointed_names m n (slot_in h.slots k) named) counted)
    where
      mid : Entry
      mid = record (let z = h.entry in z) { body = Directory (slice_set h.slots k Unused) h.up }

      first : HasLinks (one_less links m) (with_entry e.tree d (Some mid))
      first =
          let a = live_entry e.tree m live_m in
          links_less links e.tree d h mid (slice_set h.slots k Unused) (slot_in h.slots k) m a.0 has a.1 refl named (λ i. (let c = count_set i k h.slots Unused low in omega (arith, c))) (some_link e.tree d k m h low named)

      live_after : (i : ℕ) → is_live e.tree i ≡ true → (x : Entry) × (entry_of (with_entry e.tree d (Some mid)) i ≡ Some x)
      live_after i live =
          let x = live_entry e.tree i live in
          elim (cases_eq i d) [
            | inl is ↦ (mid, ap (entry_of (with_entry e.tree d (Some mid))) is ∙ entry_set e.tree d (Some mid) (live_place e.tree d h.entry h.live))
            | inr ne ↦ (x.0, entry-other e.tree d i (Some mid) (λ z. ne (sym z)) ∙ x.1)
          ]

      counted : (i : ℕ) → count_by (is_link i) (slice_set h.slots k (pointed n (slot_in h.slots k))) ≡ count_by (is_link i) (slice_set h.slots k Unused) + one_link i (pointed n (slot_in h.slots k))
      counted i =
          let c = count_set i k h.slots Unused low in
          let b = count_set i k h.slots (pointed n (slot_in h.slots k)) low in
          omega (arith, c, b)

  -- the row `..` names another directory
  pub moved_links : IsWhole s.blocksize e.tree → (to : ℕ) → HasLinks (into_parent links d to) (with_parent s d to e).tree
  moved_links whole to =
      subst (λ t. HasLinks (into_parent links d to) t) (sym (parent_is_set s d e h to))
      (subst (λ k. HasLinks (into_parent links d to) (with_entry e.tree d (Some (with_slots s.blocksize (slice_set h.slots k (pointed to (slot_in h.slots k))) to (leaf_of_record s.blocksize k) h.entry)))) (sym second)
      (parent_link links e.tree has d h (with_slots s.blocksize (slice_set h.slots 1 (pointed to (slot_in h.slots 1))) to (leaf_of_record s.blocksize 1) h.entry) (slice_set h.slots 1 (pointed to (slot_in h.slots 1))) to refl same))
    where
      own : IsWholeDirectory s.blocksize d h.entry h.slots h.up
      own = directory_whole s.blocksize e.tree d h whole.entries

      second : dots_place s d e h ≡ 1
      second = dots_second h.slots d h.up own.dot own.dots

      row : slot_in h.slots 1 ≡ Row h.up (46 ∷ 46 ∷ []) None
      row = ap (λ o. unwrap_or o Unused) own.dots

      same : (m : ℕ) → count_by (is_link m) (slice_set h.slots 1 (pointed to (slot_in h.slots 1))) ≡ count_by (is_link m) h.slots
      same m =
          let c = count_set m 1 h.slots (pointed to (slot_in h.slots 1)) (slice_get_within h.slots 1 (Row h.up (46 ∷ 46 ∷ []) None) own.dots) in
          let old : one_link m (slot_in h.slots 1) ≡ 0 = ap (one_link m) row in
          let new : one_link m (pointed to (slot_in h.slots 1)) ≡ 0 = ap (λ r. one_link m (pointed to r)) row in
          omega (arith, c, old, new)
