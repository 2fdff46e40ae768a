-- What each step of an edit keeps of each inode, each operation keeps; and directories that live on stay directories, and all places stay.
use Rattle.std.proofs.Common.{◌≡◌, ℕ, zero, suc, ◌+◌, ◌/◌, ◌<◌, ◌≤◌, inl, inr, List, [], ◌∷◌, length, refl, sym, ap, ◌∙◌, subst, arith}
use Rattle.std.specs.Prelude.{Bool, true, false, not, ◌&&◌, Option, Some, None, Ok, is_some, max, option_and_then, option_map, slice_set, nat_lt, unwrap_or, ◌==◌, if◌then◌else◌}
use Rattle.std.specs.List.{position_or_len}
use Rattle.std.proofs.lemmas.Bool.{cases_eq, ltb-false}
use Rattle.qx_bytes.specs.Ranges.{put_at}
use Rattle.qx_bytes.proofs.Puts.{length_put}
use Rattle.qx_outside.specs.Trail.{resized}
use Rattle.qx_geom.specs.Room.{greatest_end}
use Rattle.qx_geom.proofs.Truths.{and_left, true_or_false}
use Rattle.qx_model.specs.declared.attr.Attr.{Attr}
use Rattle.qx_model.specs.declared.operation.Op.{Op}
use Rattle.qx_model.specs.Tree.{Body, Directory, Entry, File, Link, Row, Slot, Special, Tree, Unused, entry_of, links_of, slots_of, slots_of_body, slots_of_entry}
use Rattle.qx_model.specs.Answering.{FileAt}
use Rattle.qx_model.specs.Contents.{cut_leaves, leaves_of_range, rewriting, with_content, written_at}
use Rattle.qx_model.specs.Directories.{is_directory, is_live, is_unused, long_of_slot, parent_of, parent_of_body, slot_at, with_entry}
use Rattle.qx_model.specs.Edits.{Edit, Setting, StandsLive, add_row, altering, attr_changed, clear_row, content_changed, leaf_of_record, lose_row, move_parent, new_inode, number_for, point_row, pointed, putting, slots_with, unchanged, with_attr, with_long, with_parent, with_slots, without_long, writing, writing_record}
use Rattle.qx_model.specs.Effects.{Edits}
use Rattle.qx_model.specs.Operate.{operate}
use Rattle.qx_model.specs.Rooted.{IsRooted}
use Rattle.qx_model.specs.LostNames.{RowAt}
use Rattle.qx_model.specs.Owners.{OfInode}
use Rattle.qx_model.specs.Paths.{Place}
use Rattle.qx_model.proofs.DoneEdits.{IsDone, IsFileAt, IsNewEntry, KeepsKind, attributes, bytes_written, edit_done, linked, lost, made, row_moved, row_moved_onto, size_set}
use Rattle.qx_model.proofs.EditOutlines.{directory_parent, length-set, long_inodes, new_place_facts, slots_with-in}
use Rattle.qx_model.proofs.Outlines.{Absent, entry-other, entry_outline, slot_in}
use Rattle.qx_model.proofs.RootedRemovals.{IsRow, long_inodes_stay}
use Rattle.qx_model.proofs.WholeEntries.{set_or_stays}
use Rattle.qx_model.proofs.WholeOperations.{resized_long}

-- a body is a directory's
abbrev pub is_directory_body : Body → Bool
is_directory_body b = is_some (parent_of_body b)

-- a fact of each inode, with one of each of its slots, that holds of what operations make and set
pub record IsKept (s : Setting) (t : Tree) (Fits : Slot → Type 0) (Good : ℕ → Entry → Type 0) : Type 0 where
  pub attrs : (n : ℕ) (x : Entry) (a : Attr) → a.mode / 4096 ≡ x.attr.mode / 4096 → Good n x → Good n (record x { attr = a })
  pub slots : (n : ℕ) (x : Entry) (xs : List Slot) (parent leaf : ℕ) → is_directory_body x.body ≡ true → ((k : ℕ) → Fits (slot_in xs k)) → Good n x → Good n (with_slots s.blocksize xs parent leaf x)
  pub rows : (n : ℕ) (x : Entry) → Good n x → (k : ℕ) → Fits (slot_in (slots_of_body x.body) k)
  pub content : (f : FileAt) (size : ℕ) (content leaves : List ℕ) (x : Entry) → IsFileAt t f → length content ≡ size → size ≤ max f.entry.size greatest_end → x.body ≡ File f.content → Good f.inode f.entry → Good f.inode x → Good f.inode (with_content s.blocksize size content leaves x)
  pub new : (n d : ℕ) (x : Entry) (leaves : List ℕ) → new_inode t ≡ Ok n → IsNewEntry s n d x leaves → Good n x
  pub unused : Fits Unused
  pub pointed : (n : ℕ) (x : Slot) → Fits x → Fits (pointed n x)
  pub named : (u : Tree) (n : ℕ) (name : List ℕ) → 0 < length name → length name ≤ 510 → Fits (Row n name (number_for u name))

module _ (s : Setting) (t : Tree) (Fits : Slot → Type 0) (Good : ℕ → Entry → Type 0) (c : IsKept s t Fits Good) where
  -- a fact of an inode on the way: a directory of the tree before still is one
  pub record IsSame (n : ℕ) (x : Entry) : Type 0 where
    pub good : Good n x
    pub kind : is_directory t n ≡ true → is_directory_body x.body ≡ true

  -- a tree on the way
  pub record HasKept (u : Tree) : Type 0 where
    pub entries : (n : ℕ) (x : Entry) → entry_of u n ≡ Some x → IsSame n x
    pub places : length u.inodes ≡ length t.inodes

  -- it holds where nothing was edited yet
  pub kept_start : ((n : ℕ) (x : Entry) → entry_of t n ≡ Some x → Good n x) → HasKept t
  kept_start good = record {
    entries = λ n x live. record { good = good n x live; kind = λ dir. ap (λ o. is_some (option_and_then (λ (e : Entry). parent_of_body e.body) o)) (sym live) ∙ dir };
    places = refl;
  }

  -- an inode is set
  set : (u : Tree) (n : ℕ) (x : Option Entry) → HasKept u → ((y : Entry) → x ≡ Some y → IsSame n y) → HasKept (with_entry u n x)
  set u n x h good = record { entries = entries; places = places n ∙ h.places }
    where
      places : (n : ℕ) → length (with_entry u n x).inodes ≡ length u.inodes
      places zero = refl
      places (suc n) = length-set u.inodes n x

      entries : (m : ℕ) (y : Entry) → entry_of (with_entry u n x) m ≡ Some y → IsSame m y
      entries m y live = elim (cases_eq m n) [
        | inr ne ↦ h.entries m y (sym (entry-other u n m x (λ z. ne (sym z))) ∙ live)
        | inl is ↦ subst (λ k. IsSame k y) (sym is) (elim (set_or_stays u n x) [
          | inl new ↦ good y (sym new ∙ ap (entry_of (with_entry u n x)) (sym is) ∙ live)
          | inr old ↦ h.entries n y (sym old ∙ ap (entry_of (with_entry u n x)) (sym is) ∙ live)
        ])
      ]

  -- an inode is altered
  altered : (n : ℕ) (change : Entry → Entry) (e : Edit) → HasKept e.tree → ((x : Entry) → entry_of e.tree n ≡ Some x → IsSame n x → IsSame n (change x)) → HasKept (altering n change e).tree
  altered n change e h good = set e.tree n (option_map change (entry_of e.tree n)) h (λ y is. of_entry (entry_of e.tree n) refl y is)
    where
      of_entry : (o : Option Entry) → entry_of e.tree n ≡ o → (y : Entry) → option_map change o ≡ Some y → IsSame n y
      of_entry None live y is = absurd (cc)
      of_entry (Some x) live y is = let same : change x ≡ y = cc in subst (IsSame n) same (good x live (h.entries n x live))

  -- attributes change
  attr : (n : ℕ) (change : Attr → Attr) (e : Edit) → KeepsKind change → HasKept e.tree → HasKept (with_attr n change e).tree
  attr n change e kept h = altered n (λ x. record x { attr = change x.attr }) e h (λ x live w. record { good = c.attrs n x (change x.attr) (kept x.attr) w.good; kind = w.kind })

  -- the slots of every inode
  fit : (u : Tree) → HasKept u → (d k : ℕ) → Fits (slot_in (slots_of u d) k)
  fit u h d k = of_entry (entry_of u d) refl
    where
      of_entry : (o : Option Entry) → entry_of u d ≡ o → Fits (slot_in (slots_of u d) k)
      of_entry None live = subst (λ o. Fits (slot_in (slots_of_entry o) k)) (sym live) c.unused
      of_entry (Some x) live = subst (λ o. Fits (slot_in (slots_of_entry o) k)) (sym live) (c.rows d x (h.entries d x live).good k)

  set_fits : (xs : List Slot) (j : ℕ) (x : Slot) → Fits x → ((k : ℕ) → Fits (slot_in xs k)) → (k : ℕ) → Fits (slot_in (slice_set xs j x) k)
  set_fits [] j x new old k = old k
  set_fits (y ∷ xs) zero x new old zero = new
  set_fits (y ∷ xs) zero x new old (suc k) = old (suc k)
  set_fits (y ∷ xs) (suc j) x new old zero = old zero
  set_fits (y ∷ xs) (suc j) x new old (suc k) = set_fits xs j x new (λ i. old (suc i)) k

  with_fits : (xs : List Slot) (x : Slot) → Fits x → ((k : ℕ) → Fits (slot_in xs k)) → (k : ℕ) → Fits (slot_in (slots_with s.blocksize xs x) k)
  with_fits xs x new old k = subst Fits (sym (slots_with-in s.blocksize xs x k)) (by (k == position_or_len is_unused xs))
    where
      by : (b : Bool) → Fits (if b then x else slot_in xs k)
      by true = new
      by false = old k

  -- a directory gets other slots
  slotted : (d : ℕ) (xs : List Slot) (parent leaf : ℕ) (e : Edit) → ((x : Entry) → entry_of e.tree d ≡ Some x → is_directory_body x.body ≡ true) → ((k : ℕ) → Fits (slot_in xs k)) → HasKept e.tree
      → HasKept (altering d (with_slots s.blocksize xs parent leaf) e).tree
  slotted d xs parent leaf e dir fits h = altered d (with_slots s.blocksize xs parent leaf) e h (λ x live w. record { good = c.slots d x xs parent leaf (dir x live) fits w.good; kind = λ is. refl })

  -- record k of a directory is written
  recorded : (d k : ℕ) (xs : List Slot) (e : Edit) → is_directory t d ≡ true → ((k : ℕ) → Fits (slot_in xs k)) → HasKept e.tree → HasKept (with_attr d (content_changed s.moment) (writing_record s.blocksize d k xs e)).tree
  recorded d k xs e dir fits h =
      attr d (content_changed s.moment) (writing_record s.blocksize d k xs e) (λ a. refl)
      (slotted d xs (unwrap_or (parent_of e.tree d) d) (leaf_of_record s.blocksize k) e (λ x live. (h.entries d x live).kind dir) fits h)

  -- trees with the same inodes
  alike : (u v : Tree) → ((n : ℕ) → entry_of v n ≡ entry_of u n) → length v.inodes ≡ length u.inodes → HasKept u → HasKept v
  alike u v same long h = record { entries = λ n x live. h.entries n x (sym (same n) ∙ live); places = long ∙ h.places }

  long_places : (long : Option ℕ) (name : List ℕ) (e : Edit) → length (with_long s.blocksize long name e).tree.inodes ≡ length e.tree.inodes
  long_places None name e = refl
  long_places (Some k) name e = refl

  no_long_places : (long : Option ℕ) (e : Edit) → length (without_long long e).tree.inodes ≡ length e.tree.inodes
  no_long_places None e = refl
  no_long_places (Some k) e = refl

  -- ---- rows

  added : (d n : ℕ) (name : List ℕ) (e : Edit) → is_directory t d ≡ true → 0 < length name → length name ≤ 510 → HasKept e.tree → HasKept (add_row s d n name e).tree
  added d n name e dir some most h =
      let long = number_for e.tree name in
      recorded d (position_or_len is_unused (slots_of e.tree d)) (slots_with s.blocksize (slots_of e.tree d) (Row n name long)) (with_long s.blocksize long name e) dir
      (with_fits (slots_of e.tree d) (Row n name long) (c.named e.tree n name some most) (fit e.tree h d))
      (alike e.tree (with_long s.blocksize long name e).tree (long_inodes s.blocksize long name e) (long_places long name e) h)

  cleared : (d k : ℕ) (e : Edit) → is_directory t d ≡ true → HasKept e.tree → HasKept (clear_row s d k e).tree
  cleared d k e dir h =
      let long = long_of_slot (slot_at e.tree d k) in
      recorded d k (slice_set (slots_of e.tree d) k Unused) (without_long long e) dir (set_fits (slots_of e.tree d) k Unused c.unused (fit e.tree h d))
      (alike e.tree (without_long long e).tree (long_inodes_stay long e) (no_long_places long e) h)

  repointed : (d k n : ℕ) (e : Edit) → is_directory t d ≡ true → HasKept e.tree → HasKept (point_row s d k n e).tree
  repointed d k n e dir h =
      recorded d k (slice_set (slots_of e.tree d) k (pointed n (slot_at e.tree d k))) e dir
      (set_fits (slots_of e.tree d) k (pointed n (slot_at e.tree d k)) (c.pointed n (slot_at e.tree d k) (fit e.tree h d k)) (fit e.tree h d)) h

  fewer : (n : ℕ) (e : Edit) → HasKept e.tree → HasKept (lose_row s n e).tree
  fewer n e h = go (links_of e.tree n == 0)
    where
      go : (b : Bool) → HasKept (let f = if b then putting n None e else with_attr n (attr_changed s.moment) e in f.tree)
      go true = set e.tree n None h (λ y is. absurd (cc))
      go false = attr n (attr_changed s.moment) e (λ a. refl) h

  reparented : (n from to : ℕ) (e : Edit) → HasKept e.tree → HasKept (move_parent s n from to e).tree
  reparented n from to e h = go (is_directory e.tree n && not (from == to)) refl
    where
      body : (x : Entry) → entry_of e.tree n ≡ Some x → is_directory e.tree n ≡ true → is_directory_body x.body ≡ true
      body x live dir = ap (λ o. is_some (option_and_then (λ (e : Entry). parent_of_body e.body) o)) (sym live) ∙ dir

      go : (b : Bool) → (is_directory e.tree n && not (from == to)) ≡ b → HasKept (let f = if b then with_parent s n to e else e in f.tree)
      go true is =
          slotted n _ to _ e (λ x live. body x live (and_left (is_directory e.tree n) (not (from == to)) is)) (set_fits (slots_of e.tree n) _ _ (c.pointed to _ (fit e.tree h n _)) (fit e.tree h n)) h
      go false is = h

  moved : (row : RowAt) (d : ℕ) (e : Edit) → HasKept e.tree → HasKept (with_attr row.inode (attr_changed s.moment) (move_parent s row.inode row.directory d e)).tree
  moved row d e h = attr row.inode (attr_changed s.moment) (move_parent s row.inode row.directory d e) (λ a. refl) (reparented row.inode row.directory d e h)

  -- ---- files

  module _ (start : HasKept t) where
    rewritten : (f : FileAt) (size : ℕ) (content leaves : List ℕ) → IsFileAt t f → length content ≡ size → size ≤ max f.entry.size greatest_end → HasKept (rewriting s t f size content leaves).tree
    rewritten f size content leaves is long most =
        attr f.inode (content_changed s.moment) (writing (OfInode f.inode) leaves (altering f.inode (with_content s.blocksize size content leaves) (unchanged t))) (λ a. refl)
        (altered f.inode (with_content s.blocksize size content leaves) (unchanged t) start (λ x live w. record {
          good = c.content f size content leaves x is long most (body x live) (start.entries f.inode f.entry is.live).good w.good;
          kind = λ dir. absurd (true_or_false (is_directory t f.inode) dir file);
        }))
      where
        body : (x : Entry) → entry_of t f.inode ≡ Some x → x.body ≡ File f.content
        body x live = let same : Some f.entry ≡ Some x = sym is.live ∙ live in let one : f.entry ≡ x = cc in ap (λ (y : Entry). y.body) (sym one) ∙ is.body

        file : is_directory t f.inode ≡ false
        file = ap (λ o. is_some (option_and_then (λ (e : Entry). parent_of_body e.body) o)) is.live ∙ ap is_directory_body is.body

    within : (m size end : ℕ) → nat_lt m end ≡ false → max size end ≤ max size m
    within m size end fits = omega (arith, ltb-false m end fits)

    most : (m size end : ℕ) → nat_lt m end ≡ false → end ≤ max size m
    most m size end fits = omega (arith, ltb-false m end fits)

    written : (f : FileAt) (at : ℕ) (bytes : List ℕ) → IsFileAt t f → nat_lt greatest_end (at + length bytes) ≡ false → HasKept (written_at s t f at bytes).tree
    written f at [] is fits = attr f.inode (content_changed s.moment) (unchanged t) (λ a. refl) start
    written f at (b ∷ bytes) is fits =
        let size = max f.entry.size (at + length (b ∷ bytes)) in
        rewritten f size (put_at (resized f.content size) at (b ∷ bytes)) (leaves_of_range s.blocksize at (length (b ∷ bytes))) is
        (length_put (resized f.content size) (b ∷ bytes) at (length (b ∷ bytes)) refl (let long = resized_long f.content size in omega (arith, long)) ∙ resized_long f.content size)
        (within greatest_end f.entry.size (at + length (b ∷ bytes)) fits)

    -- ---- all edits

    row_directory : (row : RowAt) → IsRow t row → is_directory t row.directory ≡ true
    row_directory row is = ap is_some (directory_parent t row.directory is.directory)

    new_kept : (p : Place) (n : ℕ) (x : Entry) (leaves : List ℕ) → new_inode t ≡ Ok n → IsNewEntry s n p.directory x leaves → HasKept (putting n (Some x) (unchanged t)).tree
    new_kept p n x leaves new is = set t n (Some x) start (λ y same. subst (IsSame n) (one x y same) (record { good = c.new n p.directory x leaves new is; kind = λ dir. absurd (none dir) }))
      where
        one : (x y : Entry) → Some x ≡ Some y → x ≡ y
        one x y h = cc

        gone : (o : Option Entry) → entry_outline o ≡ Absent → is_some (option_and_then (λ (e : Entry). parent_of_body e.body) o) ≡ true → ⊥
        gone None is dir = cc
        gone (Some x) is dir = of_body x.body is
          where
            of_body : (b : Body) → entry_outline (Some (record x { body = b })) ≡ Absent → ⊥
            of_body (Directory slots parent) h = cc
            of_body (File content) h = cc
            of_body (Link target) h = cc
            of_body Special h = cc

        none : is_directory t n ≡ true → ⊥
        none dir = gone (entry_of t n) (new_place_facts t n new).1 dir

    -- whatever the edit is
    pub done_kept : (e : Edit) → IsDone s t e → HasKept e.tree
    done_kept e (attributes n change kept) = attr n change (unchanged t) kept start
    done_kept e (bytes_written f at bytes is fits) = written f at bytes is fits
    done_kept e (size_set f size is fits) = rewritten f size (resized f.content size) (cut_leaves s.blocksize f.entry size) is (resized_long f.content size) (most greatest_end f.entry.size size fits)
    done_kept e (made p n x leaves new is f) = let place = new.place in added p.directory n p.name (putting n (Some x) (unchanged t)) place.directory place.some place.most (new_kept p n x leaves is f)
    done_kept e (linked p n new live plain no_special) =
        let place = new.place in attr n (attr_changed s.moment) (add_row s p.directory n p.name (unchanged t)) (λ a. refl) (added p.directory n p.name (unchanged t) place.directory place.some place.most start)
    done_kept e (lost row is may) = fewer row.inode (clear_row s row.directory row.record_number (unchanged t)) (cleared row.directory row.record_number (unchanged t) (row_directory row is) start)
    done_kept e (row_moved row p is at free outside) =
        let e1 = clear_row s row.directory row.record_number (unchanged t) in
        moved row p.directory (add_row s p.directory row.inode p.name e1)
        (added p.directory row.inode p.name e1 at.directory at.some at.most (cleared row.directory row.record_number (unchanged t) (row_directory row is) start))
    done_kept e (row_moved_onto row old is is_old differ outside may) =
        let e1 = point_row s old.directory old.record_number row.inode (unchanged t) in
        let e2 = clear_row s row.directory row.record_number e1 in
        moved row old.directory (lose_row s old.inode e2)
        (fewer old.inode e2 (cleared row.directory row.record_number e1 (row_directory row is) (repointed old.directory old.record_number row.inode (unchanged t) (row_directory old is_old) start)))

-- ---- directories and places

module _ (s : Setting) (t : Tree) where
  abbrev fits_all : Slot → Type 0
  fits_all x = Unit {0}

  abbrev good_all : ℕ → Entry → Type 0
  good_all n x = Unit {0}

  nothing_asked : IsKept s t fits_all good_all
  nothing_asked = record {
    attrs = λ n x a same h. tt;
    slots = λ n x xs parent leaf dir fits h. tt;
    rows = λ n x h k. tt;
    content = λ f size content leaves x is long most body own h. tt;
    new = λ n d x leaves new is. tt;
    unused = tt;
    pointed = λ n x h. tt;
    named = λ u n name some most. tt;
  }

  module _ (o : Op) (is_removing : Bool) (e : Edit) (r : IsRooted t) (live : StandsLive s t) (is : operate s t o ≡ Ok (Edits is_removing e)) where
    after : HasKept s t fits_all good_all nothing_asked e.tree
    after = done_kept s t fits_all good_all nothing_asked (kept_start s t fits_all good_all nothing_asked (λ n x live. tt)) e (edit_done s t o is_removing e r live is)

    -- an operation keeps the places for inodes
    pub operation_places : length e.tree.inodes ≡ length t.inodes
    operation_places = after.places

    -- a directory that lives on stays one
    pub operation_directories : (d : ℕ) → is_directory t d ≡ true → is_live e.tree d ≡ true → is_directory e.tree d ≡ true
    operation_directories d dir there = of_entry (entry_of e.tree d) refl there
      where
        of_entry : (x : Option Entry) → entry_of e.tree d ≡ x → is_some x ≡ true → is_directory e.tree d ≡ true
        of_entry None at h = absurd (cc)
        of_entry (Some x) at h = ap (λ o. is_some (option_and_then (λ (e : Entry). parent_of_body e.body) o)) at ∙ (after.entries d x at).kind dir
