-- Rename, edit by edit.
use Rattle.std.proofs.Common.{◌≡◌, ℕ, ◌<◌, ◌≤◌, List, length, inl, inr, refl, sym, ◌∙◌, ap, subst, arith}
use Rattle.std.specs.Prelude.{Bool, true, false, not, ◌&&◌, ◌==◌, Option, Some, is_some, option_and_then, slice_set, if◌then◌else◌}
use Rattle.std.specs.List.{position_or_len}
use Rattle.std.proofs.lemmas.Bool.{cases_eq}
use Rattle.qx_geom.proofs.Truths.{and_left}
use Rattle.qx_dir.specs.Rows.{row_of}
use Rattle.qx_fields.specs.declared.order.Order.{Order}
use Rattle.qx_records.specs.declared.inode.Inode.{Inode}
use Rattle.qx_model.specs.Directories.{is_directory, is_live, is_unused, long_of_slot, parent_of_body, slot_at, with_entry}
use Rattle.qx_model.specs.Edits.{Edit, Setting, absent_number, add_row, attr_changed, clear_row, move_parent, number_for, slots_with, unchanged, with_long, with_parent, without_long}
use Rattle.qx_model.specs.LostNames.{RowAt, moved_to}
use Rattle.qx_model.specs.Paths.{Place}
use Rattle.qx_model.specs.Tree.{Directory, Entry, Row, Slot, Tree, Unused, is_dots, named_by, slots_of}
use Rattle.qx_model.specs.Whole.{HoldsRecords, IsWhole}
use Rattle.qx_model.proofs.EditOutlines.{IsDirectoryAt, directory_at, directory_slots, live_place, long_inodes}
use Rattle.qx_model.proofs.Outlines.{entry-other, slot_in}
use Rattle.qx_model.proofs.RootedRemovals.{long_inodes_stay}
use Rattle.qx_model.proofs.WholeRows.{entry_set}
use Rattle.qx_copies.specs.Copies.{Contents}
use Rattle.qx_copies.specs.Shown.{Shows}
use Rattle.qx_copies.proofs.ShownContents.{same_itself, shows_alike}
use Rattle.qx_working.specs.declared.links.Link.{Link}
use Rattle.qx_working.specs.Links.{HasLinks}
use Rattle.qx_edits.specs.LinkEdits.{into_parent, one_less, one_more}
use Rattle.qx_edits.specs.RecordEdits.{SetsRecord}
use Rattle.qx_edits.specs.RowSteps.{AddsRow, ClearsRow, MayMoveParent, MovesParentIf}
use Rattle.qx_edits.specs.SetInodes.{SetsAttr}
use Rattle.qx_edits.proofs.LinkedRows.{added_links, cleared_links, moved_links}
use Rattle.qx_edits.proofs.RowTrees.{added_is_set, cleared_is_set, rewritten, with_name, without_name}
use Rattle.qx_edits.proofs.ShownInodes.{attr_links, attr_shown}
use Rattle.qx_edits.proofs.ShownNamedRows.{added_shown, cleared_shown}
use Rattle.qx_edits.proofs.ShownRows.{parent_shown}
use Rattle.qx_edits.proofs.WholeEdits.{added_whole, cleared_whole}

-- a tree in which a directory has another entry as one has the same directories, and the same inodes live
module _ (t : Tree) (d : ℕ) (h : IsDirectoryAt t d) (y : Entry) (ys : List Slot) (up : ℕ) (body : y.body ≡ Directory ys up) where
  same_directories : (n : ℕ) → is_directory (with_entry t d (Some y)) n ≡ is_directory t n
  same_directories n = elim (cases_eq n d) [
    | inl at ↦
        ap (is_directory (with_entry t d (Some y))) at ∙ ap (λ o. is_some (option_and_then (λ (e : Entry). parent_of_body e.body) o)) (entry_set t d (Some y) (live_place t d h.entry h.live)) ∙ ap (λ b. is_some (parent_of_body b)) body
        ∙ sym (ap (is_directory t) at ∙ ap (λ o. is_some (option_and_then (λ (e : Entry). parent_of_body e.body) o)) h.live ∙ ap (λ b. is_some (parent_of_body b)) h.body)
    | inr ne ↦ ap (λ o. is_some (option_and_then (λ (e : Entry). parent_of_body e.body) o)) (entry-other t d n (Some y) (λ z. ne (sym z)))
  ]

  same_live : (n : ℕ) → is_live (with_entry t d (Some y)) n ≡ is_live t n
  same_live n = elim (cases_eq n d) [
    | inl at ↦ ap (is_live (with_entry t d (Some y))) at ∙ ap is_some (entry_set t d (Some y) (live_place t d h.entry h.live)) ∙ sym (ap (is_live t) at ∙ ap is_some h.live)
    | inr ne ↦ ap is_some (entry-other t d n (Some y) (λ z. ne (sym z)))
  ]

module _ (s : Setting) (e : Edit) (d : ℕ) (h : IsDirectoryAt e.tree d) where
  -- the same after a row is cleared, and after one is added
  cleared_directories : (k n : ℕ) → is_directory (clear_row s d k e).tree n ≡ is_directory e.tree n
  cleared_directories k n =
      let long = long_of_slot (slot_at e.tree d k) in
      ap (λ u. is_directory u n) (cleared_is_set s d e h k)
      ∙ same_directories (without_long long e).tree d (without_name long e d h) (rewritten s k (slice_set h.slots k Unused) h.up h.entry) (slice_set h.slots k Unused) h.up refl n
      ∙ ap (λ o. is_some (option_and_then (λ (x : Entry). parent_of_body x.body) o)) (long_inodes_stay long e n)

  cleared_live : (k n : ℕ) → is_live (clear_row s d k e).tree n ≡ is_live e.tree n
  cleared_live k n =
      let long = long_of_slot (slot_at e.tree d k) in
      ap (λ u. is_live u n) (cleared_is_set s d e h k)
      ∙ same_live (without_long long e).tree d (without_name long e d h) (rewritten s k (slice_set h.slots k Unused) h.up h.entry) (slice_set h.slots k Unused) h.up refl n
      ∙ ap is_some (long_inodes_stay long e n)

  added_directories : (i : ℕ) (name : List ℕ) (n : ℕ) → is_directory (add_row s d i name e).tree n ≡ is_directory e.tree n
  added_directories i name n =
      let long = number_for e.tree name in
      let ys = slots_with s.blocksize h.slots (Row i name long) in
      ap (λ u. is_directory u n) (added_is_set s d e h i name)
      ∙ same_directories (with_long s.blocksize long name e).tree d (with_name s.blocksize long name e d h) (rewritten s (position_or_len is_unused h.slots) ys h.up h.entry) ys h.up refl n
      ∙ ap (λ o. is_some (option_and_then (λ (x : Entry). parent_of_body x.body) o)) (long_inodes s.blocksize long name e n)

-- ---- the parent of a directory that moves

-- the tree afterwards, by the test
parent_tree : Setting → ℕ → ℕ → Edit → Bool → Tree
parent_tree s n to e b = (if b then with_parent s n to e else e).tree

may_move_shown : (order : Order) (s : Setting) (before after : List (Option Inode)) (old new : Contents) (t : Tree) (e : Edit) (n from to : ℕ) → HoldsRecords s.blocksize → IsWhole s.blocksize e.tree → Shows order s.blocksize before old e.tree
    → is_directory e.tree n ≡ is_directory t n → MayMoveParent order s t n from to before after old new → Shows order s.blocksize after new (move_parent s n from to e).tree
unfolding parent_tree
may_move_shown order s before after old new t e n from to holds whole shows same may =
    subst (λ b. Shows order s.blocksize after new (parent_tree s n to e (b && not (from == to)))) (sym same) (go (is_directory t n && not (from == to)) refl may)
  where
    go : (b : Bool) → (is_directory t n && not (from == to)) ≡ b → MovesParentIf b order s n to before after old new
        → Shows order s.blocksize after new (if b then with_parent s n to e else e).tree
    go true is may = parent_shown order s before after old new e n holds whole shows (directory_at e.tree n (same ∙ and_left (is_directory t n) (not (from == to)) is)) to may.inode may.others may.put
    go false is may = subst (λ i. Shows order s.blocksize i new e.tree) (sym may.inodes) (shows_alike order s.blocksize before old new e.tree (let two = holds.two in omega (arith, two)) may.contents shows)

may_move_links : (s : Setting) (links : List Link) (t : Tree) (e : Edit) (n from to : ℕ) → IsWhole s.blocksize e.tree → is_directory e.tree n ≡ is_directory t n → HasLinks links e.tree
    → HasLinks (if is_directory t n && not (from == to) then into_parent links n to else links) (move_parent s n from to e).tree
unfolding parent_tree
may_move_links s links t e n from to whole same has =
    subst (λ b. HasLinks (if is_directory t n && not (from == to) then into_parent links n to else links) (parent_tree s n to e (b && not (from == to)))) (sym same) (go (is_directory t n && not (from == to)) refl)
  where
    go : (b : Bool) → (is_directory t n && not (from == to)) ≡ b → HasLinks (if b then into_parent links n to else links) (if b then with_parent s n to e else e).tree
    go true is = moved_links s links e n (directory_at e.tree n (same ∙ and_left (is_directory t n) (not (from == to)) is)) has whole to
    go false is = has

-- ---- to a name that isn't taken

module _ (s : Setting) (t : Tree) (from : RowAt) (to : Place) (holds : HoldsRecords s.blocksize) (whole : IsWhole s.blocksize t) (dir : is_directory t from.directory ≡ true) (past : 2 ≤ from.record_number)
    (low : from.record_number < length (slots_of t from.directory)) (target : is_directory t to.directory ≡ true) where
  g : IsDirectoryAt t from.directory
  g = directory_at t from.directory dir

  within : from.record_number < length (let d = g in d.slots)
  within = subst (λ xs. from.record_number < length xs) (directory_slots t from.directory g) low

  abbrev e1 : Edit
  e1 = clear_row s from.directory from.record_number (unchanged t)

  whole1 : IsWhole s.blocksize e1.tree
  whole1 = cleared_whole s (unchanged t) from.directory holds whole g from.record_number past within

  h1 : IsDirectoryAt e1.tree to.directory
  h1 = directory_at e1.tree to.directory (cleared_directories s (unchanged t) from.directory g from.record_number to.directory ∙ target)

  abbrev e2 : Edit
  e2 = add_row s to.directory from.inode to.name e1

  whole2 : IsWhole s.blocksize e2.tree
  whole2 = added_whole s e1 to.directory holds whole1 h1 from.inode to.name

  same : is_directory e2.tree from.inode ≡ is_directory t from.inode
  same = added_directories s e1 to.directory h1 from.inode to.name from.inode ∙ cleared_directories s (unchanged t) from.directory g from.record_number from.inode

  pub moved_shown : (order : Order) (first cleared added moved last : List (Option Inode)) (old without with new : Contents) → Shows order s.blocksize first old t
      → ClearsRow order s t from.directory from.record_number first cleared old without → AddsRow order s e1.tree to.directory from.inode to.name cleared added without with
      → MayMoveParent order s t from.inode from.directory to.directory added moved with new → SetsAttr moved last from.inode (attr_changed s.moment)
      → Shows order s.blocksize last new (moved_to s t from to).tree
  moved_shown order first cleared added moved last old without with new shows clears adds may times =
      attr_shown order s.blocksize moved last new new (move_parent s from.inode from.directory to.directory e2) from.inode (attr_changed s.moment) (let two = holds.two in omega (arith, two))
      (may_move_shown order s added moved with new t e2 from.inode from.directory to.directory holds whole2 second same may) (λ a. refl) times (λ o. same_itself s.blocksize (new o))
    where
      one : Shows order s.blocksize cleared without e1.tree
      one = cleared_shown order s first cleared old without (unchanged t) from.directory holds whole shows g clears.times from.record_number within clears.others clears.name clears.put

      second : Shows order s.blocksize added with e2.tree
      second =
          added_shown order s cleared added without with e1 to.directory holds whole1 one h1 adds.times from.inode to.name adds.others adds.long
          (subst (λ xs. SetsRecord order s.blocksize (position_or_len is_unused xs) (row_of from.inode to.name (absent_number e1.tree)) (without to.directory) (with to.directory)) (directory_slots e1.tree to.directory h1) adds.put)

  pub moved_to_links : (links : List Link) → named_by (slot_at t from.directory from.record_number) ≡ Some from.inode → is_live t from.inode ≡ true → is_dots to.name ≡ false → HasLinks links t
      → HasLinks (if is_directory t from.inode && not (from.directory == to.directory) then into_parent (one_more (one_less links from.inode) from.inode) from.inode to.directory else one_more (one_less links from.inode) from.inode) (moved_to s t from to).tree
  moved_to_links links named live plain has =
      attr_links (if is_directory t from.inode && not (from.directory == to.directory) then into_parent (one_more (one_less links from.inode) from.inode) from.inode to.directory else one_more (one_less links from.inode) from.inode)
      (move_parent s from.inode from.directory to.directory e2) from.inode (attr_changed s.moment)
      (may_move_links s (one_more (one_less links from.inode) from.inode) t e2 from.inode from.directory to.directory whole2 same
      (added_links s (one_less links from.inode) e1 to.directory h1
      (cleared_links s links (unchanged t) from.directory g has from.record_number from.inode within (subst (λ xs. named_by (slot_in xs from.record_number) ≡ Some from.inode) (directory_slots t from.directory g) named) live)
      from.inode to.name (cleared_live s (unchanged t) from.directory g from.record_number from.inode ∙ live) plain))
