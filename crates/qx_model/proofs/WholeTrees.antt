-- Each operation leaves a whole tree whole.
use Rattle.std.proofs.Common.{◌≡◌, ℕ, ◌-◌, ◌/◌, ◌⊎◌, inl, inr, List, [], ◌∷◌, sym, ap, ◌∙◌}
use Rattle.std.specs.Prelude.{◌≢◌, Bool, true, Some, Ok}
use Rattle.std.proofs.lemmas.Bool.{cases_eq}
use Rattle.qx_model.specs.declared.operation.Op.{Op}
use Rattle.qx_model.specs.Tree.{Entry, File, Row, Slot, Tree, Unused, entry_of}
use Rattle.qx_model.specs.Rooted.{IsRooted}
use Rattle.qx_model.specs.Answering.{FileAt}
use Rattle.qx_model.specs.Contents.{rewriting, with_content, written_at}
use Rattle.qx_model.specs.Directories.{is_directory}
use Rattle.qx_model.specs.Edits.{Edit, Setting, StandsLive, add_row, altering, attr_changed, clear_row, content_changed, lose_row, move_parent, new_inode, point_row, putting, unchanged, writing}
use Rattle.qx_model.specs.Effects.{Edits}
use Rattle.qx_model.specs.LostNames.{RowAt}
use Rattle.qx_model.specs.NewNames.{made_at}
use Rattle.qx_model.specs.Operate.{operate}
use Rattle.qx_model.specs.Owners.{OfInode}
use Rattle.qx_model.specs.Paths.{Place}
use Rattle.qx_model.proofs.AddedRows.{set_at, set_at-other, set_at-same}
use Rattle.qx_model.specs.Whole.{HoldsRecords, IsWhole}
use Rattle.qx_model.proofs.DoneEdits.{IsDone, IsFileAt, IsNewEntry, attributes, bytes_written, edit_done, linked, lost, made, new_dir, new_file, new_target, row_moved, row_moved_onto, size_set}
use Rattle.qx_model.proofs.EditOutlines.{IsDirectoryAt, directory_at, directory_outline, new_place_facts, outline_directory}
use Rattle.qx_model.proofs.Outlines.{Absent, Dir, body_outline, entry-other, outline_of, slot_in, slots_in}
use Rattle.qx_model.proofs.RootedNames.{first_slot}
use Rattle.qx_model.proofs.RootedRemovals.{IsRow, cleared_outlines}
use Rattle.qx_model.proofs.WholeNumbers.{HasNames, names_added, names_altered, names_attr, names_cleared, names_entry, names_lost, names_moved, names_pointed}
use Rattle.qx_model.proofs.WholeOperations.{operation_whole, record_pointed}

module _ (s : Setting) (t : Tree) (h : HasNames s.blocksize t) where
  -- a directory and its first record stay where a row is cleared
  pub stays : (row : RowAt) → IsRow t row → (d : ℕ) → is_directory t d ≡ true → IsDirectoryAt (clear_row s row.directory row.record_number (unchanged t)).tree d
  stays row is d dir =
      let g = directory_at t d dir in
      (outline_directory (clear_row s row.directory row.record_number (unchanged t)).tree d (let w = now row is d g (cases_eq d row.directory) in w.0) (let w = now row is d g (cases_eq d row.directory) in w.1) (let w = now row is d g (cases_eq d row.directory) in w.2)).0
    where
      now : (row : RowAt) (is : IsRow t row) (d : ℕ) (g : IsDirectoryAt t d) → (d ≡ row.directory) ⊎ (d ≢ row.directory) → (f : ℕ → Slot) × (p : ℕ) × (outline_of (clear_row s row.directory row.record_number (unchanged t)).tree d ≡ Dir f p)
      now row is d g (inl e) =
          let there = is.directory in (
            set_at row.record_number Unused (slot_in there.slots),
            there.up,
            ap (outline_of (clear_row s row.directory row.record_number (unchanged t)).tree) e ∙ cleared_outlines s row.directory row.record_number (unchanged t) is.directory is.within row.directory
                ∙ set_at-same row.directory (Dir (set_at row.record_number Unused (slot_in there.slots)) there.up) (outline_of t),
          )
      now row is d g (inr ne) =
          let there = is.directory in
          (slot_in g.slots, g.up, cleared_outlines s row.directory row.record_number (unchanged t) is.directory is.within d ∙ set_at-other row.directory (Dir (set_at row.record_number Unused (slot_in there.slots)) there.up) (outline_of t) d ne ∙ directory_outline t d g)

  rewritten_names : (f : FileAt) (size : ℕ) (content leaves : List ℕ) → IsFileAt t f → HasNames s.blocksize (rewriting s t f size content leaves).tree
  rewritten_names f size content leaves is =
      names_attr s.blocksize f.inode (content_changed s.moment) (writing (OfInode f.inode) leaves (altering f.inode (with_content s.blocksize size content leaves) (unchanged t)))
      (names_altered s.blocksize f.inode (with_content s.blocksize size content leaves) (unchanged t) (λ x live. sym (ap body_outline (plain x live))) h)
    where
      plain : (x : Entry) → entry_of t f.inode ≡ Some x → x.body ≡ File f.content
      plain x live = let same : Some f.entry ≡ Some x = sym is.live ∙ live in let one : f.entry ≡ x = cc in ap (λ (y : Entry). y.body) (sym one) ∙ is.body

  bytes_names : (f : FileAt) (at : ℕ) (bytes : List ℕ) → IsFileAt t f → HasNames s.blocksize (written_at s t f at bytes).tree
  bytes_names f at [] is = names_attr s.blocksize f.inode (content_changed s.moment) (unchanged t) h
  bytes_names f at (b ∷ bytes) is = rewritten_names f _ _ _ is

  -- a new inode has no row with a number
  pub unnumbered : (n d : ℕ) (x : Entry) (leaves : List ℕ) → IsNewEntry s n d x leaves → (k i number : ℕ) (name : List ℕ) → slots_in (body_outline x.body) k ≡ Row i name (Some number) → ⊥
  unnumbered n d x leaves new_file k i number name z = cc
  unnumbered n d x leaves (new_target target q read) k i number name z = cc
  unnumbered n d x leaves new_dir k i number name z = first_slot (s.blocksize / 32 - 2) n d k (λ y. y ≡ Row i name (Some number) → ⊥) (λ z. cc) (λ z. cc) (λ z. cc) z

  made_names : (p : Place) (n : ℕ) (x : Entry) (leaves : List ℕ) → is_directory t p.directory ≡ true → new_inode t ≡ Ok n → IsNewEntry s n p.directory x leaves → HasNames s.blocksize (made_at s t p n x leaves).tree
  made_names p n x leaves dir new is =
      let d = p.directory in
      let place = new_place_facts t n new in
      let g = directory_at t p.directory dir in
      let differ : p.directory ≢ n = λ e. not_absent g.slots g.up (sym (directory_outline t p.directory g) ∙ ap (outline_of t) e ∙ place.1) in
      let e0 : Edit = putting n (Some x) (unchanged t) in
      let there : IsDirectoryAt e0.tree d = record { entry = g.entry; slots = g.slots; up = g.up; live = entry-other t n d (Some x) (λ e. differ (sym e)) ∙ g.live; body = g.body } in
      names_added s d e0 there (names_entry s.blocksize t n (Some x) (λ k i number name z. absurd (unnumbered n p.directory x leaves is k i number name z)) h) n p.name
    where
      not_absent : (xs : List Slot) (up : ℕ) → Dir (slot_in xs) up ≡ Absent → ⊥
      not_absent xs up e = cc

  done_names : (e : Edit) → IsDone s t e → HasNames s.blocksize e.tree
  done_names e (attributes n change kept) = names_attr s.blocksize n change (unchanged t) h
  done_names e (bytes_written f at bytes is fits) = bytes_names f at bytes is
  done_names e (size_set f size is fits) = rewritten_names f _ _ _ is
  done_names e (made p n x leaves new is f) = let place = new.place in made_names p n x leaves place.directory is f
  done_names e (linked p n new live plain no_special) =
      let place = new.place in
      names_attr s.blocksize n (attr_changed s.moment) (add_row s p.directory n p.name (unchanged t)) (names_added s p.directory (unchanged t) (directory_at t p.directory place.directory) h n p.name)
  done_names e (lost row is may) = names_lost s row.inode (clear_row s row.directory row.record_number (unchanged t)) (names_cleared s row.directory (unchanged t) is.directory h row.record_number is.within)
  done_names e (row_moved row p is at free outside) =
      let cleared = clear_row s row.directory row.record_number (unchanged t) in
      names_attr s.blocksize row.inode (attr_changed s.moment) (move_parent s row.inode row.directory p.directory (add_row s p.directory row.inode p.name cleared))
      (names_moved s row.inode row.directory p.directory (add_row s p.directory row.inode p.name cleared)
      (names_added s p.directory cleared (stays row is p.directory at.directory) (names_cleared s row.directory (unchanged t) is.directory h row.record_number is.within) row.inode p.name))
  done_names e (row_moved_onto row old is is_old differ outside may) =
      let e1 = point_row s old.directory old.record_number row.inode (unchanged t) in
      let e2 = clear_row s row.directory row.record_number e1 in
      let there = record_pointed s old.directory old.record_number row.inode (unchanged t) is_old.directory row.directory row.record_number (record { directory = is.directory; within = is.within }) in
      names_attr s.blocksize row.inode (attr_changed s.moment) (move_parent s row.inode row.directory old.directory (lose_row s old.inode e2))
      (names_moved s row.inode row.directory old.directory (lose_row s old.inode e2)
      (names_lost s old.inode e2
      (names_cleared s row.directory e1 there.directory (names_pointed s old.directory (unchanged t) is_old.directory h old.record_number row.inode is_old.within) row.record_number there.within)))

-- each operation keeps the tree whole
pub operation_keeps_whole : (s : Setting) (t : Tree) (o : Op) (is_removing : Bool) (e : Edit) → HoldsRecords s.blocksize → IsRooted t → IsWhole s.blocksize t → StandsLive s t → operate s t o ≡ Ok (Edits is_removing e) → IsWhole s.blocksize e.tree
operation_keeps_whole s t o is_removing e holds r whole live is =
    let n = done_names s t (record { longs = whole.longs; numbers = whole.numbers }) e (edit_done s t o is_removing e r live is) in
    record { entries = operation_whole s t o is_removing e holds r whole.entries live is; longs = n.longs; numbers = n.numbers }
