-- The trees that edits of rows make: each is one inode set.
use Rattle.std.proofs.Common.{◌≡◌, ℕ, zero, suc, List, refl, ◌∙◌, ap}
use Rattle.std.specs.Prelude.{Option, Some, option_map, slice_set, unwrap_or}
use Rattle.std.specs.List.{position_or_len}
use Rattle.std.proofs.lemmas.List.{set-set}
use Rattle.qx_model.specs.Directories.{has_name, is_unused, long_of_slot, parent_of, slot_at, with_entry}
use Rattle.qx_model.specs.Edits.{Edit, Setting, add_row, clear_row, content_changed, leaf_of_record, number_for, point_row, pointed, slots_with, with_attr, with_long, with_parent, with_slots, without_long, writing_record}
use Rattle.qx_model.specs.Tree.{Entry, Row, Slot, Tree, Unused, dots_name, entry_of}
use Rattle.qx_model.proofs.EditOutlines.{IsDirectoryAt, directory_parent, directory_slots, long_inodes}
use Rattle.qx_model.proofs.Outlines.{slot_in}
use Rattle.qx_model.proofs.RootedRemovals.{long_inodes_stay}
use Rattle.qx_model.proofs.WholeRows.{entry_altered}

-- a directory's entry with other slots, one of them written, and its times
abbrev pub rewritten : Setting → ℕ → List Slot → ℕ → Entry → Entry
rewritten s k slots up e = record (with_slots s.blocksize slots up (leaf_of_record s.blocksize k) e) { attr = content_changed s.moment e.attr }

-- the later of two entries at a number stays
pub entry_twice : (t : Tree) (n : ℕ) (a b : Option Entry) → with_entry (with_entry t n a) n b ≡ with_entry t n b
entry_twice t zero a b = refl
entry_twice t (suc n) a b = ap (λ xs. let u : Tree = record t { inodes = xs } in u) (set-set t.inodes n a b)

-- a written record and the times of its directory are one inode set
record_is_set : (s : Setting) (d k : ℕ) (new : List Slot) (e : Edit) (h : IsDirectoryAt e.tree d) → (with_attr d (content_changed s.moment) (writing_record s.blocksize d k new e)).tree ≡ with_entry e.tree d (Some (rewritten s k new h.up h.entry))
record_is_set s d k new e h =
    ap (λ o. with_entry (writing_record s.blocksize d k new e).tree d (option_map (λ (x : Entry). record x { attr = content_changed s.moment x.attr }) o)) (entry_altered d (change up) e h.entry h.live)
    ∙ entry_twice e.tree d (option_map (change up) (entry_of e.tree d)) (Some (record (change up h.entry) { attr = content_changed s.moment (let x = h.entry in x.attr) }))
    ∙ ap (λ p. with_entry e.tree d (Some (rewritten s k new p h.entry))) (ap (λ o. unwrap_or o d) (directory_parent e.tree d h))
  where
    up : ℕ
    up = unwrap_or (parent_of e.tree d) d

    change : ℕ → Entry → Entry
    change p = with_slots s.blocksize new p (leaf_of_record s.blocksize k)

-- the directory in a tree with a long name, and without one
abbrev pub with_name : (blocksize : ℕ) (long : Option ℕ) (name : List ℕ) (e : Edit) (d : ℕ) → IsDirectoryAt e.tree d → IsDirectoryAt (with_long blocksize long name e).tree d
with_name blocksize long name e d h = record { entry = h.entry; slots = h.slots; up = h.up; live = long_inodes blocksize long name e d ∙ h.live; body = h.body }

abbrev pub without_name : (long : Option ℕ) (e : Edit) (d : ℕ) → IsDirectoryAt e.tree d → IsDirectoryAt (without_long long e).tree d
without_name long e d h = record { entry = h.entry; slots = h.slots; up = h.up; live = long_inodes_stay long e d ∙ h.live; body = h.body }

module _ (s : Setting) (d : ℕ) (e : Edit) (h : IsDirectoryAt e.tree d) where
  -- a row is added
  pub added_is_set : (n : ℕ) (name : List ℕ) → (add_row s d n name e).tree
      ≡ with_entry (with_long s.blocksize (number_for e.tree name) name e).tree d (Some (rewritten s (position_or_len is_unused h.slots) (slots_with s.blocksize h.slots (Row n name (number_for e.tree name))) h.up h.entry))
  added_is_set n name =
      let long = number_for e.tree name in
      ap (λ xs. (with_attr d (content_changed s.moment) (writing_record s.blocksize d (position_or_len is_unused xs) (slots_with s.blocksize xs (Row n name (number_for e.tree name))) (with_long s.blocksize (number_for e.tree name) name e))).tree) (directory_slots e.tree d h)
      ∙ record_is_set s d (position_or_len is_unused h.slots) (slots_with s.blocksize h.slots (Row n name long)) (with_long s.blocksize long name e) (with_name s.blocksize long name e d h)

  -- a row is cleared
  pub cleared_is_set : (k : ℕ) → (clear_row s d k e).tree ≡ with_entry (without_long (long_of_slot (slot_at e.tree d k)) e).tree d (Some (rewritten s k (slice_set h.slots k Unused) h.up h.entry))
  cleared_is_set k =
      let long = long_of_slot (slot_at e.tree d k) in
      ap (λ xs. (with_attr d (content_changed s.moment) (writing_record s.blocksize d k (slice_set xs k Unused) (without_long (long_of_slot (slot_at e.tree d k)) e))).tree) (directory_slots e.tree d h)
      ∙ record_is_set s d k (slice_set h.slots k Unused) (without_long long e) (without_name long e d h)

  -- a row names another inode
  pub pointed_is_set : (k n : ℕ) → (point_row s d k n e).tree ≡ with_entry e.tree d (Some (rewritten s k (slice_set h.slots k (pointed n (slot_at e.tree d k))) h.up h.entry))
  pointed_is_set k n =
      ap (λ xs. (with_attr d (content_changed s.moment) (writing_record s.blocksize d k (slice_set xs k (pointed n (slot_at e.tree d k))) e)).tree) (directory_slots e.tree d h)
      ∙ record_is_set s d k (slice_set h.slots k (pointed n (slot_at e.tree d k))) e h

  -- the place of the row `..`
  abbrev pub dots_place : ℕ
  dots_place = position_or_len (has_name dots_name) h.slots

  -- another parent
  pub parent_is_set : (to : ℕ) → (with_parent s d to e).tree ≡ with_entry e.tree d (Some (with_slots s.blocksize (slice_set h.slots dots_place (pointed to (slot_in h.slots dots_place))) to (leaf_of_record s.blocksize dots_place) h.entry))
  parent_is_set to =
      ap (λ xs. with_entry e.tree d (option_map (with_slots s.blocksize (slice_set xs (position_or_len (has_name dots_name) xs) (pointed to (slot_in xs (position_or_len (has_name dots_name) xs)))) to (leaf_of_record s.blocksize (position_or_len (has_name dots_name) xs))) (entry_of e.tree d)))
      (directory_slots e.tree d h)
      ∙ ap (λ o. with_entry e.tree d (option_map (with_slots s.blocksize (slice_set h.slots dots_place (pointed to (slot_in h.slots dots_place))) to (leaf_of_record s.blocksize dots_place)) o)) h.live
