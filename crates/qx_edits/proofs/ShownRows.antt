-- What is shown once a row is added, cleared or pointed elsewhere.
use Rattle.std.proofs.Common.{◌≡◌, ◌≢◌, ℕ, ◌*◌, ◌/◌, ◌<◌, List, [], ◌∷◌, length, refl, sym, ◌∙◌, ap, subst, arith}
use Rattle.std.specs.Prelude.{Option, Some, None, slice_get, slice_set}
use Rattle.std.specs.List.{position_or_len}
use Rattle.std.proofs.lemmas.Option.{slice_get_within}
use Rattle.qx_fields.specs.declared.order.Order.{Order}
use Rattle.qx_geom.specs.Pointer.{ceil_div}
use Rattle.qx_geom.specs.Positions.{present_after}
use Rattle.qx_nodes.specs.LongNames.{name_in}
use Rattle.qx_nodes.specs.NodeContents.{IsSameContent}
use Rattle.qx_records.specs.NameRecord.{RawRecord}
use Rattle.qx_records.specs.declared.inode.Inode.{Inode}
use Rattle.qx_model.specs.declared.attr.Attr.{Attr}
use Rattle.qx_model.specs.Directories.{has_name, slot_at, with_entry}
use Rattle.qx_model.specs.Edits.{Edit, Setting, content_changed, leaf_of_record, point_row, pointed, with_parent, with_slots}
use Rattle.qx_model.specs.Tree.{Row, Slot, Tree}
use Rattle.qx_model.specs.Whole.{HoldsRecords, IsWhole, IsWholeDirectory, body_size}
use Rattle.qx_model.proofs.AddedRows.{set_at}
use Rattle.qx_model.proofs.EditOutlines.{IsDirectoryAt, directory_slots, replaced}
use Rattle.qx_model.proofs.Outlines.{slot_in}
use Rattle.qx_model.proofs.WholeRows.{directory_whole}
use Rattle.qx_view.specs.Entries.{HasContent, slot_by}
use Rattle.qx_copies.specs.Copies.{Contents}
use Rattle.qx_copies.specs.Shown.{Shows, reader_by}
use Rattle.qx_copies.proofs.ShownNames.{listed_count, listed_slot}
use Rattle.qx_edits.specs.RecordEdits.{SetsRecord, raw_naming, record_of, size_with_record}
use Rattle.qx_edits.specs.SetInodes.{SetsAttr}
use Rattle.qx_edits.proofs.DirectoryEntries.{directory_records, directory_shown, entry_was, slots_were}
use Rattle.qx_edits.proofs.RecordSlots.{naming_says, set_present, set_size, set_slots, size_set, there_in}
use Rattle.qx_edits.proofs.RowTrees.{parent_is_set, pointed_is_set}
use Rattle.qx_records.specs.declared.kind.Kind.TheVariants as kinds

module _ (order : Order) (blocksize : ℕ) (before after : List (Option Inode)) (old new : Contents) (t : Tree) (d : ℕ) (h : IsDirectoryAt t d) (pos : 0 < blocksize) (shows : Shows order blocksize before old t)
    (change : Attr → Attr) (sets : SetsAttr before after d change) where
  -- the content of the directory as the tree says it
  has : HasContent (reader_by order blocksize (old 0)) (old d) kinds.Directory h.entry
  has = let r = directory_records (reader_by order blocksize (old 0)) sets.old (old d) h.entry h.slots h.up h.body (entry_was order blocksize before after old new t d h pos shows change sets) in r.0

  -- its records are whole ones
  pub records_were : (old d).size / 32 ≡ length h.slots
  records_were = listed_count ((old d).size / 32) (λ k. slot_by (name_in order blocksize (old 0)) (record_of order blocksize (old d) k)) h.slots (slots_were order blocksize before after old new t d h pos shows change sets)

  pub slot_was : (k : ℕ) → k < length h.slots → slot_by (name_in order blocksize (old 0)) (record_of order blocksize (old d) k) ≡ slice_get h.slots k
  slot_was k low =
      let r = records_were in
      listed_slot ((old d).size / 32) (λ k. slot_by (name_in order blocksize (old 0)) (record_of order blocksize (old d) k)) h.slots (slots_were order blocksize before after old new t d h pos shows change sets) k (omega (arith, low, r))

  pub present_was : (let e = h.entry in e.present) ≡ (old d).present
  present_was = let x = has in x.present

  pub entry_size : (let e = h.entry in e.size) ≡ (old d).size
  entry_size = let x = has in x.size

  -- other slots, of which one is another
  pub record_shown : (k : ℕ) (raw : RawRecord) (row : Slot) (ys : List Slot) (up : ℕ) → ((a : Attr) → (change a).mode / 4096 ≡ a.mode / 4096) → (old d).size ≡ 32 * length h.slots
      → ((o : ℕ) → o ≢ d → IsSameContent blocksize (old o) (new o)) → SetsRecord order blocksize k raw (old d) (new d) → slot_by (name_in order blocksize (old 0)) raw ≡ Some row
      → 32 * length ys ≡ size_with_record blocksize k (32 * length h.slots) → ((j : ℕ) → slot_in ys j ≡ set_at k row (slot_in h.slots) j)
      → Shows order blocksize after new (with_entry t d (Some (record (with_slots blocksize ys up (leaf_of_record blocksize k) h.entry) { attr = change (let e = h.entry in e.attr) })))
  record_shown k raw row ys up keeps long others record_set says size slots =
      directory_shown order blocksize before after old new t d h pos shows change sets ys up (leaf_of_record blocksize k) keeps others
      (set_size order blocksize k (name_in order blocksize (old 0)) h.slots ys raw row (old d) (new d) long slot_was record_set says size slots)
      (set_present order blocksize k (name_in order blocksize (old 0)) h.slots ys raw row (old d) (new d) long slot_was record_set says size slots
      ∙ ap (λ ps. present_after_of ps) (sym present_was))
      (set_slots order blocksize k (name_in order blocksize (old 0)) h.slots ys raw row (old d) (new d) long slot_was record_set says size slots)
    where
      present_after_of : List ℕ → List ℕ
      present_after_of ps = present_after ps (ceil_div (32 * length ys) blocksize) (leaf_of_record blocksize k ∷ []) None

-- the row `..` is the second one of a whole directory
pub dots_second : (xs : List Slot) (d up : ℕ) → slice_get xs 0 ≡ Some (Row d (46 ∷ []) None) → slice_get xs 1 ≡ Some (Row up (46 ∷ 46 ∷ []) None) → position_or_len (has_name (46 ∷ 46 ∷ [])) xs ≡ 1
dots_second [] d up dot dots = absurd (cc)
dots_second (a ∷ []) d up dot dots = absurd (cc)
dots_second (a ∷ b ∷ rest) d up dot dots =
    let first : Row d (46 ∷ []) None ≡ a = cc in
    let second : Row up (46 ∷ 46 ∷ []) None ≡ b = cc in
    subst (λ x. position_or_len (has_name (46 ∷ 46 ∷ [])) (x ∷ b ∷ rest) ≡ 1) first (subst (λ y. position_or_len (has_name (46 ∷ 46 ∷ [])) (Row d (46 ∷ []) None ∷ y ∷ rest) ≡ 1) second refl)

-- a whole directory's size is that of its slots
pub whole_size : (blocksize : ℕ) (t : Tree) (d : ℕ) (h : IsDirectoryAt t d) → IsWhole blocksize t → (let e = h.entry in e.size) ≡ 32 * length h.slots
whole_size blocksize t d h whole = let w = whole.entries d h.entry h.live in w.size ∙ ap body_size h.body

module _ (order : Order) (s : Setting) (before after : List (Option Inode)) (old new : Contents) (e : Edit) (d : ℕ) (holds : HoldsRecords s.blocksize) (whole : IsWhole s.blocksize e.tree) (shows : Shows order s.blocksize before old e.tree)
    (h : IsDirectoryAt e.tree d) where
  pos : 0 < s.blocksize
  pos = let two = holds.two in omega (arith, two)

  -- a row names another inode
  pub pointed_shown : (k n : ℕ) → k < length h.slots → SetsAttr before after d (content_changed s.moment) → ((o : ℕ) → o ≢ d → IsSameContent s.blocksize (old o) (new o))
      → SetsRecord order s.blocksize k (raw_naming n (record_of order s.blocksize (old d) k)) (old d) (new d) → Shows order s.blocksize after new (point_row s d k n e).tree
  pointed_shown k n low sets others put =
      let row = pointed n (slot_at e.tree d k) in
      let was = slot_was order s.blocksize before after old new e.tree d h pos shows (content_changed s.moment) sets k low in
      subst (λ t. Shows order s.blocksize after new t) (sym (pointed_is_set s d e h k n))
      (record_shown order s.blocksize before after old new e.tree d h pos shows (content_changed s.moment) sets k (raw_naming n (record_of order s.blocksize (old d) k)) row (slice_set h.slots k row) h.up (λ a. refl)
      (sym (entry_size order s.blocksize before after old new e.tree d h pos shows (content_changed s.moment) sets) ∙ whole_size s.blocksize e.tree d h whole) others put
      (naming_says (name_in order s.blocksize (old 0)) n (record_of order s.blocksize (old d) k) (slot_at e.tree d k) (was ∙ there_in h.slots k low ∙ ap (λ xs. Some (slot_in xs k)) (sym (directory_slots e.tree d h))))
      (size_set s.blocksize k h.slots row low) (λ j. replaced h.slots row k j low))

  -- the row `..` names another directory
  pub parent_shown : (to : ℕ) → SetsAttr before after d (λ a. a) → ((o : ℕ) → o ≢ d → IsSameContent s.blocksize (old o) (new o))
      → SetsRecord order s.blocksize 1 (raw_naming to (record_of order s.blocksize (old d) 1)) (old d) (new d) → Shows order s.blocksize after new (with_parent s d to e).tree
  parent_shown to sets others put =
      subst (λ t. Shows order s.blocksize after new t) (sym (parent_is_set s d e h to))
      (subst (λ k. Shows order s.blocksize after new (with_entry e.tree d (Some (with_slots s.blocksize (slice_set h.slots k (pointed to (slot_in h.slots k))) to (leaf_of_record s.blocksize k) h.entry)))) (sym second)
      (record_shown order s.blocksize before after old new e.tree d h pos shows (λ a. a) sets 1 (raw_naming to (record_of order s.blocksize (old d) 1)) row (slice_set h.slots 1 row) to (λ a. refl)
      (sym (entry_size order s.blocksize before after old new e.tree d h pos shows (λ a. a) sets) ∙ whole_size s.blocksize e.tree d h whole) others put
      (naming_says (name_in order s.blocksize (old 0)) to (record_of order s.blocksize (old d) 1) (slot_in h.slots 1) (slot_was order s.blocksize before after old new e.tree d h pos shows (λ a. a) sets 1 low ∙ there_in h.slots 1 low))
      (size_set s.blocksize 1 h.slots row low) (λ j. replaced h.slots row 1 j low)))
    where
      own : IsWholeDirectory s.blocksize d h.entry h.slots h.up
      own = directory_whole s.blocksize e.tree d h whole.entries

      second : position_or_len (has_name (46 ∷ 46 ∷ [])) h.slots ≡ 1
      second = dots_second h.slots d h.up own.dot own.dots

      low : 1 < length h.slots
      low = slice_get_within h.slots 1 (Row h.up (46 ∷ 46 ∷ []) None) own.dots

      row : Slot
      row = pointed to (slot_in h.slots 1)
