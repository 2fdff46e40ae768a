-- A directory whose inode gets other attributes and whose records say other slots: the tree with it so is shown.
use Rattle.std.proofs.Common.{◌≡◌, ◌≢◌, ℕ, ◌*◌, ◌/◌, ◌<◌, ◌≤◌, List, [], ◌∷◌, length, sym, ◌∙◌, ap, subst, arith, get_or}
use Rattle.std.specs.Prelude.{map, Option, Some, None, slice_get}
use Rattle.std.proofs.lemmas.Option.{slice_get-get_or}
use Rattle.qx_fields.specs.declared.order.Order.{Order}
use Rattle.qx_geom.specs.Lists.{each_below}
use Rattle.qx_geom.specs.Pointer.{ceil_div}
use Rattle.qx_geom.specs.Positions.{present_after}
use Rattle.qx_nodes.specs.LongNames.{name_in}
use Rattle.qx_nodes.specs.NodeContents.{IsSameContent, NodeContent}
use Rattle.qx_records.specs.declared.inode.Inode.{Inode}
use Rattle.qx_records.specs.declared.kind.Kind.TheVariants as kinds
use Rattle.qx_records.specs.InodeRecord.{kind_of, kind_of_top}
use Rattle.qx_model.specs.declared.attr.Attr.{Attr}
use Rattle.qx_model.specs.Directories.{with_entry}
use Rattle.qx_model.specs.Edits.{with_slots}
use Rattle.qx_model.specs.Tree.{Directory, Entry, Slot, Tree, Unused, entry_of}
use Rattle.qx_model.proofs.EditOutlines.{IsDirectoryAt, live_place}
use Rattle.qx_view.specs.Entries.{HasContent, Holds, IsBody, IsEntryOf, Reader, attr_of, slot_by, slots_in}
use Rattle.qx_view.proofs.EntryContents.{holds_kind, kind_in}
use Rattle.qx_copies.specs.Copies.{Contents}
use Rattle.qx_copies.specs.Shown.{IsSameInode, Shows, reader_by}
use Rattle.qx_copies.proofs.ShownEntries.{shows_set}
use Rattle.qx_edits.specs.RecordEdits.{record_of}
use Rattle.qx_edits.specs.SetInodes.{SetsAttr}
use Rattle.qx_edits.proofs.ListedElements.{all_there, each_there, listed_by}

-- modes with the same top bits are of the same kind
pub kind_by_top : (a b : ℕ) → a / 4096 ≡ b / 4096 → kind_of a ≡ kind_of b
unfolding kind_of
kind_by_top a b same = ap kind_of_top same

-- what a directory's records say
pub directory_records : (r : Reader) (i : Inode) (c : NodeContent) (e : Entry) (slots : List Slot) (p : ℕ) → e.body ≡ Directory slots p → IsEntryOf r i c e → HasContent r c kinds.Directory e × (kind_of e.attr.mode ≡ Some kinds.Directory)
directory_records r i c e slots p body h =
    let kind : h.kind ≡ kinds.Directory = holds_kind r c h.kind e h.holds ∙ ap (λ b. kind_in b) body in
    (subst (λ k. Holds r c k e) kind h.holds, h.kind_is ∙ ap (λ k. Some k) kind)

pub slots_are : (r : Reader) (i : Inode) (c : NodeContent) (e : Entry) (slots : List Slot) (p : ℕ) → e.body ≡ Directory slots p → IsEntryOf r i c e → slots_in r c ≡ map (λ s. Some s) slots
slots_are r i c e slots p body h = let d = directory_records r i c e slots p body h in let has : HasContent r c kinds.Directory e = d.0 in subst (λ b. IsBody r c kinds.Directory b) body has.body

-- the inode with other attributes of a directory, over a content that says these slots
pub directory_written : (r : Reader) (i j : Inode) (c d : NodeContent) (e : Entry) (slots new : List Slot) (p up leaf : ℕ) (change : Attr → Attr) → e.body ≡ Directory slots p → IsEntryOf r i c e
    → ((a : Attr) → (change a).mode / 4096 ≡ a.mode / 4096) → attr_of j ≡ change (attr_of i)
    → d.size ≡ 32 * length new → d.present ≡ present_after e.present (ceil_div (32 * length new) r.blocksize) (leaf ∷ []) None
    → ((k : ℕ) → k < length new → slot_by r.names (record_of r.order r.blocksize d k) ≡ slice_get new k)
    → IsEntryOf r j d (record (with_slots r.blocksize new up leaf e) { attr = change e.attr })
directory_written r i j c d e slots new p up leaf change body h keeps attr size present each =
    let was = directory_records r i c e slots p body h in
    let records : d.size / 32 ≡ length new = ap (λ n. n / 32) size ∙ by_records (length new) in
    record {
      attr = ap change h.attr ∙ sym attr;
      kind = kinds.Directory;
      kind_is = kind_by_top (change e.attr).mode e.attr.mode (keeps e.attr) ∙ was.1;
      holds = record {
        size = sym size;
        present = sym present;
        body = ap (λ n. each_below n (λ k. slot_by r.names (record_of r.order r.blocksize d k))) records
            ∙ sym (listed_by (length new) (λ k. slot_by r.names (record_of r.order r.blocksize d k)) (map (λ s. Some s) new) (all_there new) (λ k low. at k low));
      };
    }
  where
    by_records : (n : ℕ) → 32 * n / 32 ≡ n
    by_records n = omega arith

    at : (k : ℕ) → k < length new → slice_get (map (λ s. Some s) new) k ≡ Some (slot_by r.names (record_of r.order r.blocksize d k))
    at k low =
        let there : slice_get new k ≡ Some (get_or new k Unused) = slice_get-get_or new k Unused low in
        each_there new k (get_or new k Unused) there ∙ ap (λ o. Some o) (sym (each k low ∙ there))

module _ (order : Order) (blocksize : ℕ) (before after : List (Option Inode)) (old new : Contents) (t : Tree) (d : ℕ) (h : IsDirectoryAt t d) (pos : 0 < blocksize) (shows : Shows order blocksize before old t) where
  -- its number
  from : 1 ≤ d
  from = let p = live_place t d h.entry h.live in let is = p.is in omega (arith, is)

  within : d ≤ length before
  within = let p = live_place t d h.entry h.live in let is = p.is in let low = p.within in let same = shows.places in omega (arith, is, low, same)

  module _ (change : Attr → Attr) (sets : SetsAttr before after d change) where
    -- its inode is its entry
    pub entry_was : IsEntryOf (reader_by order blocksize (old 0)) sets.old (old d) h.entry
    entry_was = subst (λ y. IsSameInode (reader_by order blocksize (old 0)) (old d) (Some sets.old) y) h.live
        (subst (λ x. IsSameInode (reader_by order blocksize (old 0)) (old d) x (entry_of t d)) sets.was (shows.each d from))

    -- what its records said
    pub slots_were : slots_in (reader_by order blocksize (old 0)) (old d) ≡ map (λ s. Some s) h.slots
    slots_were = slots_are (reader_by order blocksize (old 0)) sets.old (old d) h.entry h.slots h.up h.body entry_was

    -- the tree with other slots and attributes is shown
    pub directory_shown : (slots : List Slot) (up leaf : ℕ) → ((a : Attr) → (change a).mode / 4096 ≡ a.mode / 4096) → ((o : ℕ) → o ≢ d → IsSameContent blocksize (old o) (new o))
        → (new d).size ≡ 32 * length slots → (new d).present ≡ present_after (let e = h.entry in e.present) (ceil_div (32 * length slots) blocksize) (leaf ∷ []) None
        → ((k : ℕ) → k < length slots → slot_by (name_in order blocksize (old 0)) (record_of order blocksize (new d) k) ≡ slice_get slots k)
        → Shows order blocksize after new (with_entry t d (Some (record (with_slots blocksize slots up leaf h.entry) { attr = change (let e = h.entry in e.attr) })))
    directory_shown slots up leaf keeps others size present each =
        shows_set order blocksize before after old new t d (Some sets.new) (Some (record (with_slots blocksize slots up leaf h.entry) { attr = change (let e = h.entry in e.attr) })) pos from within shows sets.sets others
        (directory_written (reader_by order blocksize (old 0)) sets.old sets.new (old d) (new d) h.entry h.slots slots h.up up leaf change h.body entry_was keeps sets.attr size present each)
