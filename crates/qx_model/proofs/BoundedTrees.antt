-- Each operation leaves a tree within the format's bounds, and a new tree is within them.
use Rattle.std.proofs.Common.{◌≡◌, ℕ, zero, suc, ◌-◌, ◌/◌, ◌<◌, ◌≤◌, List, [], ◌∷◌, length, refl, sym, ap, ◌∙◌, subst, arith}
use Rattle.std.specs.Prelude.{Bool, true, false, Option, Some, None, Ok, max, nat_lt, replicate, slice_get, if◌then◌else◌}
use Rattle.std.proofs.lemmas.Bool.{ltb-false}
use Rattle.qx_geom.specs.Room.{greatest_end}
use Rattle.qx_model.specs.declared.operation.Op.{Op}
use Rattle.qx_model.specs.Tree.{Body, Directory, Entry, File, Link, Row, Slot, Special, Tree, Unused, entry_of, slots_of, slots_of_body, slots_of_entry}
use Rattle.qx_model.specs.Rooted.{IsRooted}
use Rattle.qx_model.specs.Bounds.{FitsRecord, HasKind, IsBounded}
use Rattle.qx_model.specs.Answering.{FileAt}
use Rattle.qx_model.specs.Contents.{with_content}
use Rattle.qx_model.specs.Edits.{Edit, Setting, StandsLive, absent_number, number_for, pointed}
use Rattle.qx_model.specs.Effects.{Edits}
use Rattle.qx_model.specs.EmptyTree.{empty_tree, new_directory}
use Rattle.qx_model.specs.Operate.{operate}
use Rattle.qx_model.specs.Whole.{AreWhole, IsWholeEntry, body_size}
use Rattle.qx_model.proofs.DoneEdits.{IsFileAt, IsNewEntry, edit_done, new_dir, new_file, new_target}
use Rattle.qx_model.proofs.KeptEntries.{IsKept, done_kept, is_directory_body, kept_start}
use Rattle.qx_model.proofs.Outlines.{row_read, row_stands, slot_in}
use Rattle.qx_model.proofs.Places.{path_long}
use Rattle.qx_model.proofs.RootedNames.{first_slot}
use Rattle.qx_model.proofs.WholeEmpty.{none_among}

-- a slot is unused, or its name fits
abbrev FitsSlot : Slot → Type 0
FitsSlot Unused = Unit {0}
FitsSlot (Row inode name long) = FitsRecord name long

-- an inode is within the bounds, and so is each of its rows
record IsBoundedEntry (x : Entry) : Type 0 where
  kind : HasKind x.attr.mode x.body
  rows : (k : ℕ) → FitsSlot (slot_in (slots_of_body x.body) k)

nothing : (k : ℕ) → FitsSlot (slot_in [] k)
nothing zero = tt
nothing (suc k) = tt

-- so a tree is, where its inodes are
bounded_by : (u : Tree) → ((n : ℕ) (x : Entry) → entry_of u n ≡ Some x → IsBoundedEntry x) → IsBounded u
bounded_by u all = record {
  bodies = λ n x live. (all n x live).kind;
  names = λ d k inode name long row. subst FitsSlot (row_read (slots_of u d) k (Row inode name long) row) (of_entry d k (entry_of u d) refl);
}
  where
    of_entry : (d k : ℕ) (o : Option Entry) → entry_of u d ≡ o → FitsSlot (slot_in (slots_of u d) k)
    of_entry d k None live = subst (λ o. FitsSlot (slot_in (slots_of_entry o) k)) (sym live) (nothing k)
    of_entry d k (Some x) live = subst (λ o. FitsSlot (slot_in (slots_of_entry o) k)) (sym live) ((all d x live).rows k)

-- and back
bounded_entry : (u : Tree) → IsBounded u → (n : ℕ) (x : Entry) → entry_of u n ≡ Some x → IsBoundedEntry x
bounded_entry u h n x live = record { kind = h.bodies n x live; rows = λ k. of_slot k (slot_in (slots_of_body x.body) k) refl }
  where
    own : slots_of u n ≡ slots_of_body x.body
    own = ap (λ o. slots_of_entry o) live

    of_slot : (k : ℕ) (y : Slot) → slot_in (slots_of_body x.body) k ≡ y → FitsSlot y
    of_slot k Unused is = tt
    of_slot k (Row inode name long) is = h.names n k inode name long (ap (λ xs. slice_get xs k) own ∙ row_stands (slots_of_body x.body) k inode name long is)

-- ---- what operations make and set

same_kind : (a m : ℕ) (b : Body) → a / 4096 ≡ m / 4096 → HasKind m b → HasKind a b
same_kind a m (Directory slots parent) same h = same ∙ h
same_kind a m (File content) same h = (same ∙ h.0, h.1)
same_kind a m (Link target) same h = (same ∙ h.0, h.1, h.2)
same_kind a m Special same h = h

directory_kind : (m : ℕ) (b : Body) → is_directory_body b ≡ true → HasKind m b → m / 4096 ≡ 4
directory_kind m (Directory slots parent) is h = h
directory_kind m (File content) is h = absurd (cc)
directory_kind m (Link target) is h = absurd (cc)
directory_kind m Special is h = absurd (cc)

least : (m : ℕ) → 0 ≤ m
least m = omega arith

-- a name gets a number exactly where it is long
named_fits : (u : Tree) (n : ℕ) (name : List ℕ) → 0 < length name → length name ≤ 510 → FitsSlot (Row n name (number_for u name))
named_fits u n name some most = go (nat_lt 27 (length name)) refl
  where
    go : (b : Bool) → nat_lt 27 (length name) ≡ b → FitsRecord name (if b then Some (absent_number u) else None)
    go true is = (some, most)
    go false is = (some, ltb-false 27 (length name) is)

pointed_fits : (n : ℕ) (x : Slot) → FitsSlot x → FitsSlot (pointed n x)
pointed_fits n Unused h = h
pointed_fits n (Row inode name long) h = h

first_fits : (blocksize n d k : ℕ) → FitsSlot (slot_in (Row n (46 ∷ []) None ∷ Row d (46 ∷ 46 ∷ []) None ∷ replicate (blocksize / 32 - 2) Unused) k)
first_fits blocksize n d k = first_slot (blocksize / 32 - 2) n d k FitsSlot (omega arith, omega arith) (omega arith, omega arith) tt

new_bounded : (s : Setting) (n d : ℕ) (x : Entry) (leaves : List ℕ) → IsNewEntry s n d x leaves → IsBoundedEntry x
new_bounded s n d x leaves new_file = record { kind = (refl, least greatest_end); rows = nothing }
new_bounded s n d x leaves new_dir = record { kind = refl; rows = first_fits s.blocksize n d }
new_bounded s n d x leaves (new_target target q read) = let long = path_long target q read in record { kind = (refl, long.0, long.1); rows = nothing }

module _ (s : Setting) (t : Tree) (whole : AreWhole s.blocksize t) where
  below : (m size a b c : ℕ) → c ≡ size → size ≤ max a m → a ≡ b → b ≤ m → c ≤ m
  below m size a b c long most same low = omega (arith, long, most, same, low)

  content_bounded : (f : FileAt) (size : ℕ) (content leaves : List ℕ) (x : Entry) → IsFileAt t f → length content ≡ size → size ≤ max f.entry.size greatest_end → x.body ≡ File f.content → IsBoundedEntry f.entry → IsBoundedEntry x
      → IsBoundedEntry (with_content s.blocksize size content leaves x)
  content_bounded f size content leaves x is long most body own h =
      let was : HasKind f.entry.attr.mode (File f.content) = subst (HasKind f.entry.attr.mode) is.body own.kind in
      let now : HasKind x.attr.mode (File f.content) = subst (HasKind x.attr.mode) body h.kind in
      let w : IsWholeEntry s.blocksize f.inode f.entry = whole f.inode f.entry is.live in
      record { kind = (now.0, below greatest_end size f.entry.size (length f.content) (length content) long most (w.size ∙ ap body_size is.body) was.1); rows = nothing }

  bounds_kept : IsKept s t FitsSlot (λ n x. IsBoundedEntry x)
  bounds_kept = record {
    attrs = λ n x a same h. record { kind = same_kind a.mode x.attr.mode x.body same h.kind; rows = h.rows };
    slots = λ n x xs parent leaf dir fits h. record { kind = directory_kind x.attr.mode x.body dir h.kind; rows = fits };
    rows = λ n x h. h.rows;
    content = content_bounded;
    new = λ n d x leaves new is. new_bounded s n d x leaves is;
    unused = tt;
    pointed = pointed_fits;
    named = named_fits;
  }

-- each operation keeps the tree within the bounds
pub operation_keeps_bounded : (s : Setting) (t : Tree) (o : Op) (is_removing : Bool) (e : Edit) → IsRooted t → AreWhole s.blocksize t → IsBounded t → StandsLive s t → operate s t o ≡ Ok (Edits is_removing e) → IsBounded e.tree
operation_keeps_bounded s t o is_removing e r whole h live is =
    let kept = bounds_kept s t whole in
    let after = done_kept s t FitsSlot (λ n x. IsBoundedEntry x) kept (kept_start s t FitsSlot (λ n x. IsBoundedEntry x) kept (bounded_entry t h)) e (edit_done s t o is_removing e r live is) in
    bounded_by e.tree (λ n x there. (after.entries n x there).good)

-- the tree of a new volume is within them
pub empty_bounded : (blocksize num_inodes moment : ℕ) → IsBounded (empty_tree blocksize num_inodes moment)
unfolding empty_tree
empty_bounded blocksize num_inodes moment = bounded_by (empty_tree blocksize num_inodes moment) entries
  where
    entries : (n : ℕ) (x : Entry) → entry_of (empty_tree blocksize num_inodes moment) n ≡ Some x → IsBoundedEntry x
    entries zero x live = absurd (cc)
    entries (suc zero) x live = let is : new_directory blocksize 1 1 moment ≡ x = cc in subst IsBoundedEntry is (record { kind = refl; rows = first_fits blocksize 1 1 })
    entries (suc (suc n)) x live = let clash : None ≡ Some x = sym (none_among (num_inodes - 1) n) ∙ live in absurd (cc)
