-- A Longfile that changes: the tree is shown with other long names, where no row in use has another name.
use Rattle.std.proofs.Common.{◌≡◌, ◌≢◌, ℕ, zero, suc, ◌/◌, ◌<◌, List, [], ◌∷◌, length, refl, sym, ◌∙◌, ap, subst, arith, get_or}
use Rattle.std.specs.Prelude.{Bool, true, false, map, Option, Some, None, slice_get, unwrap_or, if◌then◌else◌}
use Rattle.std.specs.Option.{option_flatten}
use Rattle.std.proofs.lemmas.Option.{slice_get-get_or}
use Rattle.std.proofs.lemmas.List.FromFn.{get_or-map-range_with_len, length-map-range_with_len}
use Rattle.qx_fields.specs.declared.order.Order.{Order}
use Rattle.qx_geom.specs.Lists.{each_below}
use Rattle.qx_geom.specs.Pointer.{ceil_div}
use Rattle.qx_geom.proofs.Members.{each_alike}
use Rattle.qx_nodes.specs.LongNames.{name_in}
use Rattle.qx_nodes.specs.NodeContents.{IsSameContent, NodeContent}
use Rattle.qx_records.specs.declared.inode.Inode.{Inode}
use Rattle.qx_records.specs.declared.kind.Kind.{Kind}
use Rattle.qx_records.specs.declared.kind.Kind.TheVariants as kinds
use Rattle.qx_records.specs.NameRecord.{RawRecord, Short, Long, Bad}
use Rattle.qx_records.specs.NameRecord as records
use Rattle.qx_records.specs.NameSum.{sum_fits}
use Rattle.qx_model.specs.Tree.{Body, Directory, Entry, File, Link, Row, Slot, Special, Tree, Unused, entry_of, slots_of_body, slots_of_entry}
use Rattle.qx_model.specs.Whole.{HasRowFor}
use Rattle.qx_view.specs.Entries.{HasContent, Holds, IsBody, IsEntryOf, Reader, long_slot, record_in, slot_by, slots_in}
use Rattle.qx_copies.specs.Copies.{Contents, inode_at}
use Rattle.qx_copies.specs.Shown.{IsSameInode, Shows, reader_by}
use Rattle.qx_copies.proofs.ShownContents.{same_alike}

-- what a function gives below n, where it is listed as these slots
pub listed_slot : (n : ℕ) (f : ℕ → Option Slot) (slots : List Slot) → each_below n f ≡ map (λ s. Some s) slots → (k : ℕ) → k < n → f k ≡ slice_get slots k
listed_slot n f slots is k low = sym (get_or-map-range_with_len f 0 n k k None low (omega arith)) ∙ ap (λ xs. get_or xs k None) is ∙ each slots k
  where
    each : (xs : List Slot) (k : ℕ) → get_or (map (λ s. Some s) xs) k None ≡ slice_get xs k
    each [] zero = refl
    each [] (suc k) = refl
    each (x ∷ xs) zero = refl
    each (x ∷ xs) (suc k) = each xs k

pub listed_count : (n : ℕ) (f : ℕ → Option Slot) (slots : List Slot) → each_below n f ≡ map (λ s. Some s) slots → n ≡ length slots
listed_count n f slots is = sym (length-map-range_with_len f 0 n) ∙ ap length is ∙ long slots
  where
    long : (xs : List Slot) → length (map (λ s. Some s) xs) ≡ length xs
    long [] = refl
    long (x ∷ xs) = ap suc (long xs)

-- the same reader with other long names
abbrev pub renamed : Reader → (ℕ → Option (List ℕ)) → Reader
renamed r names = record r { names = names }

-- the rows of these slots have the same names
abbrev pub Agrees : Reader → (ℕ → Option (List ℕ)) → List Slot → Type 0
Agrees r names slots = (k inode number : ℕ) (name : List ℕ) → slice_get slots k ≡ Some (Row inode name (Some number)) → names number ≡ r.names number

module _ (r : Reader) (names : ℕ → Option (List ℕ)) (c : NodeContent) where
  -- a record says the same
  slot_renamed : (raw : RawRecord) (s : Slot) → slot_by r.names raw ≡ Some s → ((inode number : ℕ) (name : List ℕ) → s ≡ Row inode name (Some number) → names number ≡ r.names number) → slot_by names raw ≡ Some s
  slot_renamed records.Unused s is agrees = is
  slot_renamed (Short inode name) s is agrees = is
  slot_renamed (Bad count) s is agrees = absurd (cc)
  slot_renamed (Long inode number sum) s is agrees = found (r.names number) refl is
    where
      found : (o : Option (List ℕ)) → r.names number ≡ o → long_slot inode number sum o ≡ Some s → long_slot inode number sum (names number) ≡ Some s
      found None at h = absurd (cc)
      found (Some name) at h = fits (sum_fits sum name) refl h
        where
          fits : (b : Bool) → sum_fits sum name ≡ b → (if b then Some (Row inode name (Some number)) else None) ≡ Some s → long_slot inode number sum (names number) ≡ Some s
          fits true e h =
              let row : Row inode name (Some number) ≡ s = cc in
              ap (long_slot inode number sum) (agrees inode number name (sym row) ∙ at) ∙ ap (λ b. if b then Some (Row inode name (Some number)) else None) e ∙ h
          fits false e h = absurd (cc)

  slots_renamed : (slots : List Slot) → slots_in r c ≡ map (λ s. Some s) slots → Agrees r names slots → slots_in (renamed r names) c ≡ map (λ s. Some s) slots
  slots_renamed slots is agrees = each_alike (c.size / 32) _ _ (λ k low. at k low) ∙ is
    where
      at : (k : ℕ) → k < c.size / 32 → slot_by names (record_in r c k) ≡ slot_by r.names (record_in r c k)
      at k low =
          let there : slot_by r.names (record_in r c k) ≡ slice_get slots k = listed_slot (c.size / 32) (λ k. slot_by r.names (record_in r c k)) slots is k low in
          let within : k < length slots = (let count = listed_count (c.size / 32) (λ k. slot_by r.names (record_in r c k)) slots is in omega (arith, count, low)) in
          let some = slice_get-get_or slots k Unused within in
          slot_renamed (record_in r c k) (get_or slots k Unused) (there ∙ some) (λ inode number name row. agrees k inode number name (some ∙ ap (λ s. Some s) row)) ∙ sym (there ∙ some)

  body_renamed : (kind : Kind) (body : Body) → Agrees r names (slots_of_body body) → IsBody r c kind body → IsBody (renamed r names) c kind body
  body_renamed kinds.Directory (Directory slots parent) agrees h = slots_renamed slots h agrees
  body_renamed kinds.Directory (File content) agrees h = absurd h
  body_renamed kinds.Directory (Link target) agrees h = absurd h
  body_renamed kinds.Directory Special agrees h = absurd h
  body_renamed kinds.File (File content) agrees h = h
  body_renamed kinds.File (Directory slots parent) agrees h = absurd h
  body_renamed kinds.File (Link target) agrees h = absurd h
  body_renamed kinds.File Special agrees h = absurd h
  body_renamed kinds.Link (Link target) agrees h = h
  body_renamed kinds.Link (Directory slots parent) agrees h = absurd h
  body_renamed kinds.Link (File content) agrees h = absurd h
  body_renamed kinds.Link Special agrees h = absurd h
  body_renamed kinds.Special (Directory slots parent) agrees h = absurd h
  body_renamed kinds.Special (File content) agrees h = absurd h
  body_renamed kinds.Special (Link target) agrees h = absurd h
  body_renamed kinds.Special Special agrees h = absurd h

  content_renamed : (kind : Kind) (e : Entry) → Agrees r names (slots_of_body e.body) → HasContent r c kind e → HasContent (renamed r names) c kind e
  content_renamed kind e agrees h = record { size = h.size; present = h.present; body = body_renamed kind e.body agrees h.body }

  holds_renamed : (kind : Kind) (e : Entry) → Agrees r names (slots_of_body e.body) → Holds r c kind e → Holds (renamed r names) c kind e
  holds_renamed kinds.Directory e agrees h = content_renamed kinds.Directory e agrees h
  holds_renamed kinds.File e agrees h = content_renamed kinds.File e agrees h
  holds_renamed kinds.Link e agrees h = content_renamed kinds.Link e agrees h
  holds_renamed kinds.Special e agrees h = h

  -- an entry is the same where its rows' long names are
  entry_renamed : (i : Inode) (e : Entry) → Agrees r names (slots_of_body e.body) → IsEntryOf r i c e → IsEntryOf (renamed r names) i c e
  entry_renamed i e agrees h = record { attr = h.attr; kind = h.kind; kind_is = h.kind_is; holds = holds_renamed h.kind e agrees h.holds }

  pub same_renamed : (x : Option Inode) (y : Option Entry) → Agrees r names (slots_of_entry y) → IsSameInode r c x y → IsSameInode (renamed r names) c x y
  same_renamed None None agrees h = h
  same_renamed (Some x) (Some y) agrees h = entry_renamed x y agrees h
  same_renamed None (Some y) agrees h = absurd h
  same_renamed (Some x) None agrees h = absurd h

-- a slot that is a row with a number is such a row of the tree
row_for : (t : Tree) (d k inode number : ℕ) (name : List ℕ) → slice_get (slots_of_entry (entry_of t d)) k ≡ Some (Row inode name (Some number)) → HasRowFor t number
row_for t d k inode number name at = record { directory = d; record_number = k; name = name; is = record { inode = inode; is = ap (λ o. unwrap_or o Unused) at } }

-- the Longfile changes, and each number in use keeps its name
pub shows_names : (order : Order) (blocksize : ℕ) (inodes : List (Option Inode)) (old new : Contents) (t u : Tree) → 0 < blocksize → Shows order blocksize inodes old t
    → ((o : ℕ) → o ≢ 0 → IsSameContent blocksize (old o) (new o)) → u.inodes ≡ t.inodes → ((number : ℕ) → HasRowFor t number → name_in order blocksize (new 0) number ≡ name_in order blocksize (old 0) number)
    → u.long_size ≡ (new 0).size → u.long_present ≡ (new 0).present → u.long_names ≡ each_below (ceil_div (new 0).size blocksize) (name_in order blocksize (new 0)) → Shows order blocksize inodes new u
shows_names order blocksize inodes old new t u pos shows others same agrees long_size long_present long_names = record {
  places = ap length same ∙ shows.places;
  each = λ n some. subst (λ y. IsSameInode (reader_by order blocksize (new 0)) (new n) (inode_at inodes n) y) (sym (entry_same n))
      (same_alike (reader_by order blocksize (new 0)) (old n) (new n) pos (others n (λ z. omega (arith, z, some))) (inode_at inodes n) (entry_of t n)
      (same_renamed (reader_by order blocksize (old 0)) (name_in order blocksize (new 0)) (old n) (inode_at inodes n) (entry_of t n)
      (λ k inode number name is. agrees number (row_for t n k inode number name is)) (shows.each n some)));
  long_size = long_size;
  long_present = long_present;
  long_names = long_names;
}
  where
    entry_same : (n : ℕ) → entry_of u n ≡ entry_of t n
    entry_same zero = refl
    entry_same (suc k) = ap (λ xs. option_flatten (slice_get xs k)) same
