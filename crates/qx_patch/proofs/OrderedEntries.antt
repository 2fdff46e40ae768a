-- Ordered entries, and the map that they stand for.
use Rattle.std.proofs.Common.{◌≡◌, ◌≢◌, ℕ, ◌<◌, true, List, [], ◌∷◌, length, map, get_or, set, take, drop, ◌++◌, Some, None, sym, ◌∙◌, ap, subst, arith, All, inl, inr}
use Rattle.std.specs.Ordering.{nat_cmp}
use Rattle.std.specs.FinMap as fin
use Rattle.std.specs.FinMap.{get, get-from_entries}
use Rattle.std.specs.Prelude.{is_some, unwrap_or}
use Rattle.std.specs.Vec.{with_items}
use Rattle.std.specs.VecDeque.{deque_with_item}
use Rattle.std.proofs.lemmas.Cmp.{nat_cmp_total}
use Rattle.std.proofs.lemmas.Bool.{cases_lt}
use Rattle.std.proofs.lemmas.List.{get_or-map, get_or_default, length-map, length-take, length-append, length-drop, map-set, set-get_or}
use Rattle.std.proofs.lemmas.List.Elements.{All-set}
use Rattle.qx_patch.specs.declared.patch.Entry.{Entry}
use Rattle.qx_patch.specs.declared.patch.Patch.TheInside.{Inside}
use Rattle.qx_bytes.specs.SameLengths.{refit}
use Rattle.qx_patch.specs.PatchState.{PatchState, edited_in}
use Rattle.qx_patch.specs.PatchView.{IsAscending, IsInOrder, numbers_of, pairs_of, patch_in}
use Rattle.qx_patch.proofs.EntryMaps.{find-at, find-absent, map-set as map-changed}

-- the fields as they are seen, and a place among them that has this number
pub record StandsAt (a : Inside) (seen : PatchState) (b at : ℕ) : Type 0 where
  pub ordered : IsInOrder a
  pub view : patch_in a ≡ seen
  pub low : at < length a.entries.items
  pub is : get_or (numbers_of a.entries.items) at 0 ≡ b

-- a place that was looked up in the entries, as they were lent
pub stands-from : (a : Inside) (seen : PatchState) (b at : ℕ) (lent : List Entry) → IsInOrder a → patch_in a ≡ seen → lent ≡ a.entries.items → (at < length lent) × (get_or (numbers_of lent) at 0 ≡ b) → StandsAt a seen b at
stands-from a seen b at lent ordered view same found = record {
  ordered = ordered;
  view = view;
  low = subst (λ entries. at < length entries) same found.0;
  is = ap (λ entries. get_or (numbers_of entries) at 0) (sym same) ∙ found.1;
}

-- as many pairs as entries
pub length-pairs : (entries : List Entry) → length (pairs_of entries) ≡ length entries
length-pairs entries = length-map entries (λ entry. (entry.block, entry.bytes.items))

-- as many numbers as entries
pub length-numbers : (entries : List Entry) → length (numbers_of entries) ≡ length entries
length-numbers entries = length-map (pairs_of entries) (λ pair. pair.0) ∙ length-pairs entries

-- no other place has its number
pub others-differ : (a : Inside) (seen : PatchState) (b at j : ℕ) → StandsAt a seen b at → j < length a.entries.items → j ≢ at → get_or (numbers_of a.entries.items) j 0 ≢ b
others-differ a seen b at j s low differ same = elim (cases_lt j at) [
  | inl less ↦ absurd (omega (arith, s.ordered.ascending.rises j at less (rw length-numbers s.low), s.is))
  | inr more ↦ absurd (omega (arith, s.ordered.ascending.rises at j (omega arith) (rw length-numbers low), s.is))
]

-- the number at a place
pub number-at : (entries : List Entry) (at : ℕ) (entry : Entry) → at < length entries → get_or (numbers_of entries) at 0 ≡ (get_or entries at entry).block
number-at entries at entry low =
    get_or-map (λ (pair : ℕ × List ℕ). pair.0) (pairs_of entries) at (entry.block, entry.bytes.items) 0 (rw length-pairs low)
    ∙ ap (λ (pair : ℕ × List ℕ). pair.0) (get_or-map (λ e. (e.block, e.bytes.items)) entries at entry (entry.block, entry.bytes.items) low)

-- the bytes at a place
pub bytes-at : (entries : List Entry) (at : ℕ) (entry : Entry) → at < length entries → entry ≡ get_or entries at entry → get_or (map (λ pair. pair.1) (pairs_of entries)) at [] ≡ entry.bytes.items
bytes-at entries at entry low is =
    get_or-map (λ pair. pair.1) (pairs_of entries) at (entry.block, entry.bytes.items) [] (rw length-pairs low)
    ∙ ap (λ (pair : ℕ × List ℕ). pair.1) (get_or-map (λ e. (e.block, e.bytes.items)) entries at entry (entry.block, entry.bytes.items) low)
    ∙ ap (λ e. e.bytes.items) (sym is)

-- a block that is there has the bytes at its place
pub get-there : (a : Inside) (seen : PatchState) (b at : ℕ) (entry : Entry) → StandsAt a seen b at → entry ≡ get_or a.entries.items at entry → get seen.blocks b ≡ Some entry.bytes.items
get-there a seen b at entry s is =
    ap (λ p. get p.blocks b) (sym s.view) ∙ get-from_entries nat_cmp_total (pairs_of a.entries.items) b
    ∙ find-at (pairs_of a.entries.items) at b (rw length-pairs s.low) s.is (λ j less. others-differ a seen b at j s (omega (arith, s.low)) (omega arith))
    ∙ ap (λ bytes. Some bytes) (bytes-at a.entries.items at entry s.low is)

-- the entry at a place
pub some-entry : (entries : List Entry) (at : ℕ) → at < length entries → Entry
some-entry [] at low = absurd (omega arith)
some-entry (entry ∷ entries) at low = get_or (entry ∷ entries) at entry

-- it lies there
pub entry-lies : (entries : List Entry) (at : ℕ) (low : at < length entries) → some-entry entries at low ≡ get_or entries at (some-entry entries at low)
unfolding some-entry
entry-lies [] at low = absurd (omega arith)
entry-lies (entry ∷ entries) at low = get_or_default (entry ∷ entries) at entry (get_or (entry ∷ entries) at entry) low

-- a block that has no place isn't there
pub get-absent : (a : Inside) (seen : PatchState) (b : ℕ) → patch_in a ≡ seen → ((k : ℕ) → k < length a.entries.items → get_or (numbers_of a.entries.items) k 0 ≢ b) → get seen.blocks b ≡ None
get-absent a seen b view absent =
    ap (λ p. get p.blocks b) (sym view) ∙ get-from_entries nat_cmp_total (pairs_of a.entries.items) b
    ∙ find-absent (pairs_of a.entries.items) b (λ k low. absent k (subst (λ n. k < n) (length-pairs a.entries.items) low))

-- an entry written over another of its number, with as many bytes
abbrev pub written : Inside → ℕ → Entry → Inside
written a at entry = record a { entries = deque_with_item a.entries at entry }

-- the pairs, once an entry is written
pub pairs-set : (entries : List Entry) (at : ℕ) (entry : Entry) → pairs_of (set entries at entry) ≡ set (pairs_of entries) at (entry.block, entry.bytes.items)
pairs-set entries at entry = map-set (λ e. (e.block, e.bytes.items)) entries at entry

-- the numbers stay
pub numbers-set : (entries : List Entry) (at b : ℕ) (entry : Entry) → get_or (numbers_of entries) at 0 ≡ b → entry.block ≡ b → numbers_of (set entries at entry) ≡ numbers_of entries
numbers-set entries at b entry is named =
    ap (map (λ pair. pair.0)) (pairs-set entries at entry) ∙ map-set (λ pair. pair.0) (pairs_of entries) at (entry.block, entry.bytes.items)
    ∙ ap (set (numbers_of entries) at) (named ∙ sym is) ∙ set-get_or (numbers_of entries) at 0

-- the fields stay in order
pub ordered-written : (a : Inside) (seen : PatchState) (b at : ℕ) (entry : Entry) → StandsAt a seen b at → entry.block ≡ b → length entry.bytes.items ≡ a.size → IsInOrder (written a at entry)
ordered-written a seen b at entry s named long = record {
  ascending = subst IsAscending (sym (numbers-set a.entries.items at b entry s.is named)) s.ordered.ascending;
  entries_long = subst (All (λ pair. length pair.1 ≡ a.size)) (sym (pairs-set a.entries.items at entry)) (All-set (λ (pair : ℕ × List ℕ). length pair.1 ≡ a.size) (pairs_of a.entries.items) at (entry.block, entry.bytes.items) long s.ordered.entries_long);
  spares_long = s.ordered.spares_long;
  entries_room = s.ordered.entries_room;
  spares_room = s.ordered.spares_room;
}

-- and the block has its bytes
pub view-written : (a : Inside) (seen : PatchState) (b at : ℕ) (entry : Entry) → StandsAt a seen b at → entry.block ≡ b → patch_in (written a at entry) ≡ record seen { blocks = fin.insert seen.blocks b entry.bytes.items }
view-written a seen b at entry s named =
    (λ i. record (patch_in a) { blocks = changed i })
    ∙ (λ i. record (s.view i) { blocks = fin.insert (s.view i).blocks b entry.bytes.items }) where
      changed : fin.from_entries {R = nat_cmp} (pairs_of (set a.entries.items at entry)) ≡ fin.insert (patch_in a).blocks b entry.bytes.items
      changed = ap (fin.from_entries {R = nat_cmp}) (pairs-set a.entries.items at entry ∙ ap (λ k. set (pairs_of a.entries.items) at (k, entry.bytes.items)) named)
          ∙ map-changed (pairs_of a.entries.items) at b entry.bytes.items (rw length-pairs s.low) s.is (λ j less. others-differ a seen b at j s (omega (arith, s.low)) (omega arith))

-- the entry at a place has its number
pub number-there : (a : Inside) (seen : PatchState) (b at : ℕ) (entry : Entry) → StandsAt a seen b at → entry ≡ get_or a.entries.items at entry → entry.block ≡ b
number-there a seen b at entry s is = ap (λ e. e.block) is ∙ sym (number-at a.entries.items at entry s.low) ∙ s.is

-- its bytes are as many as a block's
pub long-there : (a : Inside) (seen : PatchState) (b at : ℕ) (entry : Entry) → StandsAt a seen b at → entry ≡ get_or a.entries.items at entry → length entry.bytes.items ≡ a.size
long-there a seen b at entry s is =
    ap (λ e. length e.bytes.items) is
    ∙ ap (λ (pair : ℕ × List ℕ). length pair.1) (sym (get_or-map (λ e. (e.block, e.bytes.items)) a.entries.items at entry (entry.block, entry.bytes.items) s.low))
    ∙ s.ordered.entries_long at (entry.block, entry.bytes.items) (rw length-pairs s.low)

-- as many bytes are left as there were
pub length-refit : (old new : List ℕ) → length (refit old new) ≡ length old
length-refit old new = omega (arith, length-take (length old) (new ++ drop (length new) old), length-append new (drop (length new) old), length-drop (length new) old)

-- the entry, once its bytes were lent and `new` is left in them
abbrev pub edited : Entry → List ℕ → Entry
edited entry new = record entry { bytes = with_items entry.bytes new }

-- its bytes are the new, cut or filled up
pub items-edited : (entry : Entry) (new : List ℕ) → (edited entry new).bytes.items ≡ refit entry.bytes.items new
items-edited entry new = λ i. take (entry.bytes.ok.0 i) (new ++ drop (length new) entry.bytes.items)

-- whatever is written into lent bytes, the fields stay in order
pub edit_keeps : (a : Inside) (seen : PatchState) (b at : ℕ) (entry : Entry) → StandsAt a seen b at → entry ≡ get_or a.entries.items at entry → (new : List ℕ) → IsInOrder (written a at (edited entry new))
edit_keeps a seen b at entry s is new =
    ordered-written a seen b at (edited entry new) s (number-there a seen b at entry s is)
    (ap length (items-edited entry new) ∙ length-refit entry.bytes.items new ∙ long-there a seen b at entry s is)

-- and the block has what was written
pub edit_view : (a : Inside) (seen : PatchState) (b at : ℕ) (entry : Entry) → StandsAt a seen b at → entry ≡ get_or a.entries.items at entry → (new : List ℕ) → patch_in (written a at (edited entry new)) ≡ edited_in seen b new
edit_view a seen b at entry s is new =
    view-written a seen b at (edited entry new) s (number-there a seen b at entry s is)
    ∙ ap (λ bytes. record seen { blocks = fin.insert seen.blocks b bytes })
    (items-edited entry new ∙ ap (λ o. refit (unwrap_or o []) new) (sym (get-there a seen b at entry s is)))

-- a block that wasn't found in the entries, as they were lent
pub absent-from : (a : Inside) (seen : PatchState) (b : ℕ) (lent : List Entry) → patch_in a ≡ seen → lent ≡ a.entries.items → ((k : ℕ) → k < length lent → get_or (numbers_of lent) k 0 ≢ b) → get seen.blocks b ≡ None
absent-from a seen b lent view same absent =
    get-absent a seen b view (subst (λ entries. (k : ℕ) → k < length entries → get_or (numbers_of entries) k 0 ≢ b) same absent)

-- a block at a place is there
pub contains-there : (a : Inside) (seen : PatchState) (b at : ℕ) → StandsAt a seen b at → is_some (get seen.blocks b) ≡ true
contains-there a seen b at s = ap is_some (get-there a seen b at (some-entry a.entries.items at s.low) s (entry-lies a.entries.items at s.low))
