-- Changed blocks, once one comes or goes.
use Rattle.std.proofs.Common.{◌≡◌, ◌≢◌, ℕ, suc, ◌+◌, ◌-◌, ◌<◌, ◌≤◌, ◌⊎◌, true, false, List, [], ◌∷◌, ◌++◌, length, get_or, insert, remove, None, cond, refl, sym, ◌∙◌, ap, subst, arith, All, inl, inr, vec_len, vec_capacity}
use Rattle.std.specs.Prelude.{is_some, if◌then◌else◌}
use Rattle.std.specs.VecDeque.{deque_capacity}
use Rattle.std.specs.Ordering.{nat_cmp, eq_by_cmp}
use Rattle.std.specs.FinMap as fin
use Rattle.std.specs.FinMap.{get, from_entries, get-from_entries, get-remove, len-empty, len-insert, same_map, nat_cmp-IsAntisymmetric}
use Rattle.std.proofs.lemmas.Cmp.{nat_cmp_total}
use Rattle.std.proofs.lemmas.Bool.{cases_eq, cases_lt}
use Rattle.std.proofs.lemmas.List.{length-append, length-map}
use Rattle.std.proofs.lemmas.List.Edits.{length-insert, length-remove}
use Rattle.std.proofs.lemmas.List.Elements.{All-push}
use Rattle.qx_patch.specs.declared.patch.Entry.{Entry}
use Rattle.qx_patch.specs.declared.patch.Patch.TheInside.{Inside}
use Rattle.qx_patch.specs.PatchState.{IsLeast, PatchState, with_block, without_block}
use Rattle.qx_patch.specs.PatchView.{IsAscending, IsInOrder, numbers_of, pairs_of, patch_in}
use Rattle.qx_patch.proofs.EntryMaps.{find-absent, keys_of, map-insert, map-remove, apart, tied}
use Rattle.qx_patch.proofs.EntriesComeAndGo.{All-insert, All-remove, ascending-insert, ascending-remove, keys-insert, keys-remove}
use Rattle.qx_patch.proofs.OrderedEntries.{StandsAt, absent-from, contains-there, get-absent, number-at, length-numbers, length-pairs, long-there, others-differ, some-entry, entry-lies, view-written, written}

-- the fields as they are seen, and the place among them of a block that isn't there
pub record ComesAt (a : Inside) (seen : PatchState) (b at : ℕ) : Type 0 where
  pub ordered : IsInOrder a
  pub view : patch_in a ≡ seen
  pub none : get seen.blocks b ≡ None
  pub within : at ≤ length a.entries.items
  pub below : (k : ℕ) → k < at → get_or (numbers_of a.entries.items) k 0 < b
  pub above : (k : ℕ) → at ≤ k → k < length a.entries.items → b < get_or (numbers_of a.entries.items) k 0

-- a block that wasn't found, and the first place not below it, in the entries as they were lent
pub comes-from : (a : Inside) (seen : PatchState) (b at : ℕ) (lent again : List Entry) → IsInOrder a → patch_in a ≡ seen → lent ≡ a.entries.items → again ≡ a.entries.items
    → ((k : ℕ) → k < length lent → get_or (numbers_of lent) k 0 ≢ b) → at ≤ length again
    → ((k : ℕ) → k < at → get_or (numbers_of again) k 0 < b) → ((k : ℕ) → at ≤ k → k < length again → b ≤ get_or (numbers_of again) k 0) → ComesAt a seen b at
comes-from a seen b at lent again ordered view same also absent within below above = record {
  ordered = ordered;
  view = view;
  none = absent-from a seen b lent view same absent;
  within = subst (λ entries. at ≤ length entries) also within;
  below = subst (λ entries. (k : ℕ) → k < at → get_or (numbers_of entries) k 0 < b) also below;
  above = λ k high low.
      let least : b ≤ get_or (numbers_of a.entries.items) k 0 = subst (λ entries. (k : ℕ) → at ≤ k → k < length entries → b ≤ get_or (numbers_of entries) k 0) also above k high low in
      let differ : get_or (numbers_of a.entries.items) k 0 ≢ b = subst (λ entries. (k : ℕ) → k < length entries → get_or (numbers_of entries) k 0 ≢ b) same absent k low in
      omega arith;
}

-- there is a buffer for a block that isn't there
pub has-room : (a : Inside) (seen : PatchState) (b at : ℕ) → ComesAt a seen b at → (is_some (get seen.blocks b) ≡ true) ⊎ (0 < seen.spare) → 0 < vec_len a.spares
has-room a seen b at s (inl there) = let both : false ≡ true = sym (ap is_some s.none) ∙ there in absurd (cc)
has-room a seen b at s (inr some) = let before : length a.spares.items ≡ seen.spare = ap (λ p. p.spare) s.view in omega (arith, before, a.spares.ok.0, some)

-- a block that is there gets other bytes
pub view-changed : (a : Inside) (seen : PatchState) (b at : ℕ) (entry : Entry) (bytes : List ℕ) → StandsAt a seen b at → entry.block ≡ b → entry.bytes.items ≡ bytes → patch_in (written a at entry) ≡ with_block seen b bytes
view-changed a seen b at entry bytes s named is =
    let there : is_some (get seen.blocks b) ≡ true = contains-there a seen b at s in
    let spare : seen.spare ≡ (if is_some (get seen.blocks b) then seen.spare else seen.spare - 1) = rw there refl in
    view-written a seen b at entry s named ∙ (λ i. record seen { spare = spare i; blocks = fin.insert seen.blocks b (is i) })

-- the fields, with other entries and other buffers
pub record Inserted (a : Inside) (at b : ℕ) (bytes : List ℕ) (new : Inside) : Type 0 where
  pub size : new.size ≡ a.size
  pub long : length bytes ≡ a.size
  pub pairs : pairs_of new.entries.items ≡ insert (pairs_of a.entries.items) at (b, bytes)
  pub count : vec_len new.spares + 1 ≡ vec_len a.spares
  pub others : All (λ spare. length spare.items ≡ length bytes) new.spares.items
  pub entries_room : deque_capacity a.entries ≤ deque_capacity new.entries
  pub spares_room : vec_capacity new.spares ≡ vec_capacity a.spares

-- the fields stay in order, once a block comes
pub ordered-inserted : (a new : Inside) (seen : PatchState) (b at : ℕ) (bytes : List ℕ) → ComesAt a seen b at → Inserted a at b bytes new → IsInOrder new
ordered-inserted a new seen b at bytes s n =
    let within : at ≤ length (pairs_of a.entries.items) = rw length-pairs s.within in
    let numbers : numbers_of new.entries.items ≡ insert (numbers_of a.entries.items) at b = ap keys_of n.pairs ∙ keys-insert (pairs_of a.entries.items) at b bytes in
    let more : length new.entries.items ≡ length a.entries.items + 1 =
    sym (length-pairs new.entries.items) ∙ ap length n.pairs ∙ length-insert (pairs_of a.entries.items) at (b, bytes) within ∙ ap (λ k. k + 1) (length-pairs a.entries.items) in
    record {
      ascending = subst IsAscending (sym numbers) (ascending-insert (numbers_of a.entries.items) at b (rw length-numbers s.within) s.ordered.ascending s.below (λ k high low. s.above k high (subst (λ m. k < m) (length-numbers a.entries.items) low)));
      entries_long = subst (All (λ pair. length pair.1 ≡ new.size)) (sym n.pairs)
          (subst (λ size. All (λ (pair : ℕ × List ℕ). length pair.1 ≡ size) (insert (pairs_of a.entries.items) at (b, bytes))) (sym n.size)
          (All-insert (λ (pair : ℕ × List ℕ). length pair.1 ≡ a.size) (pairs_of a.entries.items) at (b, bytes) within n.long s.ordered.entries_long));
      spares_long = subst (λ size. All (λ spare. length spare.items ≡ size) new.spares.items) (n.long ∙ sym n.size) n.others;
      entries_room = omega (arith, n.count, n.entries_room, more, s.ordered.entries_room, new.entries.ok.0, a.entries.ok.0);
      spares_room = omega (arith, n.count, n.spares_room, more, s.ordered.spares_room, new.entries.ok.0, a.entries.ok.0);
    }

-- and the block has its bytes
pub view-inserted : (a new : Inside) (seen : PatchState) (b at : ℕ) (bytes : List ℕ) → ComesAt a seen b at → Inserted a at b bytes new → patch_in new ≡ with_block seen b bytes
view-inserted a new seen b at bytes s n =
    let within : at ≤ length (pairs_of a.entries.items) = rw length-pairs s.within in
    let blocks : from_entries {R = nat_cmp} (pairs_of new.entries.items) ≡ fin.insert seen.blocks b bytes
    = ap (from_entries {R = nat_cmp}) n.pairs
    ∙ map-insert (pairs_of a.entries.items) at b bytes within (λ j less e. absurd (omega (arith, s.below j less, e)))
    ∙ ap (λ p. fin.insert p.blocks b bytes) s.view in
    let absent : is_some (get seen.blocks b) ≡ false = ap is_some s.none in
    let before : length a.spares.items ≡ seen.spare = ap (λ p. p.spare) s.view in
    let spare : length new.spares.items ≡ (if is_some (get seen.blocks b) then seen.spare else seen.spare - 1)
    = rw absent (omega (arith, n.count, before, new.spares.ok.0, a.spares.ok.0)) in
    λ i. record { size = (n.size ∙ ap (λ p. p.size) s.view) i; spare = spare i; blocks = blocks i }

-- the fields, once the entry at a place went and its buffer was kept
pub record Removed (a : Inside) (at : ℕ) (new : Inside) : Type 0 where
  pub size : new.size ≡ a.size
  pub pairs : pairs_of new.entries.items ≡ remove (pairs_of a.entries.items) at
  pub kept : (entry : Entry) → entry ≡ get_or a.entries.items at entry → new.spares.items ≡ a.spares.items ++ entry.bytes ∷ []
  pub entries_room : deque_capacity new.entries ≡ deque_capacity a.entries
  pub spares_room : vec_capacity a.spares ≤ vec_capacity new.spares

-- one buffer more is spare
one-more : (a new : Inside) (seen : PatchState) (b at : ℕ) → StandsAt a seen b at → Removed a at new → length new.spares.items ≡ length a.spares.items + 1
one-more a new seen b at s n =
    let entry : Entry = some-entry a.entries.items at s.low in
    ap length (n.kept entry (entry-lies a.entries.items at s.low)) ∙ length-append a.spares.items (entry.bytes ∷ [])

-- the fields stay in order, once a block goes
pub ordered-removed : (a new : Inside) (seen : PatchState) (b at : ℕ) → StandsAt a seen b at → Removed a at new → IsInOrder new
ordered-removed a new seen b at s n =
    let within : at < length (pairs_of a.entries.items) = rw length-pairs s.low in
    let entry : Entry = some-entry a.entries.items at s.low in
    let numbers : numbers_of new.entries.items ≡ remove (numbers_of a.entries.items) at = ap keys_of n.pairs ∙ keys-remove (pairs_of a.entries.items) at in
    let less : length new.entries.items + 1 ≡ length a.entries.items =
    ap (λ k. k + 1) (sym (length-pairs new.entries.items) ∙ ap length n.pairs) ∙ length-remove (pairs_of a.entries.items) at within ∙ length-pairs a.entries.items in
    let more : length new.spares.items ≡ length a.spares.items + 1 = one-more a new seen b at s n in
    record {
      ascending = subst IsAscending (sym numbers) (ascending-remove (numbers_of a.entries.items) at (rw length-numbers s.low) s.ordered.ascending);
      entries_long = subst (All (λ pair. length pair.1 ≡ new.size)) (sym n.pairs)
          (subst (λ size. All (λ (pair : ℕ × List ℕ). length pair.1 ≡ size) (remove (pairs_of a.entries.items) at)) (sym n.size)
          (All-remove (λ (pair : ℕ × List ℕ). length pair.1 ≡ a.size) (pairs_of a.entries.items) at within s.ordered.entries_long));
      spares_long = subst (λ size. All (λ spare. length spare.items ≡ size) new.spares.items) (sym n.size)
          (subst (All (λ spare. length spare.items ≡ a.size)) (sym (n.kept entry (entry-lies a.entries.items at s.low)))
          (All-push (λ spare. length spare.items ≡ a.size) a.spares.items entry.bytes s.ordered.spares_long (long-there a seen b at entry s (entry-lies a.entries.items at s.low))));
      entries_room = omega (arith, n.entries_room, more, less, s.ordered.entries_room, new.entries.ok.0, a.entries.ok.0, new.spares.ok.0, a.spares.ok.0);
      spares_room = omega (arith, n.spares_room, more, less, s.ordered.spares_room, new.entries.ok.0, a.entries.ok.0, new.spares.ok.0, a.spares.ok.0);
    }

-- and the block isn't there
pub view-removed : (a new : Inside) (seen : PatchState) (b at : ℕ) → StandsAt a seen b at → Removed a at new → patch_in new ≡ without_block seen b
view-removed a new seen b at s n =
    let within : at < length (pairs_of a.entries.items) = rw length-pairs s.low in
    let blocks : from_entries {R = nat_cmp} (pairs_of new.entries.items) ≡ fin.remove seen.blocks b
    = ap (from_entries {R = nat_cmp}) n.pairs
    ∙ map-remove (pairs_of a.entries.items) at b within s.is (λ j low differ. others-differ a seen b at j s (subst (λ m. j < m) (length-pairs a.entries.items) low) differ)
    ∙ ap (λ p. fin.remove p.blocks b) s.view in
    let there : is_some (get seen.blocks b) ≡ true = contains-there a seen b at s in
    let before : length a.spares.items ≡ seen.spare = ap (λ p. p.spare) s.view in
    let spare : length new.spares.items ≡ (if is_some (get seen.blocks b) then seen.spare + 1 else seen.spare)
    = rw there (one-more a new seen b at s n ∙ ap (λ k. k + 1) before) in
    λ i. record { size = (n.size ∙ ap (λ p. p.size) s.view) i; spare = spare i; blocks = blocks i }

-- to take a block out that isn't there changes nothing
pub without-absent : (seen : PatchState) (b : ℕ) → get seen.blocks b ≡ None → seen ≡ without_block seen b
without-absent seen b none =
    let absent : is_some (get seen.blocks b) ≡ false = ap is_some none in
    let spare : seen.spare ≡ (if is_some (get seen.blocks b) then seen.spare + 1 else seen.spare) = rw absent refl in
    let blocks : seen.blocks ≡ fin.remove seen.blocks b = same_map nat_cmp_total nat_cmp-IsAntisymmetric _ _ (λ q. same q ∙ sym (get-remove nat_cmp_total seen.blocks b q)) in
    λ i. record seen { spare = spare i; blocks = blocks i } where
      same : (q : ℕ) → get seen.blocks q ≡ cond (eq_by_cmp nat_cmp q b) None (get seen.blocks q)
      same q = elim (cases_eq q b) [
        | inl is ↦ rw (tied q b is) (ap (get seen.blocks) is ∙ none)
        | inr differ ↦ rw (apart q b differ) refl
      ]

-- the first entry's block is the least
pub least-first : (a : Inside) (seen : PatchState) (entry : Entry) → IsInOrder a → patch_in a ≡ seen → 0 < length a.entries.items → entry ≡ get_or a.entries.items 0 entry → IsLeast seen.blocks entry.block
least-first a seen entry ordered view some is = record {
  there = contains-there a seen entry.block 0 first;
  least = λ q there. elim (cases_lt q entry.block) [
    | inr above ↦ above
    | inl below ↦ let both : false ≡ true = sym (ap is_some (get-absent a seen q view (λ k low e. absurd (omega (arith, from k low, e))))) ∙ there in absurd (cc)
  ];
} where
  number : get_or (numbers_of a.entries.items) 0 0 ≡ entry.block
  number = number-at a.entries.items 0 entry some ∙ ap (λ e. e.block) (sym is)

  first : StandsAt a seen entry.block 0
  first = record { ordered = ordered; view = view; low = some; is = number }

  from : (k : ℕ) → k < length a.entries.items → entry.block ≤ get_or (numbers_of a.entries.items) k 0
  from k low = elim (cases_eq k 0) [
    | inl here ↦ omega (arith, number, ap (λ j. get_or (numbers_of a.entries.items) j 0) here)
    | inr behind ↦ omega (arith, number, ordered.ascending.rises 0 k (omega arith) (rw length-numbers low))
  ]

-- numbers that ascend are as many keys as there are entries
len-ascending : (pairs : List (ℕ × List ℕ)) → IsAscending (keys_of pairs) → fin.len (from_entries {R = nat_cmp} pairs) ≡ length pairs
len-ascending [] ascending = len-empty nat_cmp (List ℕ)
len-ascending (pair ∷ pairs) ascending =
    let new : is_some (get (from_entries {R = nat_cmp} pairs) pair.0) ≡ false
    = ap is_some (get-from_entries nat_cmp_total pairs pair.0 ∙ find-absent pairs pair.0 (λ j low e. absurd (omega (arith, ascending.rises 0 (suc j) (omega arith) (rw length-map (omega arith)), e)))) in
    let fewer : fin.len (from_entries {R = nat_cmp} pairs) ≡ length pairs = len-ascending pairs (record { rises = λ i j less low. ascending.rises (suc i) (suc j) (omega arith) (omega arith) }) in
    len-insert nat_cmp_total (from_entries {R = nat_cmp} pairs) pair.0 pair.1 ∙ rw new (omega (arith, fewer))

-- so there are as many blocks as entries
pub len-view : (a : Inside) (seen : PatchState) → IsInOrder a → patch_in a ≡ seen → length a.entries.items ≡ fin.len seen.blocks
len-view a seen ordered view = sym (length-pairs a.entries.items) ∙ sym (len-ascending (pairs_of a.entries.items) ordered.ascending) ∙ ap (λ p. fin.len p.blocks) view
