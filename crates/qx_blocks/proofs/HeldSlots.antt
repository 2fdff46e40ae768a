-- What a write of one slot does to the fields of blocks in memory.
use Rattle.std.proofs.Common.{◌≡◌, ℕ, [], ◌∷◌, ◌+◌, ◌<◌, Bool, true, false, not, List, take, drop, ◌++◌, length, refl, sym, ◌∙◌, ap, subst, arith, Option, None, Some, get_or}
use Rattle.std.specs.Prelude.{is_some, map, if◌then◌else◌, ◌≤◌, IfSome, position, count_by, cond, replicate, ◌-◌}
use Rattle.std.specs.Vec.{with_item, with_items}
use Rattle.std.proofs.lemmas.List.{map-set, length-map, get_or-map, length-take, length-append, length-drop, length-replicate, get_or-drop, get_or-take}
use Rattle.std.specs.List.{position_or_len}
use Rattle.std.proofs.lemmas.Bool.{lt-ltb}
use Rattle.std.proofs.lemmas.List.Sums.{sum_by-cons}
use Rattle.std.proofs.lemmas.List.Quantifiers.{position-Some}
use Rattle.qx_blocks.specs.declared.memory.Slot.{Slot}
use Rattle.qx_blocks.specs.declared.memory.MemBlocks.TheInside.{Inside}
use Rattle.qx_blocks.specs.BlockState.{with_fresh, without}
use Rattle.qx_bytes.specs.SameLengths.{refit}
use Rattle.qx_blocks.specs.MemState.{MemState, free_in, state_of, holds, slot_at, with_slot, edited_in, IsKept}
use Rattle.qx_blocks.specs.MemView.{slot_bytes, mem_state_in, IsCounted, IsFreeSlot}
use Rattle.qx_blocks.specs.SlotWrites.{free-with_slot, IsKept-with_slot, within-held, state-released, state-taken}

-- the fields, once slot b is written and `left` blocks are free
abbrev pub written : Inside → ℕ → Slot → ℕ → Inside
written a b s left = record a { free = left; slots = with_item a.slots b s }

-- the blocks that the fields stand for, once slot b is written
pub mem_state-written : (a : Inside) (b left : ℕ) (s : Slot) → mem_state_in (written a b s left) ≡ with_slot (mem_state_in a) b (slot_bytes s)
mem_state-written a b left s = λ i. record { size = a.size; blocks = map-set slot_bytes a.slots.items b s i }

-- the bytes of slot b, as it lies there
pub bytes_at : (a : Inside) (b : ℕ) (s : Slot) → b < length a.slots.items → s ≡ get_or a.slots.items b s → slot_at (mem_state_in a) b ≡ slot_bytes s
bytes_at a b s low is = get_or-map slot_bytes a.slots.items b s None low ∙ ap slot_bytes (sym is)

-- what holds of the fields once slot b is written
pub IsCounted-written : (a : Inside) (b left : ℕ) (s : Slot) → IsCounted a → b < length a.slots.items
    → ((xs : List ℕ) → slot_bytes s ≡ Some xs → length xs ≡ a.size)
    → left + (if not (holds (mem_state_in a) b) then 1 else 0) ≡ a.free + (if not (is_some (slot_bytes s)) then 1 else 0)
    → IsCounted (written a b s left)
IsCounted-written a b left s c low fits counts = record {
  kept = subst IsKept (sym (mem_state-written a b left s)) (IsKept-with_slot (mem_state_in a) b (slot_bytes s) c.kept fits);
  free = sym (ap free_in (mem_state-written a b left s) ∙ free-with_slot (mem_state_in a) b left (slot_bytes s) (rw length-map low) (counts ∙ ap (λ n. n + (if not (is_some (slot_bytes s)) then 1 else 0)) c.free));
}

-- what is written over a block leaves its length
pub length-refit : (old new : List ℕ) → length (refit old new) ≡ length old
length-refit old new = omega (arith, length-take (length old) (new ++ drop (length new) old), length-append new (drop (length new) old), length-drop (length new) old)

-- the bytes of a held slot, once others are written over them
pub edited_slot : (s : Slot) (w : List ℕ) → s.held ≡ true → slot_bytes (record s { bytes = with_items s.bytes w }) ≡ Some (refit s.bytes.items w)
edited_slot s w held = rw held (ap (λ n. Some (take n (w ++ drop (length w) s.bytes.items))) s.bytes.ok.0)

-- a slot with bytes is held
pub held_slot : (s : Slot) (h : is_some (slot_bytes s) ≡ true) → s.held ≡ true
held_slot s h = elim s.held as (λ t. is_some (if t then Some s.bytes.items else None) ≡ true → t ≡ true) [ true ↦ λ _. refl | false ↦ λ e. e ] h

-- slot b as it lies, of a block that is held
pub record HasSlot (a : Inside) (b : ℕ) (s : Slot) : Type 0 where
  pub counted : IsCounted a
  pub low : b < length a.slots.items
  pub lies : s ≡ get_or a.slots.items b s
  pub holds : holds (mem_state_in a) b ≡ true

-- its slot is held
pub held-lies : (a : Inside) (b : ℕ) (s : Slot) → HasSlot a b s → s.held ≡ true
held-lies a b s h = held_slot s (ap is_some (sym (bytes_at a b s h.low h.lies)) ∙ h.holds)

-- its bytes are those of the slot
pub bytes-lies : (a : Inside) (b : ℕ) (s : Slot) → HasSlot a b s → slot_at (mem_state_in a) b ≡ Some s.bytes.items
bytes-lies a b s h = bytes_at a b s h.low h.lies ∙ rw (held-lies a b s h) refl

-- its slot has as many bytes as a block
pub length-lies : (a : Inside) (b : ℕ) (s : Slot) → HasSlot a b s → length s.bytes.items ≡ a.size
length-lies a b s h = h.counted.kept.lengths b s.bytes.items (bytes-lies a b s h)

-- whatever is written over a held block, the fields stay in order
pub edit_keeps : (a : Inside) (b : ℕ) (s : Slot) → HasSlot a b s → (w : List ℕ) → IsCounted (written a b (record s { bytes = with_items s.bytes w }) a.free)
edit_keeps a b s h w =
    let new : Slot = record s { bytes = with_items s.bytes w } in
    let bytes : slot_bytes new ≡ Some (refit s.bytes.items w) = edited_slot s w (held-lies a b s h) in
    IsCounted-written a b a.free new h.counted h.low
    (λ xs e. let same : xs ≡ refit s.bytes.items w = cc in ap length same ∙ length-refit s.bytes.items w ∙ length-lies a b s h)
    (rw (h.holds, bytes) refl)

-- and the block has these bytes
pub edit_view : (a : Inside) (b : ℕ) (s : Slot) → HasSlot a b s → (w : List ℕ) → mem_state_in (written a b (record s { bytes = with_items s.bytes w }) a.free) ≡ edited_in (mem_state_in a) b w
edit_view a b s h w =
    mem_state-written a b a.free (record s { bytes = with_items s.bytes w })
    ∙ ap (with_slot (mem_state_in a) b) (edited_slot s w (held-lies a b s h) ∙ sym (rw (bytes-lies a b s h) refl))

-- a held block has a slot
pub place-held : (a : Inside) (b : ℕ) → holds (mem_state_in a) b ≡ true → b < length a.slots.items
place-held a b h = subst (λ n. b < n) (length-map a.slots.items slot_bytes) (within-held (mem_state_in a).blocks b h)

-- what is known of a held block whose slot was looked up
pub has_slot : (a : Inside) (seen : MemState) (b : ℕ) (s : Slot) → IsCounted a → mem_state_in a ≡ seen → holds seen b ≡ true → s ≡ get_or a.slots.items b s → HasSlot a b s
has_slot a seen b s c view h lies =
    let held : holds (mem_state_in a) b ≡ true = ap (λ v. holds v b) view ∙ h in
    record { counted = c; low = place-held a b held; lies = lies; holds = held }

-- a held block's slot is given up: the fields stay in order
pub release_keeps : (a : Inside) (seen : MemState) (b : ℕ) (s : Slot) → IsCounted a → mem_state_in a ≡ seen → holds seen b ≡ true → s.held ≡ false → IsCounted (written a b s (a.free + 1))
release_keeps a seen b s c view h empty =
    let held : holds (mem_state_in a) b ≡ true = ap (λ v. holds v b) view ∙ h in
    let none : slot_bytes s ≡ None = rw empty refl in
    IsCounted-written a b (a.free + 1) s c (place-held a b held) (λ xs e. absurd (cc)) (rw (held, none) (omega arith))

-- and the block is given up
pub release_view : (a : Inside) (seen : MemState) (b : ℕ) (s : Slot) → mem_state_in a ≡ seen → holds seen b ≡ true → s.held ≡ false → state_of (mem_state_in (written a b s (a.free + 1))) ≡ without (state_of seen) b
release_view a seen b s view h empty =
    ap state_of (mem_state-written a b (a.free + 1) s ∙ (λ i. with_slot (view i) b (if empty i then Some s.bytes.items else None)))
    ∙ state-released seen b h

-- nobody holds the slot
abbrev is_free : Slot → Bool
is_free slot = not slot.held

-- there are no bytes in this place
abbrev no_bytes : Option (List ℕ) → Bool
no_bytes x = not (is_some x)

-- where some slot is free, the search ends before the end
found-before : (xs : List Slot) → 0 < count_by no_bytes (map slot_bytes xs) → position_or_len is_free xs < length xs
found-before [] some = absurd (omega arith)
found-before (x ∷ xs) some =
    elim x.held as (λ t. 0 < (if not (is_some (if t then Some x.bytes.items else None)) then 1 else 0) + count_by no_bytes (map slot_bytes xs) → cond (not (not t)) (1 + position_or_len is_free xs) 0 < length (x ∷ xs)) [
      | true ↦ λ h. omega (arith, found-before xs (omega arith))
      | false ↦ λ h. omega arith
    ] (subst (λ n. 0 < n) (sum_by-cons (λ y. if no_bytes y then 1 else 0) (slot_bytes x) (map slot_bytes xs)) some)

-- where some block is free, the search finds a slot
pub free-none : (a : Inside) (seen : MemState) → mem_state_in a ≡ seen → 0 < free_in seen → position is_free a.slots.items ≡ None → ⊥
free-none a seen view some none =
    let low : position_or_len is_free a.slots.items < length a.slots.items = found-before a.slots.items (subst (λ v. 0 < free_in v) (sym view) some) in
    cc (none, lt-ltb _ _ low)

-- the slot that a search finds is free
pub found-free : (xs : List Slot) (b : ℕ) → position is_free xs ≡ Some b → IsFreeSlot xs b
found-free [] b at = absurd (cc)
found-free (x ∷ xs) b at = record { low = (position-Some is_free (x ∷ xs) b x at).0; unheld = λ d. unheld (get_or (x ∷ xs) b d) (position-Some is_free (x ∷ xs) b d at).1 } where
  unheld : (y : Slot) → is_free y ≡ true → y.held ≡ false
  unheld y free = elim y.held as (λ t. not t ≡ true → t ≡ false) [ true ↦ λ e. absurd (cc) | false ↦ λ _. refl ] free

-- whether it finds one or none
pub found-any : (xs : List Slot) (o : Option ℕ) → o ≡ position is_free xs → IfSome o (λ b. IsFreeSlot xs b)
found-any xs None at = tt
found-any xs (Some b) at = found-free xs b (sym at)

-- one that is found behind some of the slots is one of them
pub later-free : (from count : ℕ) (xs : List Slot) (b : ℕ) → from ≤ length xs → IsFreeSlot (take count (drop from xs)) b → IsFreeSlot xs (from + b)
later-free from count xs b long f =
    let most : length (take count (drop from xs)) ≤ count = omega (arith, length-take count (drop from xs)) in
    let within : length (take count (drop from xs)) ≤ length (drop from xs) = omega (arith, length-take count (drop from xs)) in
    record {
      low = omega (arith, f.low, within, length-drop from xs);
      unheld = λ d. sym (ap (λ (x : Slot). x.held) (get_or-take count (drop from xs) b d (omega (arith, f.low, most)) ∙ get_or-drop from xs b d)) ∙ f.unheld d;
    }

-- no block has it
pub free-found : (a : Inside) (b : ℕ) (d : Slot) → IsFreeSlot a.slots.items b → holds (mem_state_in a) b ≡ false
free-found a b d f =
    ap is_some (get_or-map slot_bytes a.slots.items b d None f.low ∙ ap (λ t. if t then Some (get_or a.slots.items b d).bytes.items else None) (f.unheld d))

-- that slot is taken: the fields stay in order
pub fresh_keeps : (a : Inside) (seen : MemState) (b hint : ℕ) (s : Slot) → IsCounted a → mem_state_in a ≡ seen → 0 < free_in seen → IsFreeSlot a.slots.items b
    → s.held ≡ true → s.bytes.items ≡ replicate a.size 0 → IsCounted (record (written a b s (a.free - 1)) { hint = hint })
fresh_keeps a seen b hint s c view some at held zeros =
    let there : slot_bytes s ≡ Some s.bytes.items = rw held refl in
    let free : 0 < a.free = subst (λ n. 0 < n) (sym c.free) (subst (λ v. 0 < free_in v) (sym view) some) in
    let kept : IsCounted (written a b s (a.free - 1)) = IsCounted-written a b (a.free - 1) s c at.low
    (λ xs e. let same : xs ≡ s.bytes.items = cc in ap length (same ∙ zeros) ∙ length-replicate a.size 0)
    (rw (free-found a b s at, there) (omega arith)) in
    record { kept = kept.kept; free = kept.free }

-- and the block is taken
pub fresh_view : (a : Inside) (seen : MemState) (b : ℕ) (s : Slot) → mem_state_in a ≡ seen → 0 < free_in seen → IsFreeSlot a.slots.items b
    → s.held ≡ true → s.bytes.items ≡ replicate a.size 0 → state_of (mem_state_in (written a b s (a.free - 1))) ≡ with_fresh (state_of seen) b
fresh_view a seen b s view some at held zeros =
    let there : slot_bytes s ≡ Some (replicate a.size 0) = rw held (ap (λ xs. Some xs) zeros) in
    ap state_of (mem_state-written a b (a.free - 1) s ∙ ap (with_slot (mem_state_in a) b) there)
    ∙ state-taken (mem_state_in a) b (free-found a b s at) (rw length-map at.low) (subst (λ v. 0 < free_in v) (sym view) some)
    ∙ ap (λ v. with_fresh (state_of v) b) view
