-- What the edits of a tree make of its outlines.
use Rattle.std.proofs.Common.{◌≡◌, ℕ, zero, suc, ◌+◌, ◌-◌, ◌/◌, ◌<◌, ◌⊎◌, inl, inr, List, [], ◌∷◌, ◌++◌, length, refl, sym, ap, ◌∙◌, subst, arith, get_or}
use Rattle.std.specs.Prelude.{◌≢◌, Bool, true, false, not, Option, Some, None, Ok, ok_or, cond, is_some, is_none, nat_lt, if◌then◌else◌, option_and_then, option_map, replicate, slice_get, slice_set, unwrap_or}
use Rattle.std.specs.List.{position_or_len}
use Rattle.std.specs.Option.{option_flatten}
use Rattle.std.proofs.lemmas.Bool.{cases_eq, cases_lt, ltb-true, ltb-false}
use Rattle.std.proofs.lemmas.List.Sums.{passes_at_first, prefix_len-le-length}
use Rattle.std.proofs.lemmas.Option.{slice_get-get_or, slice_get_past, slice_get_within, unwrap_or-slice_get}
use Rattle.qx_model.specs.declared.refusal.Refusal.TheVariants as refusal
use Rattle.qx_model.specs.Tree.{Body, Directory, Entry, File, Link, Row, Slot, Special, Tree, Unused, entry_of, slots_of, slots_of_body, slots_of_entry}
use Rattle.qx_model.specs.Directories.{is_directory, is_unused, parent_of, parent_of_body, with_entry}
use Rattle.qx_model.specs.Edits.{Edit, Setting, add_row, content_changed, leaf_of_record, new_inode, number_for, slots_with, with_long, with_slots, writing_record}
use Rattle.qx_model.proofs.Outlines.{Absent, Dir, body_outline, entry-other, entry-same, entry_outline, get-set_at, get-set_other, outline_of, slot_in}
use Rattle.qx_model.proofs.AddedRows.{set_at, set_at-other, set_at-same}
use Rattle.qx_model.proofs.RootedContents.{attr_outlines}

-- ---- an inode that is set

-- inode n has a place in the table
pub record HasPlace (t : Tree) (n : ℕ) : Type 0 where
  pub index : ℕ
  pub is : n ≡ suc index
  pub within : index < length t.inodes

-- a live inode has a place
pub live_place : (t : Tree) (n : ℕ) (e : Entry) → entry_of t n ≡ Some e → HasPlace t n
live_place t zero e h = absurd (cc)
live_place t (suc k) e h = go (slice_get t.inodes k) refl h
  where
    go : (o : Option (Option Entry)) → slice_get t.inodes k ≡ o → option_flatten o ≡ Some e → HasPlace t (suc k)
    go None is h = absurd (cc)
    go (Some x) is h = record { index = k; is = refl; within = slice_get_within t.inodes k x is }

-- the outlines with that inode set
pub outline-with : (t : Tree) (n : ℕ) (x : Option Entry) → HasPlace t n → (m : ℕ) → outline_of (with_entry t n x) m ≡ set_at n (entry_outline x) (outline_of t) m
outline-with t n x place m = elim (cases_eq m n) [
  | inl is ↦ subst (λ k. outline_of (with_entry t n x) k ≡ set_at n (entry_outline x) (outline_of t) k) (sym is) (own ∙ sym (set_at-same n (entry_outline x) (outline_of t)))
  | inr ne ↦ ap entry_outline (entry-other t n m x (λ e. ne (sym e))) ∙ sym (set_at-other n (entry_outline x) (outline_of t) m ne)
]
  where
    own : outline_of (with_entry t n x) n ≡ entry_outline x
    own = subst (λ k. outline_of (with_entry t k x) k ≡ entry_outline x) (sym place.is) (ap entry_outline (entry-same t place.index x place.within))

-- the table keeps its places
pub length-set : {A : Type 0} (xs : List A) (i : ℕ) (x : A) → length (slice_set xs i x) ≡ length xs
length-set [] i x = refl
length-set (y ∷ xs) zero x = refl
length-set (y ∷ xs) (suc i) x = ap suc (length-set xs i x)

-- and keeps it where another inode is set
pub place_stays : (t : Tree) (n m : ℕ) (x : Option Entry) → HasPlace t m → HasPlace (with_entry t n x) m
place_stays t zero m x p = p
place_stays t (suc n) m x p = record { index = p.index; is = p.is; within = subst (λ k. p.index < k) (sym (length-set t.inodes n x)) p.within }

-- a new inode isn't live yet, and has a place
pub new_place_facts : (t : Tree) (n : ℕ) → new_inode t ≡ Ok n → HasPlace t n × (outline_of t n ≡ Absent)
new_place_facts t n h = go (nat_lt (position_or_len (λ e. is_none e) t.inodes) (length t.inodes)) refl h
  where
    none_there : (o : Option Entry) → is_none o ≡ true → o ≡ None
    none_there None h = refl
    none_there (Some e) h = absurd (cc)

    go : (b : Bool) → nat_lt (position_or_len (λ e. is_none e) t.inodes) (length t.inodes) ≡ b
        → ok_or (option_map (λ k. k + 1) (cond b (Some (position_or_len (λ e. is_none e) t.inodes)) None)) refusal.NoInodes ≡ Ok n → HasPlace t n × (outline_of t n ≡ Absent)
    go true is h =
        let k : ℕ = position_or_len (λ e. is_none e) t.inodes in
        let below : position_or_len (λ e. is_none e) t.inodes < length t.inodes = ltb-true (position_or_len (λ e. is_none e) t.inodes) (length t.inodes) is in
        let value : position_or_len (λ e. is_none e) t.inodes + 1 ≡ n = cc in
        let same : n ≡ suc (position_or_len (λ e. is_none e) t.inodes) = omega arith in
        let none : get_or t.inodes (position_or_len (λ e. is_none e) t.inodes) None ≡ None = none_there _ (passes_at_first (λ e. is_none e) t.inodes None below) in
        let there = slice_get-get_or t.inodes (position_or_len (λ e. is_none e) t.inodes) None below in (
          record { index = position_or_len (λ e. is_none e) t.inodes; is = same; within = below },
          subst (λ m. outline_of t m ≡ Absent) (sym same) (ap (λ o. entry_outline (option_flatten o)) (there ∙ ap (λ x. Some x) none)),
        )
    go false is h = absurd (cc)

-- ---- a directory

-- what a directory is
pub record IsDirectoryAt (t : Tree) (d : ℕ) : Type 0 where
  pub entry : Entry
  pub slots : List Slot
  pub up : ℕ
  pub live : entry_of t d ≡ Some entry
  pub body : entry.body ≡ Directory slots up

-- an inode that passes the test is a directory
pub directory_at : (t : Tree) (d : ℕ) → is_directory t d ≡ true → IsDirectoryAt t d
directory_at t d h = of_entry (entry_of t d) refl h
  where
    of_body : (e : Entry) → entry_of t d ≡ Some e → (b : Body) → e.body ≡ b → is_some (parent_of_body b) ≡ true → IsDirectoryAt t d
    of_body e live (Directory slots parent) body h = record { entry = e; slots = slots; up = parent; live = live; body = body }
    of_body e live (File content) body h = absurd (cc)
    of_body e live (Link target) body h = absurd (cc)
    of_body e live Special body h = absurd (cc)

    of_entry : (o : Option Entry) → entry_of t d ≡ o → is_some (option_and_then (λ (e : Entry). parent_of_body e.body) o) ≡ true → IsDirectoryAt t d
    of_entry None live h = absurd (cc)
    of_entry (Some e) live h = of_body e live e.body refl h

-- its outline
pub directory_outline : (t : Tree) (d : ℕ) (h : IsDirectoryAt t d) → outline_of t d ≡ Dir (slot_in h.slots) h.up
directory_outline t d h = ap entry_outline h.live ∙ ap body_outline h.body

-- its slots
pub directory_slots : (t : Tree) (d : ℕ) (h : IsDirectoryAt t d) → slots_of t d ≡ h.slots
directory_slots t d h = ap (λ o. slots_of_entry o) h.live ∙ ap slots_of_body h.body

-- its parent
pub directory_parent : (t : Tree) (d : ℕ) (h : IsDirectoryAt t d) → parent_of t d ≡ Some h.up
directory_parent t d h = ap (option_and_then (λ (e : Entry). parent_of_body e.body)) h.live ∙ ap parent_of_body h.body

-- a directory by its outline
pub outline_directory : (t : Tree) (d : ℕ) (f : ℕ → Slot) (p : ℕ) → outline_of t d ≡ Dir f p → (h : IsDirectoryAt t d) × (h.up ≡ p)
outline_directory t d f p is = of_entry (entry_of t d) refl is
  where
    of_body : (e : Entry) → entry_of t d ≡ Some e → (b : Body) → e.body ≡ b → body_outline b ≡ Dir f p → (h : IsDirectoryAt t d) × (h.up ≡ p)
    of_body e live (Directory slots parent) body is = let same : parent ≡ p = cc in (record { entry = e; slots = slots; up = parent; live = live; body = body }, same)
    of_body e live (File content) body is = absurd (cc)
    of_body e live (Link target) body is = absurd (cc)
    of_body e live Special body is = absurd (cc)

    of_entry : (o : Option Entry) → entry_of t d ≡ o → entry_outline o ≡ Dir f p → (h : IsDirectoryAt t d) × (h.up ≡ p)
    of_entry None live is = absurd (cc)
    of_entry (Some e) live is = of_body e live e.body refl is

-- ---- slots with a row

unused_past : (m i : ℕ) → slot_in (replicate m Unused) i ≡ Unused
unused_past zero i = refl
unused_past (suc m) zero = refl
unused_past (suc m) (suc i) = unused_past m i

-- a row behind the slots
appended : (xs : List Slot) (row : Slot) (m i : ℕ) → slot_in (xs ++ row ∷ replicate m Unused) i ≡ set_at (length xs) row (slot_in xs) i
appended [] row m zero = sym (set_at-same 0 row (slot_in []))
appended [] row m (suc i) = unused_past m i ∙ sym (set_at-other 0 row (slot_in []) (suc i) (λ e. omega arith))
appended (y ∷ xs) row m zero = sym (set_at-other (length (y ∷ xs)) row (slot_in (y ∷ xs)) 0 (λ e. omega arith))
appended (y ∷ xs) row m (suc i) = appended xs row m i ∙ later (cases_eq i (length xs))
  where
    later : (i ≡ length xs) ⊎ (i ≢ length xs) → set_at (length xs) row (slot_in xs) i ≡ set_at (length (y ∷ xs)) row (slot_in (y ∷ xs)) (suc i)
    later (inl is) =
        let next : suc i ≡ length (y ∷ xs) = ap suc is in
        subst (λ k. set_at (length xs) row (slot_in xs) k ≡ row) (sym is) (set_at-same (length xs) row (slot_in xs))
        ∙ sym (subst (λ k. set_at (length (y ∷ xs)) row (slot_in (y ∷ xs)) k ≡ row) (sym next) (set_at-same (length (y ∷ xs)) row (slot_in (y ∷ xs))))
    later (inr ne) =
        set_at-other (length xs) row (slot_in xs) i ne
        ∙ sym (set_at-other (length (y ∷ xs)) row (slot_in (y ∷ xs)) (suc i) (λ e. ne (omega (arith, e))))

-- a row in the place of a slot
pub replaced : (xs : List Slot) (row : Slot) (j i : ℕ) → j < length xs → slot_in (slice_set xs j row) i ≡ set_at j row (slot_in xs) i
replaced xs row j i below = elim (cases_eq i j) [
  | inl is ↦ subst (λ k. slot_in (slice_set xs j row) k ≡ set_at j row (slot_in xs) k) (sym is) (ap (λ o. unwrap_or o Unused) (get-set_at xs j row below) ∙ sym (set_at-same j row (slot_in xs)))
  | inr ne ↦ ap (λ o. unwrap_or o Unused) (get-set_other xs j i row (λ e. ne (sym e))) ∙ sym (set_at-other j row (slot_in xs) i ne)
]

-- the first unused record, or the one past the end, is unused
pub unused_place : (xs : List Slot) → slot_in xs (position_or_len is_unused xs) ≡ Unused
unused_place xs = elim (cases_lt (position_or_len is_unused xs) (length xs)) [
  | inl below ↦ unwrap_or-slice_get xs (position_or_len is_unused xs) Unused ∙ unused (get_or xs (position_or_len is_unused xs) Unused) (passes_at_first is_unused xs Unused below)
  | inr past ↦ ap (λ o. unwrap_or o Unused) (slice_get_past xs (position_or_len is_unused xs) past)
]
  where
    unused : (s : Slot) → is_unused s ≡ true → s ≡ Unused
    unused Unused h = refl
    unused (Row n name long) h = absurd (cc)

-- slots with a new row are the old ones but for the first unused record
pub slots_with-in : (blocksize : ℕ) (xs : List Slot) (row : Slot) (i : ℕ) → slot_in (slots_with blocksize xs row) i ≡ set_at (position_or_len is_unused xs) row (slot_in xs) i
slots_with-in blocksize xs row i = go (nat_lt (position_or_len is_unused xs) (length xs)) refl
  where
    go : (b : Bool) → nat_lt (position_or_len is_unused xs) (length xs) ≡ b
        → slot_in (if b then slice_set xs (position_or_len is_unused xs) row else xs ++ row ∷ replicate (blocksize / 32 - 1) Unused) i ≡ set_at (position_or_len is_unused xs) row (slot_in xs) i
    go true is = replaced xs row (position_or_len is_unused xs) i (ltb-true (position_or_len is_unused xs) (length xs) is)
    go false is =
        let past = ltb-false (position_or_len is_unused xs) (length xs) is in
        let within = prefix_len-le-length (λ x. not (is_unused x)) xs in
        let end : length xs ≡ position_or_len is_unused xs = omega arith in
        appended xs row (blocksize / 32 - 1) i ∙ ap (λ k. set_at k row (slot_in xs) i) end

-- ---- a row that is added

-- long names are no inodes
pub long_inodes : (blocksize : ℕ) (long : Option ℕ) (name : List ℕ) (e : Edit) (n : ℕ) → entry_of (with_long blocksize long name e).tree n ≡ entry_of e.tree n
long_inodes blocksize None name e zero = refl
long_inodes blocksize None name e (suc n) = refl
long_inodes blocksize (Some k) name e zero = refl
long_inodes blocksize (Some k) name e (suc n) = refl

-- other slots in a directory
pub record_outlines : (blocksize d k : ℕ) (slots : List Slot) (e : Edit) (h : IsDirectoryAt e.tree d) (m : ℕ)
    → outline_of (writing_record blocksize d k slots e).tree m ≡ set_at d (Dir (slot_in slots) h.up) (outline_of e.tree) m
record_outlines blocksize d k slots e h m =
    let up = unwrap_or (parent_of e.tree d) d in
    let change = with_slots blocksize slots up (leaf_of_record blocksize k) in
    let parent : up ≡ h.up = ap (λ o. unwrap_or o d) (directory_parent e.tree d h) in
    outline-with e.tree d (option_map change (entry_of e.tree d)) (live_place e.tree d h.entry h.live) m
    ∙ ap (λ o. set_at d (entry_outline (option_map change o)) (outline_of e.tree) m) h.live
    ∙ ap (λ p. set_at d (Dir (slot_in slots) p) (outline_of e.tree) m) parent

-- a directory with a new row
pub added_outlines : (s : Setting) (d n : ℕ) (name : List ℕ) (e : Edit) (h : IsDirectoryAt e.tree d) (m : ℕ)
    → outline_of (add_row s d n name e).tree m ≡ set_at d (Dir (set_at (position_or_len is_unused h.slots) (Row n name (number_for e.tree name)) (slot_in h.slots)) h.up) (outline_of e.tree) m
added_outlines s d n name e h m =
    let long = number_for e.tree name in
    let f : Edit = with_long s.blocksize long name e in
    let slots = slots_of e.tree d in
    let row = Row n name long in
    let there : IsDirectoryAt f.tree d = record { entry = h.entry; slots = h.slots; up = h.up; live = long_inodes s.blocksize long name e d ∙ h.live; body = h.body } in
    attr_outlines d (content_changed s.moment) (writing_record s.blocksize d (position_or_len is_unused slots) (slots_with s.blocksize slots row) f) m
    ∙ record_outlines s.blocksize d (position_or_len is_unused slots) (slots_with s.blocksize slots row) f there m
    ∙ (λ i. set_at d (Dir (λ k. slots_with-in s.blocksize (directory_slots e.tree d h i) row k i) h.up) (λ k. entry_outline (long_inodes s.blocksize long name e k i)) m)
