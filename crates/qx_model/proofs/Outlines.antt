-- What decides whether a tree is rooted: of each inode whether it is live, and of a directory its slots and its parent.
use Rattle.std.proofs.Common.{◌≡◌, ℕ, zero, suc, ◌<◌, ◌≤◌, inl, inr, List, [], ◌∷◌, length, refl, sym, ap, ◌∙◌, subst, arith}
use Rattle.std.specs.Prelude.{◌≢◌, IsTrue, Option, Some, None, option_map, slice_get, slice_set, unwrap_or}
use Rattle.std.specs.Option.{option_flatten}
use Rattle.std.proofs.lemmas.Bool.{cases_eq, cases_lt}
use Rattle.qx_model.specs.Tree.{Body, Directory, Entry, File, IsDirectory, Link, NamesAt, Reached, Row, Slot, Special, Tree, Unused, down, entry_of, named_by, slots_of, slots_of_body, slots_of_entry, top}
use Rattle.qx_model.specs.Rooted.{AreRows, IsRooted, is_plain}
use Rattle.qx_model.specs.Directories.{with_entry}

-- an inode that isn't live, one that is no directory, and a directory
pub data Outline : Type 0 where
  Absent : Outline
  Plain : Outline
  Dir : (ℕ → Slot) → ℕ → Outline

-- record k of a directory, unused past its end
abbrev pub slot_in : List Slot → ℕ → Slot
slot_in slots k = unwrap_or (slice_get slots k) Unused

-- of what an inode holds
abbrev pub body_outline : Body → Outline
body_outline (Directory slots parent) = Dir (slot_in slots) parent
body_outline (File content) = Plain
body_outline (Link target) = Plain
body_outline Special = Plain

-- of an inode
abbrev pub entry_outline : Option Entry → Outline
entry_outline None = Absent
entry_outline (Some e) = body_outline e.body

-- of inode n of a tree
abbrev pub outline_of : Tree → ℕ → Outline
outline_of t n = entry_outline (entry_of t n)

-- the records of a directory
abbrev pub slots_in : Outline → ℕ → Slot
slots_in Absent k = Unused
slots_in Plain k = Unused
slots_in (Dir slots parent) k = slots k

-- ---- the words of trees, by outlines

-- slot k of directory d is a row that names n, `.` and `..` not counted
abbrev pub NamesIn : (ℕ → Outline) → ℕ → ℕ → ℕ → Type 0
NamesIn o d k n = named_by (slots_in (o d) k) ≡ Some n

-- the inodes that are reached from inode 1
pub data ReachedIn (o : ℕ → Outline) : ℕ → Type 0 where
  first : ReachedIn o 1
  more : {c m : ℕ} (k : ℕ) → ReachedIn o c → NamesIn o c k m → ReachedIn o m

-- inode d is a directory with this parent
pub record IsDir (o : ℕ → Outline) (d p : ℕ) : Type 0 where
  pub slots : ℕ → Slot
  pub is : o d ≡ Dir slots p

-- what the rows of a directory are
pub record AreRowsIn (d p : ℕ) (slots : ℕ → Slot) : Type 0 where
  pub plain : (k n : ℕ) (name : List ℕ) (long : Option ℕ) → slots k ≡ Row n name long → IsTrue (is_plain name)
  pub differ : (k j n i : ℕ) (name : List ℕ) (a b : Option ℕ) → slots k ≡ Row n name a → slots j ≡ Row i name b → k ≡ j
  pub dot : (k n : ℕ) (long : Option ℕ) → slots k ≡ Row n (46 ∷ []) long → n ≡ d
  pub dots : (k n : ℕ) (long : Option ℕ) → slots k ≡ Row n (46 ∷ 46 ∷ []) long → n ≡ p

-- the outlines of a rooted tree
pub record IsRootedIn (o : ℕ → Outline) : Type 0 where
  pub reached : (n : ℕ) → o n ≢ Absent → ReachedIn o n
  pub closed : (n : ℕ) → ReachedIn o n → o n ≢ Absent
  pub top : IsDir o 1 1
  pub parent : (d p : ℕ) → IsDir o d p → d ≢ 1 → (k : ℕ) × NamesIn o p k d
  pub no_top : (d k : ℕ) → NamesIn o d k 1 → ⊥
  pub once : (d k c j n p : ℕ) → NamesIn o d k n → NamesIn o c j n → IsDir o n p → (d ≡ c) × (k ≡ j)
  pub rows : (d p : ℕ) → IsDir o d p → AreRowsIn d p (slots_in (o d))

-- ---- records of a list

-- a row stands there where the record is that row
pub row_stands : (slots : List Slot) (k n : ℕ) (name : List ℕ) (long : Option ℕ) → slot_in slots k ≡ Row n name long → slice_get slots k ≡ Some (Row n name long)
row_stands slots k n name long h = go (slice_get slots k) h
  where
    go : (o : Option Slot) → unwrap_or o Unused ≡ Row n name long → o ≡ Some (Row n name long)
    go None h = absurd (cc)
    go (Some s) h = ap (λ x. Some x) h

-- and what the list has there is read
pub row_read : (slots : List Slot) (k : ℕ) (s : Slot) → slice_get slots k ≡ Some s → slot_in slots k ≡ s
row_read slots k s h = ap (λ o. unwrap_or o Unused) h

to_rows : (d p : ℕ) (slots : List Slot) → AreRows d p slots → AreRowsIn d p (slot_in slots)
to_rows d p slots r = record {
  plain = λ k n name long h. r.plain k n name long (row_stands slots k n name long h);
  differ = λ k j n i name a b h g. r.differ k j n i name a b (row_stands slots k n name a h) (row_stands slots j i name b g);
  dot = λ k n long h. r.dot k n long (row_stands slots k n (46 ∷ []) long h);
  dots = λ k n long h. r.dots k n long (row_stands slots k n (46 ∷ 46 ∷ []) long h);
}

from_rows : (d p : ℕ) (slots : List Slot) → AreRowsIn d p (slot_in slots) → AreRows d p slots
from_rows d p slots r = record {
  plain = λ k n name long h. r.plain k n name long (row_read slots k (Row n name long) h);
  differ = λ k j n i name a b h g. r.differ k j n i name a b (row_read slots k (Row n name a) h) (row_read slots j (Row i name b) g);
  dot = λ k n long h. r.dot k n long (row_read slots k (Row n (46 ∷ []) long) h);
  dots = λ k n long h. r.dots k n long (row_read slots k (Row n (46 ∷ 46 ∷ []) long) h);
}

-- ---- a tree is rooted where its outlines are

module _ (t : Tree) where
  same_slots : (d : ℕ) → slot_in (slots_of t d) ≡ slots_in (outline_of t d)
  same_slots d = of_entry (entry_of t d)
    where
      of_body : (b : Body) → slot_in (slots_of_body b) ≡ slots_in (body_outline b)
      of_body (Directory slots parent) = refl
      of_body (File content) = refl
      of_body (Link target) = refl
      of_body Special = refl

      of_entry : (o : Option Entry) → slot_in (slots_of_entry o) ≡ slots_in (entry_outline o)
      of_entry None = refl
      of_entry (Some e) = of_body e.body

  -- a row of the tree is one of its outlines
  pub to_names : (d k n : ℕ) → NamesAt t d k n → NamesIn (outline_of t) d k n
  to_names d k n (s, at, names) = ap named_by (sym (λ i. same_slots d i k) ∙ row_read (slots_of t d) k s at) ∙ names

  -- and the other way
  pub from_names : (d k n : ℕ) → NamesIn (outline_of t) d k n → NamesAt t d k n
  from_names d k n names = go (slice_get (slots_of t d) k) refl (ap named_by (λ i. same_slots d i k) ∙ names)
    where
      go : (o : Option Slot) → slice_get (slots_of t d) k ≡ o → named_by (unwrap_or o Unused) ≡ Some n → NamesAt t d k n
      go None is h = absurd (cc)
      go (Some s) is h = (s, is, h)

  to_reached : {n : ℕ} → Reached t n → ReachedIn (outline_of t) n
  to_reached top = first
  to_reached (down {d} {n} r (k, names)) = more k (to_reached r) (to_names d k n names)

  from_reached : {n : ℕ} → ReachedIn (outline_of t) n → Reached t n
  from_reached first = top
  from_reached (more {c} {m} k r names) = down (from_reached r) (k, from_names c k m names)

  to_dir : (d p : ℕ) → IsDirectory t d p → IsDir (outline_of t) d p
  to_dir d p (e, slots, live, body) = record { slots = slot_in slots; is = ap entry_outline live ∙ ap body_outline body }

  from_dir : (d p : ℕ) → IsDir (outline_of t) d p → IsDirectory t d p
  from_dir d p h = of_entry (entry_of t d) refl h.is
    where
      of_body : (e : Entry) → entry_of t d ≡ Some e → (b : Body) → e.body ≡ b → body_outline b ≡ Dir h.slots p → IsDirectory t d p
      of_body e live (Directory slots parent) body is = let b : parent ≡ p = cc in (e, slots, live, body ∙ (λ i. Directory slots (b i)))
      of_body e live (File content) body is = absurd (cc)
      of_body e live (Link target) body is = absurd (cc)
      of_body e live Special body is = absurd (cc)

      of_entry : (o : Option Entry) → entry_of t d ≡ o → entry_outline o ≡ Dir h.slots p → IsDirectory t d p
      of_entry None live is = absurd (cc)
      of_entry (Some e) live is = of_body e live e.body refl is

  live_outline : (n : ℕ) (e : Entry) → entry_of t n ≡ Some e → outline_of t n ≢ Absent
  live_outline n e live = subst (λ o. entry_outline o ≢ Absent) (sym live) (of_body e.body)
    where
      of_body : (b : Body) → body_outline b ≢ Absent
      of_body (Directory slots parent) h = cc
      of_body (File content) h = cc
      of_body (Link target) h = cc
      of_body Special h = cc

  -- an outline that is there is that of a live inode
  pub outline_live : (n : ℕ) → outline_of t n ≢ Absent → (e : Entry) × (entry_of t n ≡ Some e)
  outline_live n h = of_entry (entry_of t n) refl h
    where
      of_entry : (o : Option Entry) → entry_of t n ≡ o → entry_outline o ≢ Absent → (e : Entry) × (entry_of t n ≡ Some e)
      of_entry None live h = absurd (h refl)
      of_entry (Some e) live h = (e, live)

  -- a rooted tree has rooted outlines
  pub to_rooted : IsRooted t → IsRootedIn (outline_of t)
  to_rooted r = record {
    reached = λ n h. let live = outline_live n h in to_reached (r.reached n live.0 live.1);
    closed = λ n h. let live = r.closed n (from_reached h) in live_outline n live.0 live.1;
    top = to_dir 1 1 r.top;
    parent = λ d p h ne. let w = r.parent d p (from_dir d p h) ne in (w.0, to_names p w.0 d w.1);
    no_top = λ d k h. r.no_top d (k, from_names d k 1 h);
    once = λ d k c j n p a b h. r.once d k c j n p (from_names d k n a) (from_names c j n b) (from_dir n p h);
    rows = λ d p h. subst (λ f. AreRowsIn d p f) (same_slots d) (to_rows d p (slots_of t d) (r.rows d p (from_dir d p h)));
  }

  -- and a tree with rooted outlines is rooted
  pub from_rooted : IsRootedIn (outline_of t) → IsRooted t
  from_rooted r = record {
    reached = λ n e live. from_reached (r.reached n (live_outline n e live));
    closed = λ n h. outline_live n (r.closed n (to_reached h));
    top = from_dir 1 1 r.top;
    parent = λ d p h ne. let w = r.parent d p (to_dir d p h) ne in (w.0, from_names p w.0 d w.1);
    no_top = λ d h. r.no_top d h.0 (to_names d h.0 1 h.1);
    once = λ d k c j n p a b h. r.once d k c j n p (to_names d k n a) (to_names c j n b) (to_dir n p h);
    rows = λ d p h. from_rows d p (slots_of t d) (subst (λ f. AreRowsIn d p f) (sym (same_slots d)) (r.rows d p (to_dir d p h)));
  }

-- trees with the same outlines are rooted together
pub alike_rooted : (t u : Tree) → ((n : ℕ) → outline_of u n ≡ outline_of t n) → IsRooted t → IsRooted u
alike_rooted t u same r = from_rooted u (subst (λ o. IsRootedIn o) (λ i n. sym (same n) i) (to_rooted t r))

-- ---- one inode changed

get-set_same : {A : Type 0} (xs : List A) (i : ℕ) (x : A) → i < length xs → slice_get (slice_set xs i x) i ≡ Some x
get-set_same [] i x h = absurd (omega arith)
get-set_same (y ∷ xs) zero x h = refl
get-set_same (y ∷ xs) (suc i) x h = get-set_same xs i x (omega arith)

-- a list with one element set has the others as before
pub get-set_other : {A : Type 0} (xs : List A) (i j : ℕ) (x : A) → i ≢ j → slice_get (slice_set xs i x) j ≡ slice_get xs j
get-set_other [] i j x ne = refl
get-set_other (y ∷ xs) zero zero x ne = absurd (ne refl)
get-set_other (y ∷ xs) zero (suc j) x ne = refl
get-set_other (y ∷ xs) (suc i) zero x ne = refl
get-set_other (y ∷ xs) (suc i) (suc j) x ne = get-set_other xs i j x (λ e. ne (ap suc e))

-- and the new one at its place
pub get-set_at : {A : Type 0} (xs : List A) (i : ℕ) (x : A) → i < length xs → slice_get (slice_set xs i x) i ≡ Some x
get-set_at xs i x h = get-set_same xs i x h

-- an inode within the table is what it is set to
pub entry-same : (t : Tree) (n : ℕ) (x : Option Entry) → n < length t.inodes → entry_of (with_entry t (suc n) x) (suc n) ≡ x
entry-same t n x h = ap option_flatten (get-set_same t.inodes n x h)

-- and the others stay
pub entry-other : (t : Tree) (n m : ℕ) (x : Option Entry) → n ≢ m → entry_of (with_entry t n x) m ≡ entry_of t m
entry-other t zero m x ne = refl
entry-other t (suc n) zero x ne = refl
entry-other t (suc n) (suc m) x ne = ap option_flatten (get-set_other t.inodes n m x (λ e. ne (ap suc e)))

-- past the end nothing is set
pub set_past : {A : Type 0} (xs : List A) (i : ℕ) (x : A) → length xs ≤ i → slice_set xs i x ≡ xs
set_past [] i x h = refl
set_past (y ∷ xs) zero x h = absurd (omega arith)
set_past (y ∷ xs) (suc i) x h = ap (λ zs. y ∷ zs) (set_past xs i x (omega arith))

-- that inode's own outline
own_outline : (t : Tree) (n : ℕ) (x : Option Entry) → entry_outline x ≡ outline_of t n → outline_of (with_entry t n x) n ≡ outline_of t n
own_outline t zero x same = refl
own_outline t (suc n) x same = elim (cases_lt n (length t.inodes)) [
  | inl below ↦ ap entry_outline (entry-same t n x below) ∙ same
  | inr past ↦ ap (λ xs. entry_outline (option_flatten (slice_get xs n))) (set_past t.inodes n x past)
]

-- where the outline of an inode stays, all do
pub same_outlines : (t : Tree) (n : ℕ) (x : Option Entry) → entry_outline x ≡ outline_of t n → (m : ℕ) → outline_of (with_entry t n x) m ≡ outline_of t m
same_outlines t n x same m = elim (cases_eq n m) [
  | inl is ↦ subst (λ k. outline_of (with_entry t n x) k ≡ outline_of t k) is (own_outline t n x same)
  | inr ne ↦ ap entry_outline (entry-other t n m x ne)
]

-- where an inode is changed to one with the same outline, all outlines stay
pub altered_outlines : (t : Tree) (n : ℕ) (change : Entry → Entry) → ((e : Entry) → entry_of t n ≡ Some e → body_outline (change e).body ≡ body_outline e.body)
    → (m : ℕ) → outline_of (with_entry t n (option_map change (entry_of t n))) m ≡ outline_of t m
altered_outlines t n change same m = same_outlines t n (option_map change (entry_of t n)) (of_entry (entry_of t n) refl) m
  where
    of_entry : (o : Option Entry) → entry_of t n ≡ o → entry_outline (option_map change o) ≡ entry_outline o
    of_entry None live = refl
    of_entry (Some e) live = same e live
