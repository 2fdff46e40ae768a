-- Operations that take a name away leave a tree rooted.
use Rattle.std.proofs.Common.{◌≡◌, ℕ, zero, suc, ◌<◌, ◌⊎◌, inl, inr, List, [], ◌∷◌, length, refl, sym, ap, ◌∙◌, subst, arith, get_or}
use Rattle.std.specs.Prelude.{◌≢◌, Bool, true, false, not, Option, Some, None, Ok, ok_or, cond, is_none, nat_lt, ◌==◌, if◌then◌else◌, option_and_then, option_map, slice_set}
use Rattle.std.specs.List.{list_all, position_or_len}
use Rattle.std.proofs.lemmas.Bool.{cases_eq, eqb-true, ltb-true}
use Rattle.std.proofs.lemmas.List.Sums.{passes_at_first}
use Rattle.std.proofs.lemmas.Option.{unwrap_or-slice_get}
use Rattle.std.proofs.lemmas.Slice.Eq.{bytes_eq-Decides}
use Rattle.qx_geom.proofs.Truths.{and_left, and_right}
use Rattle.qx_model.specs.declared.refusal.Refusal.TheVariants as refusal
use Rattle.qx_model.specs.Outcomes.{◌>>=◌, ◌>>◌, refuse_if}
use Rattle.qx_model.specs.Tree.{Names, Row, Slot, Tree, Unused, entry_of, is_dots, links_of, named_by, slots_of}
use Rattle.qx_model.specs.Rooted.{IsRooted}
use Rattle.qx_model.specs.Directories.{has_name, inode_of_slot, is_bare, is_directory, long_of_slot, slot_at}
use Rattle.qx_model.specs.Paths.{Place, place_at}
use Rattle.qx_model.specs.Edits.{Edit, Setting, attr_changed, clear_row, content_changed, putting, unchanged, with_attr, without_long, writing_record}
use Rattle.qx_model.specs.Effects.{Edits}
use Rattle.qx_model.specs.LostNames.{RowAt, remove, remove_dir, row_at, row_in, without_row}
use Rattle.qx_model.proofs.CountedRows.{linked_where_named}
use Rattle.qx_model.proofs.Outlines.{Absent, Dir, IsRootedIn, NamesIn, Outline, Plain, entry_outline, from_names, from_rooted, more, outline_live, outline_of, slot_in, slots_in, to_names, to_rooted}
use Rattle.qx_model.proofs.AddedRows.{dir_live, naming_live, set_at, set_at-other, set_at-same}
use Rattle.qx_model.proofs.LostRows.{Fate, goes, lost_rooted, stays}
use Rattle.qx_model.proofs.EditOutlines.{IsDirectoryAt, directory_at, directory_outline, directory_slots, live_place, outline-with, record_outlines, replaced}
use Rattle.qx_model.proofs.Places.{IsPlace, not_false, ok_some, place_facts}
use Rattle.qx_model.proofs.RootedContents.{KeepsRooted, attr_outlines, edit_keeps, refuse_keeps, rest_keeps}
use Rattle.qx_model.proofs.RootedNames.{plain_outline}

-- ---- the row of a place

-- a row with a name that isn't reserved, in a directory
pub record IsRow (t : Tree) (row : RowAt) : Type 0 where
  pub directory : IsDirectoryAt t row.directory
  pub within : row.record_number < length directory.slots
  pub names : NamesIn (outline_of t) row.directory row.record_number row.inode

-- the row that a place has is one of the tree
pub row_is : (t : Tree) (p : Place) (row : RowAt) → IsPlace t p → row_at t p ≡ Some row → IsRow t row
row_is t p row place h = go (nat_lt (position_or_len (has_name p.name) (slots_of t p.directory)) (length (slots_of t p.directory))) refl h
  where
    dir : IsDirectoryAt t p.directory
    dir = directory_at t p.directory place.directory

    named : (k : ℕ) (s : Slot) (o : Option ℕ) → slot_at t p.directory k ≡ s → has_name p.name s ≡ true → inode_of_slot s ≡ o → k < length (slots_of t p.directory)
        → option_map (λ n. let q : RowAt = record { directory = p.directory; record_number = k; inode = n } in q) o ≡ Some row → IsRow t row
    named k Unused o is has inode within h = absurd (cc)
    named k (Row n name long) None is has inode within h = absurd (cc)
    named k (Row n name long) (Some m) is has inode within h =
        let q : RowAt = record { directory = p.directory; record_number = k; inode = m } in
        let same : q ≡ row = cc in
        let one : n ≡ m = cc in
        let name_is : name ≡ p.name = (bytes_eq-Decides name p.name).0 has in
        let not_dots : is_dots name ≡ false = ap is_dots name_is ∙ place.not_dots in
        let slot : slots_in (outline_of t p.directory) k ≡ Row n name long =
        ap (λ x. slots_in x k) (directory_outline t p.directory dir) ∙ ap (λ xs. slot_in xs k) (sym (directory_slots t p.directory dir)) ∙ is in
        let it : IsRow t q = record {
          directory = dir;
          within = subst (λ xs. k < length xs) (directory_slots t p.directory dir) within;
          names = ap named_by slot ∙ (λ i. if not_dots i then None else Some (one i));
        } in
        subst (IsRow t) same it

    go : (b : Bool) → nat_lt (position_or_len (has_name p.name) (slots_of t p.directory)) (length (slots_of t p.directory)) ≡ b
        → option_and_then (row_in t p.directory) (cond b (Some (position_or_len (has_name p.name) (slots_of t p.directory))) None) ≡ Some row → IsRow t row
    go false is h = absurd (cc)
    go true is h =
        let below = ltb-true (position_or_len (has_name p.name) (slots_of t p.directory)) (length (slots_of t p.directory)) is in
        named (position_or_len (has_name p.name) (slots_of t p.directory)) (get_or (slots_of t p.directory) (position_or_len (has_name p.name) (slots_of t p.directory)) Unused)
        (inode_of_slot (get_or (slots_of t p.directory) (position_or_len (has_name p.name) (slots_of t p.directory)) Unused))
        (unwrap_or-slice_get (slots_of t p.directory) (position_or_len (has_name p.name) (slots_of t p.directory)) Unused)
        (passes_at_first (has_name p.name) (slots_of t p.directory) Unused below) refl below
        (ap (λ s. option_map (λ n. let q : RowAt = record { directory = p.directory; record_number = position_or_len (has_name p.name) (slots_of t p.directory); inode = n } in q) (inode_of_slot s))
        (sym (unwrap_or-slice_get (slots_of t p.directory) (position_or_len (has_name p.name) (slots_of t p.directory)) Unused)) ∙ h)

-- ---- a row that is cleared

-- inodes stay where a long name goes
pub long_inodes_stay : (long : Option ℕ) (e : Edit) (n : ℕ) → entry_of (without_long long e).tree n ≡ entry_of e.tree n
long_inodes_stay None e zero = refl
long_inodes_stay None e (suc n) = refl
long_inodes_stay (Some k) e zero = refl
long_inodes_stay (Some k) e (suc n) = refl

-- a directory with a record cleared
pub cleared_outlines : (s : Setting) (d k : ℕ) (e : Edit) (h : IsDirectoryAt e.tree d) → k < length h.slots → (m : ℕ)
    → outline_of (clear_row s d k e).tree m ≡ set_at d (Dir (set_at k Unused (slot_in h.slots)) h.up) (outline_of e.tree) m
cleared_outlines s d k e h within m =
    let long = long_of_slot (slot_at e.tree d k) in
    let f : Edit = without_long long e in
    let slots = slice_set (slots_of e.tree d) k Unused in
    let there : IsDirectoryAt f.tree d = record { entry = h.entry; slots = h.slots; up = h.up; live = long_inodes_stay long e d ∙ h.live; body = h.body } in
    attr_outlines d (content_changed s.moment) (writing_record s.blocksize d k slots f) m
    ∙ record_outlines s.blocksize d k slots f there m
    ∙ ap (λ xs. set_at d (Dir (slot_in (slice_set xs k Unused)) h.up) (outline_of f.tree) m) (directory_slots e.tree d h)
    ∙ (λ i. set_at d (Dir (λ x. replaced h.slots Unused k x within i) h.up) (λ x. same_outline x i) m)
  where
    same_outline : (x : ℕ) → outline_of (without_long (long_of_slot (slot_at e.tree d k)) e).tree x ≡ outline_of e.tree x
    same_outline x = ap entry_outline (long_inodes_stay (long_of_slot (slot_at e.tree d k)) e x)

-- ---- a row that goes

module _ (s : Setting) (t : Tree) (row : RowAt) (r : IsRooted t) (is : IsRow t row) (silent : (k m : ℕ) → NamesIn (outline_of t) row.inode k m → ⊥)
    (modest : (c i : ℕ) → NamesIn (outline_of t) c i row.inode → ((c ≡ row.directory) → i ≢ row.record_number) → outline_of t row.inode ≡ Plain) where
  abbrev d : ℕ
  d = row.directory

  abbrev k : ℕ
  k = row.record_number

  abbrev n : ℕ
  n = row.inode

  abbrev cleared : Edit
  cleared = clear_row s d k (unchanged t)

  rooted : IsRootedIn (outline_of t)
  rooted = to_rooted t r

  apart : d ≢ n
  apart e = silent k n (subst (λ x. NamesIn (outline_of t) x k n) e is.names)

  at : (m : ℕ) → outline_of cleared.tree m ≡ set_at d (Dir (set_at k Unused (slot_in is.directory.slots)) is.directory.up) (outline_of t) m
  at m = cleared_outlines s d k (unchanged t) is.directory is.within m

  at_d : outline_of cleared.tree d ≡ Dir (set_at k Unused (slot_in is.directory.slots)) is.directory.up
  at_d = at d ∙ set_at-same d (Dir (set_at k Unused (slot_in is.directory.slots)) is.directory.up) (outline_of t)

  elsewhere : (m : ℕ) → m ≢ d → outline_of cleared.tree m ≡ outline_of t m
  elsewhere m ne = at m ∙ set_at-other d (Dir (set_at k Unused (slot_in is.directory.slots)) is.directory.up) (outline_of t) m ne

  -- the row is cleared
  nothing_there : slots_in (outline_of cleared.tree d) k ≡ Unused
  nothing_there = ap (λ x. slots_in x k) at_d ∙ set_at-same k Unused (slot_in is.directory.slots)

  -- another row of n
  Another : ℕ → ℕ → Type 0
  Another c i = NamesIn (outline_of t) c i n × ((c ≡ d) → i ≢ k)

  -- rows but the one that is cleared stay
  row_stays : (c i m : ℕ) → ((c ≡ d) → i ≢ k) → slots_in (outline_of cleared.tree c) i ≡ slots_in (outline_of t c) i
  row_stays c i m other = elim (cases_eq c d) [
    | inl same ↦
        subst (λ x. slots_in (outline_of cleared.tree x) i ≡ slots_in (outline_of t x) i) (sym same)
        (ap (λ x. slots_in x i) at_d ∙ set_at-other k Unused (slot_in is.directory.slots) i (other same) ∙ sym (ap (λ x. slots_in x i) (directory_outline t d is.directory)))
    | inr ne ↦ ap (λ x. slots_in x i) (elsewhere c ne)
  ]

  -- a row that still names n is another one
  still_named : (c i : ℕ) → NamesIn (outline_of cleared.tree) c i n → Another c i
  unfolding Another
  still_named c i names = (ap named_by (sym (row_stays c i n other)) ∙ names, other)
    where
      other : (c ≡ d) → i ≢ k
      other same at_k = let none : named_by Unused ≡ Some n = ap named_by (sym (ap (λ x. slots_in (outline_of cleared.tree x) i) same ∙ ap (slots_in (outline_of cleared.tree d)) at_k ∙ nothing_there)) ∙ names in cc

  another_named : (c i : ℕ) → Another c i → NamesIn (outline_of cleared.tree) c i n
  unfolding Another
  another_named c i (names, other) = ap named_by (row_stays c i n other) ∙ names

  n_live : outline_of t n ≢ Absent
  n_live = rooted.closed n (more k (rooted.reached d (dir_live (outline_of t d) (slot_in is.directory.slots) is.directory.up (directory_outline t d is.directory))) is.names)

  n_there : outline_of cleared.tree n ≢ Absent
  n_there gone = n_live (sym (elsewhere n (λ e. apart (sym e))) ∙ gone)

  -- what the fate gives
  by_fate : (new : Tree) → outline_of new d ≡ outline_of cleared.tree d → ((m : ℕ) → m ≢ n → outline_of new m ≡ outline_of cleared.tree m) → Fate (outline_of t) (outline_of new) d k n → IsRooted new
  by_fate new same_d others fate = from_rooted new (lost_rooted (outline_of t) (outline_of new) d k n rooted (record {
    slots = slot_in is.directory.slots;
    up = is.directory.up;
    was = directory_outline t d is.directory;
    named = is.names;
    now = same_d ∙ at_d;
    others = λ m nd ne. others m ne ∙ elsewhere m nd;
    silent = silent;
    fate = fate;
  }))

  -- no other row names n: it goes
  gone_rooted : ((c i : ℕ) → Another c i → ⊥) → IsRooted (putting n None cleared).tree
  unfolding Another
  gone_rooted none =
      let live = outline_live cleared.tree n n_there in
      let place = live_place cleared.tree n live.0 live.1 in
      let with_none : (m : ℕ) → outline_of (putting n None cleared).tree m ≡ set_at n Absent (outline_of cleared.tree) m = outline-with cleared.tree n None place in
      by_fate (putting n None cleared).tree (with_none d ∙ set_at-other n Absent (outline_of cleared.tree) d apart) (λ m ne. with_none m ∙ set_at-other n Absent (outline_of cleared.tree) m ne)
      (goes (λ c i names. only c i names (cases_eq c d) (cases_eq i k)) (with_none n ∙ set_at-same n Absent (outline_of cleared.tree)))
    where
      only : (c i : ℕ) → NamesIn (outline_of t) c i n → (c ≡ d) ⊎ (c ≢ d) → (i ≡ k) ⊎ (i ≢ k) → (c ≡ d) × (i ≡ k)
      only c i names (inl a) (inl b) = (a, b)
      only c i names (inl a) (inr b) = absurd (none c i (names, λ e. b))
      only c i names (inr a) v = absurd (none c i (names, λ e. absurd (a e)))

  -- another one does: it stays
  kept_rooted : (c i : ℕ) → Another c i → IsRooted (with_attr n (attr_changed s.moment) cleared).tree
  unfolding Another
  kept_rooted c i (names, other) =
      let same : (m : ℕ) → outline_of (with_attr n (attr_changed s.moment) cleared).tree m ≡ outline_of cleared.tree m = attr_outlines n (attr_changed s.moment) cleared in
      by_fate (with_attr n (attr_changed s.moment) cleared).tree (same d) (λ m ne. same m)
      (stays c i names other (modest c i names other) (same n ∙ elsewhere n (λ e. apart (sym e))))

  -- the tree without the row is rooted
  pub row_lost : IsRooted (without_row s t row).tree
  row_lost = go (links_of cleared.tree n == 0) refl
    where
      links : (0 < links_of cleared.tree n → (c : ℕ) × Names cleared.tree c n) × ((c : ℕ) × Names cleared.tree c n → 0 < links_of cleared.tree n)
      links = linked_where_named cleared.tree n

      none : links_of cleared.tree n ≡ 0 → (c i : ℕ) → Another c i → ⊥
      none zero_links c i a = let some = links.1 (c, (i, from_names cleared.tree c i n (another_named c i a))) in omega (arith, zero_links, some)

      positive : (x : ℕ) → (x == 0) ≡ false → 0 < x
      positive zero h = absurd (cc)
      positive (suc x) h = omega arith

      go : (b : Bool) → (links_of cleared.tree n == 0) ≡ b → IsRooted (let e : Edit = if b then putting n None cleared else with_attr n (attr_changed s.moment) cleared in e.tree)
      go true e = gone_rooted (none (eqb-true (links_of cleared.tree n) 0 e))
      go false e = let w = links.0 (positive (links_of cleared.tree n) e) in kept_rooted w.0 w.1.0 (still_named w.0 w.1.0 (to_names cleared.tree w.0 w.1.0 n w.1.1))

-- ---- Remove and RemoveDir

-- a plain inode names nothing
pub plain_silent : (o : ℕ → Outline) (n : ℕ) → o n ≡ Plain → (k m : ℕ) → NamesIn o n k m → ⊥
plain_silent o n is k m names = let nothing : named_by (slots_in Plain k) ≡ Some m = subst (λ x. named_by (slots_in x k) ≡ Some m) is names in cc

-- an inode that a row names is live
pub named_live : (t : Tree) (row : RowAt) → IsRooted t → IsRow t row → outline_of t row.inode ≢ Absent
named_live t row r is =
    let rooted = to_rooted t r in
    rooted.closed row.inode (more row.record_number (rooted.reached row.directory (naming_live (outline_of t) row.directory row.record_number row.inode is.names)) is.names)

-- a bare directory names nothing
pub bare_silent : (t : Tree) (n : ℕ) (h : IsDirectoryAt t n) → is_bare t n ≡ true → (k m : ℕ) → NamesIn (outline_of t) n k m → ⊥
bare_silent t n h bare k m names =
    passes h.slots k (ap (list_all (λ s. is_none (named_by s))) (sym (directory_slots t n h)) ∙ bare) (ap named_by (sym (ap (λ x. slots_in x k) (directory_outline t n h))) ∙ names)
  where
    passes : (xs : List Slot) (k : ℕ) → list_all (λ s. is_none (named_by s)) xs ≡ true → named_by (slot_in xs k) ≡ Some m → ⊥
    passes [] k all h = cc
    passes (x ∷ xs) zero all h = none_named (named_by x) (and_left (is_none (named_by x)) (list_all (λ s. is_none (named_by s)) xs) all) h
      where
        none_named : (o : Option ℕ) → is_none o ≡ true → o ≡ Some m → ⊥
        none_named None a b = cc
        none_named (Some y) a b = cc
    passes (x ∷ xs) (suc k) all h = passes xs k (and_right (is_none (named_by x)) (list_all (λ s. is_none (named_by s)) xs) all) h

-- Remove
pub remove_keeps : (s : Setting) (t : Tree) (path : List ℕ) → KeepsRooted t (remove s t path)
remove_keeps s t path =
    rest_keeps t (place_at t s.base path) (λ p. ok_or (row_at t p) refusal.NoEntry >>= λ row. (refuse_if (is_directory t row.inode) refusal.IsDir >> Ok (Edits true (without_row s t row))))
    (λ p at. rest_keeps t (ok_or (row_at t p) refusal.NoEntry) (λ row. refuse_if (is_directory t row.inode) refusal.IsDir >> Ok (Edits true (without_row s t row)))
    (λ row there. refuse_keeps t (is_directory t row.inode) refusal.IsDir (Ok (Edits true (without_row s t row)))
    (λ no_dir. edit_keeps t true (without_row s t row) (λ r. lost r row (row_is t p row (place_facts t s.base path p at) (ok_some (row_at t p) refusal.NoEntry row there)) no_dir))))
  where
    lost : IsRooted t → (row : RowAt) → IsRow t row → is_directory t row.inode ≡ false → IsRooted (without_row s t row).tree
    lost r row is no_dir =
        let plain = plain_outline t row.inode (named_live t row r is) no_dir in
        row_lost s t row r is (plain_silent (outline_of t) row.inode plain) (λ c i names other. plain)

-- RemoveDir
pub remove_dir_keeps : (s : Setting) (t : Tree) (path : List ℕ) → KeepsRooted t (remove_dir s t path)
remove_dir_keeps s t path =
    rest_keeps t (place_at t s.base path)
    (λ p. ok_or (row_at t p) refusal.NoEntry >>= λ row. (refuse_if (not (is_directory t row.inode)) refusal.NotDir >> (refuse_if (not (is_bare t row.inode)) refusal.NotEmpty >> Ok (Edits true (without_row s t row)))))
    (λ p at. rest_keeps t (ok_or (row_at t p) refusal.NoEntry)
    (λ row. refuse_if (not (is_directory t row.inode)) refusal.NotDir >> (refuse_if (not (is_bare t row.inode)) refusal.NotEmpty >> Ok (Edits true (without_row s t row))))
    (λ row there. refuse_keeps t (not (is_directory t row.inode)) refusal.NotDir (refuse_if (not (is_bare t row.inode)) refusal.NotEmpty >> Ok (Edits true (without_row s t row)))
    (λ dir. refuse_keeps t (not (is_bare t row.inode)) refusal.NotEmpty (Ok (Edits true (without_row s t row)))
    (λ bare. edit_keeps t true (without_row s t row)
    (λ r. lost r row (row_is t p row (place_facts t s.base path p at) (ok_some (row_at t p) refusal.NoEntry row there)) (not_false (is_directory t row.inode) dir) (not_false (is_bare t row.inode) bare))))))
  where
    lost : IsRooted t → (row : RowAt) → IsRow t row → is_directory t row.inode ≡ true → is_bare t row.inode ≡ true → IsRooted (without_row s t row).tree
    lost r row is dir bare =
        let h = directory_at t row.inode dir in
        row_lost s t row r is (bare_silent t row.inode h bare)
        (λ c i names other. (let one = (to_rooted t r).once c i row.directory row.record_number row.inode h.up names is.names (record { slots = slot_in h.slots; is = directory_outline t row.inode h }) in
        absurd (other one.0 one.1)))
