-- A name that moves onto another one leaves a tree rooted: first the other row goes, then the moved one takes its place.
use Rattle.std.proofs.Common.{◌≡◌, ℕ, zero, suc, ◌<◌, ◌⊎◌, inl, inr, List, length, refl, sym, ap, ◌∙◌, subst, arith}
use Rattle.std.specs.Prelude.{◌≢◌, Bool, true, false, ◌&&◌, Option, Some, None, ◌==◌, if◌then◌else◌, slice_set, unwrap_or}
use Rattle.std.proofs.lemmas.Bool.{cases_eq, cases_lt, eqb-true}
use Rattle.std.proofs.lemmas.Option.{slice_get_past}
use Rattle.qx_model.specs.Tree.{Row, Slot, Tree, Unused, is_dots, links_of, named_by, slots_of}
use Rattle.qx_model.specs.Rooted.{IsRooted}
use Rattle.qx_model.specs.Directories.{is_directory, is_within}
use Rattle.qx_model.specs.Edits.{Edit, Setting, attr_changed, clear_row, content_changed, lose_row, point_row, putting, writing_record, pointed, unchanged, with_attr}
use Rattle.qx_model.specs.LostNames.{RowAt, moved_onto}
use Rattle.qx_model.proofs.Outlines.{Absent, AreRowsIn, Dir, IsDir, IsRootedIn, NamesIn, Outline, Plain, from_names, outline_live, outline_of, slot_in, slots_in, to_names, to_rooted}
use Rattle.qx_model.proofs.CountedRows.{linked_where_named}
use Rattle.qx_model.proofs.AddedRows.{set_at, set_at-other, set_at-same}
use Rattle.qx_model.proofs.MovedRows.{Apart, ReachedPast, begin, beyond}
use Rattle.qx_model.proofs.DirectoryPaths.{past_differs}
use Rattle.qx_model.proofs.EditOutlines.{HasPlace, IsDirectoryAt, directory_outline, directory_slots, live_place, outline-with, outline_directory, record_outlines, replaced}
use Rattle.qx_model.proofs.RootedContents.{attr_outlines}
use Rattle.qx_model.proofs.RootedRemovals.{IsRow, cleared_outlines, named_live, row_lost}
use Rattle.qx_model.proofs.RootedMoves.{PlacesRow, dir_is, dir_was, elsewhere, live_is, live_was, not_named, past_of, place_rooted, rest_stays, slot_there}

-- ---- onto a row that is there

-- directory d with record k naming n
pub pointed_outlines : (s : Setting) (d k n : ℕ) (e : Edit) (h : IsDirectoryAt e.tree d) → k < length h.slots → (m : ℕ)
    → outline_of (point_row s d k n e).tree m ≡ set_at d (Dir (set_at k (pointed n (slot_in h.slots k)) (slot_in h.slots)) h.up) (outline_of e.tree) m
pointed_outlines s d k n e h within m =
    let slots : List Slot → List Slot = λ xs. slice_set xs k (pointed n (slot_in xs k)) in
    attr_outlines d (content_changed s.moment) (writing_record s.blocksize d k (slots (slots_of e.tree d)) e) m
    ∙ record_outlines s.blocksize d k (slots (slots_of e.tree d)) e h m
    ∙ ap (λ xs. set_at d (Dir (slot_in (slots xs)) h.up) (outline_of e.tree) m) (directory_slots e.tree d h)
    ∙ (λ i. set_at d (Dir (λ x. replaced h.slots (pointed n (slot_in h.slots k)) k x within i) h.up) (outline_of e.tree) m)

-- an inode that lost a row goes exactly where no row names it any more, in whichever tree the rows are the same
lost_alike : (s : Setting) (n : ℕ) (e f : Edit) → ((b k : ℕ) → (NamesIn (outline_of e.tree) b k n → NamesIn (outline_of f.tree) b k n) × (NamesIn (outline_of f.tree) b k n → NamesIn (outline_of e.tree) b k n))
    → outline_of e.tree n ≡ outline_of f.tree n → outline_of e.tree n ≢ Absent
    → ((m : ℕ) → m ≢ n → outline_of (lose_row s n e).tree m ≡ outline_of e.tree m) × ((m : ℕ) → m ≢ n → outline_of (lose_row s n f).tree m ≡ outline_of f.tree m) × (outline_of (lose_row s n e).tree n ≡ outline_of (lose_row s n f).tree n)
lost_alike s n e f alike same live = go (links_of e.tree n == 0) refl (links_of f.tree n == 0) refl
  where
    positive : (x : ℕ) → (x == 0) ≡ false → 0 < x
    positive zero h = absurd (cc)
    positive (suc x) h = omega arith

    named_there : (u v : Tree) → ((b k : ℕ) → NamesIn (outline_of u) b k n → NamesIn (outline_of v) b k n) → (links_of u n == 0) ≡ false → (links_of v n == 0) ≡ true → ⊥
    named_there u v to some none =
        let w = (linked_where_named u n).0 (positive (links_of u n) some) in
        let there = (linked_where_named v n).1 (w.0, (w.1.0, from_names v w.0 w.1.0 n (to w.0 w.1.0 (to_names u w.0 w.1.0 n w.1.1)))) in
        let zero_links = eqb-true (links_of v n) 0 none in
        omega (arith, there, zero_links)

    place_e : HasPlace e.tree n
    place_e = let l = outline_live e.tree n live in live_place e.tree n l.0 l.1

    place_f : HasPlace f.tree n
    place_f = let l = outline_live f.tree n (subst (λ x. x ≢ Absent) same live) in live_place f.tree n l.0 l.1

    lost : Bool → Edit → Edit
    lost b e = if b then putting n None e else with_attr n (attr_changed s.moment) e

    go : (a : Bool) → (links_of e.tree n == 0) ≡ a → (b : Bool) → (links_of f.tree n == 0) ≡ b
        → ((m : ℕ) → m ≢ n → outline_of (let u : Edit = if a then putting n None e else with_attr n (attr_changed s.moment) e in u.tree) m ≡ outline_of e.tree m)
        × ((m : ℕ) → m ≢ n → outline_of (let u : Edit = if b then putting n None f else with_attr n (attr_changed s.moment) f in u.tree) m ≡ outline_of f.tree m)
        × (outline_of (let u : Edit = if a then putting n None e else with_attr n (attr_changed s.moment) e in u.tree) n ≡ outline_of (let u : Edit = if b then putting n None f else with_attr n (attr_changed s.moment) f in u.tree) n)
    go true x true y = (
      λ m ne. outline-with e.tree n None place_e m ∙ set_at-other n Absent (outline_of e.tree) m ne,
      λ m ne. outline-with f.tree n None place_f m ∙ set_at-other n Absent (outline_of f.tree) m ne,
      outline-with e.tree n None place_e n ∙ set_at-same n Absent (outline_of e.tree) ∙ sym (outline-with f.tree n None place_f n ∙ set_at-same n Absent (outline_of f.tree)),
    )
    go false x false y = (
      λ m ne. attr_outlines n (attr_changed s.moment) e m,
      λ m ne. attr_outlines n (attr_changed s.moment) f m,
      attr_outlines n (attr_changed s.moment) e n ∙ same ∙ sym (attr_outlines n (attr_changed s.moment) f n),
    )
    go true x false y = absurd (named_there f.tree e.tree (λ b k. (alike b k).1) y x)
    go false x true y = absurd (named_there e.tree f.tree (λ b k. (alike b k).0) x y)

-- a slot that names something is a row
record IsNaming (x : Slot) (m : ℕ) : Type 0 where
  name : List ℕ
  long : Option ℕ
  row : x ≡ Row m name long
  not_dots : is_dots name ≡ false

naming : (x : Slot) (m : ℕ) → named_by x ≡ Some m → IsNaming x m
naming Unused m h = absurd (cc)
naming (Row n name long) m h = go (is_dots name) refl h
  where
    go : (b : Bool) → is_dots name ≡ b → (if b then None else Some n) ≡ Some m → IsNaming (Row n name long) m
    go true is h = absurd (cc)
    go false is h = let same : n ≡ m = cc in record { name = name; long = long; row = λ i. Row (same i) name long; not_dots = is }

-- and stands within its list
naming_within : (xs : List Slot) (j m : ℕ) → named_by (slot_in xs j) ≡ Some m → j < length xs
naming_within xs j m h = elim (cases_lt j (length xs)) [
  | inl below ↦ below
  | inr past ↦ absurd (clash (ap named_by (sym (ap (λ o. unwrap_or o Unused) (slice_get_past xs j past))) ∙ h))
]
  where
    clash : named_by Unused ≡ Some m → ⊥
    clash h = cc

module _ (s : Setting) (t : Tree) (r : IsRooted t) (row to : RowAt) (is : IsRow t row) (is_to : IsRow t to) (differ : to.inode ≢ row.inode)
    (silent : (k x : ℕ) → NamesIn (outline_of t) to.inode k x → ⊥)
    (modest : (b k : ℕ) → NamesIn (outline_of t) b k to.inode → ((b ≡ to.directory) → k ≢ to.record_number) → outline_of t to.inode ≡ Plain)
    (apart : (is_directory t row.inode && is_within t row.inode to.directory) ≡ false) where
  abbrev d : ℕ
  d = row.directory

  abbrev j : ℕ
  j = row.record_number

  abbrev n : ℕ
  n = row.inode

  abbrev c : ℕ
  c = to.directory

  abbrev i : ℕ
  i = to.record_number

  abbrev m : ℕ
  m = to.inode

  abbrev o : ℕ → Outline
  o = outline_of t

  rooted : IsRootedIn (outline_of t)
  rooted = to_rooted t r

  -- the two places, and what stands there
  at_c : IsNaming (slots_in (outline_of t c) i) m
  at_c = naming (slots_in (outline_of t c) i) m is_to.names

  dir_c : o c ≡ Dir (slot_in is_to.directory.slots) is_to.directory.up
  dir_c = directory_outline t c is_to.directory

  away : Apart c i d j
  away e x = let both : Some m ≡ Some n = sym is_to.names ∙ subst (λ z. NamesIn (outline_of t) z i n) (sym e) (subst (λ z. NamesIn (outline_of t) d z n) (sym x) is.names) in let same : m ≡ n = cc in differ same

  away_back : Apart d j c i
  away_back e x = away (sym e) (sym x)

  c_not_m : c ≢ m
  c_not_m e = silent i m (subst (λ z. NamesIn (outline_of t) z i m) e is_to.names)

  d_not_m : d ≢ m
  d_not_m e = silent j n (subst (λ z. NamesIn (outline_of t) z j n) e is.names)

  m_not_top : m ≢ 1
  m_not_top e = rooted.no_top c i (subst (λ z. NamesIn (outline_of t) c i z) e is_to.names)

  n_not_top : n ≢ 1
  n_not_top e = rooted.no_top d j (subst (λ z. NamesIn (outline_of t) d j z) e is.names)

  past_c : ReachedPast (outline_of t) n c
  past_c = past_of t n c is_to.directory.up r (record { slots = slot_in is_to.directory.slots; is = dir_c }) (named_live t row r is) n_not_top apart

  c_not_n : c ≢ n
  c_not_n = past_differs (outline_of t) n c past_c

  d_not_n : d ≢ n
  d_not_n = not_named t row r is

  -- ---- the tree whose row at the place is cleared

  abbrev cleared : Edit
  cleared = clear_row s c i (unchanged t)

  abbrev f : ℕ → Slot
  f = slot_in is_to.directory.slots

  at_cleared : (b : ℕ) → outline_of cleared.tree b ≡ set_at c (Dir (set_at i Unused (slot_in is_to.directory.slots)) is_to.directory.up) (outline_of t) b
  at_cleared b = cleared_outlines s c i (unchanged t) is_to.directory is_to.within b

  cleared_rest : (b k : ℕ) → Apart b k c i → slots_in (outline_of cleared.tree b) k ≡ slots_in (outline_of t b) k
  cleared_rest = rest_stays (outline_of t) (outline_of cleared.tree) c f (set_at i Unused f) is_to.directory.up dir_c at_cleared i (λ k ne. set_at-other i Unused f k ne)

  cleared_there : slots_in (outline_of cleared.tree c) i ≡ Unused
  cleared_there = slot_there (outline_of t) (outline_of cleared.tree) c f (set_at i Unused f) is_to.directory.up dir_c at_cleared i ∙ set_at-same i Unused f

  cleared_else : (b : ℕ) → b ≢ c → outline_of cleared.tree b ≡ outline_of t b
  cleared_else = elsewhere (outline_of t) (outline_of cleared.tree) c f (set_at i Unused f) is_to.directory.up dir_c at_cleared

  -- ---- the tree whose row is pointed, and the old one cleared

  abbrev pointing : Edit
  pointing = point_row s c i n (unchanged t)

  at_pointing : (b : ℕ) → outline_of pointing.tree b ≡ set_at c (Dir (set_at i (pointed n (slot_in is_to.directory.slots i)) (slot_in is_to.directory.slots)) is_to.directory.up) (outline_of t) b
  at_pointing b = pointed_outlines s c i n (unchanged t) is_to.directory is_to.within b

  pointing_rest : (b k : ℕ) → Apart b k c i → slots_in (outline_of pointing.tree b) k ≡ slots_in (outline_of t b) k
  pointing_rest = rest_stays (outline_of t) (outline_of pointing.tree) c f (set_at i (pointed n (f i)) f) is_to.directory.up dir_c at_pointing i (λ k ne. set_at-other i (pointed n (f i)) f k ne)

  pointing_there : slots_in (outline_of pointing.tree c) i ≡ Row n at_c.name at_c.long
  pointing_there =
      slot_there (outline_of t) (outline_of pointing.tree) c f (set_at i (pointed n (f i)) f) is_to.directory.up dir_c at_pointing i ∙ set_at-same i (pointed n (f i)) f
      ∙ ap (pointed n) (sym (ap (λ x. slots_in x i) dir_c) ∙ at_c.row)

  pointing_else : (b : ℕ) → b ≢ c → outline_of pointing.tree b ≡ outline_of t b
  pointing_else = elsewhere (outline_of t) (outline_of pointing.tree) c f (set_at i (pointed n (f i)) f) is_to.directory.up dir_c at_pointing

  pointing_dir : IsDir (outline_of pointing.tree) d is.directory.up
  pointing_dir = dir_is (outline_of t) (outline_of pointing.tree) c f (set_at i (pointed n (f i)) f) is_to.directory.up dir_c at_pointing d is.directory.up
      (record { slots = slot_in is.directory.slots; is = directory_outline t d is.directory })

  later_d : IsDirectoryAt pointing.tree d
  later_d = (outline_directory pointing.tree d pointing_dir.slots is.directory.up pointing_dir.is).0

  was_later : outline_of pointing.tree d ≡ Dir (slot_in later_d.slots) later_d.up
  was_later = directory_outline pointing.tree d later_d

  later_within : j < length later_d.slots
  later_within = naming_within later_d.slots j n (ap named_by (sym (ap (λ x. slots_in x j) was_later) ∙ pointing_rest d j away_back) ∙ is.names)

  abbrev both : Edit
  both = clear_row s d j pointing

  at_both : (b : ℕ) → outline_of both.tree b ≡ set_at d (Dir (set_at j Unused (slot_in later_d.slots)) later_d.up) (outline_of pointing.tree) b
  at_both b = cleared_outlines s d j pointing later_d later_within b

  both_rest : (b k : ℕ) → Apart b k d j → slots_in (outline_of both.tree b) k ≡ slots_in (outline_of pointing.tree b) k
  both_rest = rest_stays (outline_of pointing.tree) (outline_of both.tree) d (slot_in later_d.slots) (set_at j Unused (slot_in later_d.slots)) later_d.up was_later at_both j (λ k ne. set_at-other j Unused (slot_in later_d.slots) k ne)

  both_there : slots_in (outline_of both.tree d) j ≡ Unused
  both_there = slot_there (outline_of pointing.tree) (outline_of both.tree) d (slot_in later_d.slots) (set_at j Unused (slot_in later_d.slots)) later_d.up was_later at_both j ∙ set_at-same j Unused (slot_in later_d.slots)

  both_else : (b : ℕ) → b ≢ d → outline_of both.tree b ≡ outline_of pointing.tree b
  both_else = elsewhere (outline_of pointing.tree) (outline_of both.tree) d (slot_in later_d.slots) (set_at j Unused (slot_in later_d.slots)) later_d.up was_later at_both

  -- from the tree to the pointed and cleared one
  forth_live : (b : ℕ) → outline_of t b ≢ Absent → outline_of both.tree b ≢ Absent
  forth_live b h = live_is (outline_of pointing.tree) (outline_of both.tree) d (slot_in later_d.slots) (set_at j Unused (slot_in later_d.slots)) later_d.up was_later at_both b
      (live_is (outline_of t) (outline_of pointing.tree) c f (set_at i (pointed n (f i)) f) is_to.directory.up dir_c at_pointing b h)

  back_live : (b : ℕ) → outline_of both.tree b ≢ Absent → outline_of t b ≢ Absent
  back_live b h = live_was (outline_of t) (outline_of pointing.tree) c f (set_at i (pointed n (f i)) f) is_to.directory.up dir_c at_pointing b
      (live_was (outline_of pointing.tree) (outline_of both.tree) d (slot_in later_d.slots) (set_at j Unused (slot_in later_d.slots)) later_d.up was_later at_both b h)

  back_dir : (b p : ℕ) → IsDir (outline_of both.tree) b p → IsDir (outline_of t) b p
  back_dir b p h = dir_was (outline_of t) (outline_of pointing.tree) c f (set_at i (pointed n (f i)) f) is_to.directory.up dir_c at_pointing b p
      (dir_was (outline_of pointing.tree) (outline_of both.tree) d (slot_in later_d.slots) (set_at j Unused (slot_in later_d.slots)) later_d.up was_later at_both b p h)

  forth_dir : (b p : ℕ) → IsDir (outline_of t) b p → IsDir (outline_of both.tree) b p
  forth_dir b p h = dir_is (outline_of pointing.tree) (outline_of both.tree) d (slot_in later_d.slots) (set_at j Unused (slot_in later_d.slots)) later_d.up was_later at_both b p
      (dir_is (outline_of t) (outline_of pointing.tree) c f (set_at i (pointed n (f i)) f) is_to.directory.up dir_c at_pointing b p h)

  -- ---- both lose m alike

  place_cases : (b k e l : ℕ) → ((b ≡ e) × (k ≡ l)) ⊎ Apart b k e l
  place_cases b k e l = elim (cases_eq b e) [
    | inl same ↦ elim (cases_eq k l) [ inl at ↦ inl (same, at) | inr ne ↦ inr (λ x. ne) ]
    | inr ne ↦ inr (λ x. absurd (ne x))
  ]

  differ_some : Some n ≡ Some m → ⊥
  differ_some h = let same : m ≡ n = cc in differ same

  none_some : (x : ℕ) → named_by Unused ≡ Some x → ⊥
  none_some x h = cc

  to_both : (b k : ℕ) → NamesIn (outline_of cleared.tree) b k m → NamesIn (outline_of both.tree) b k m
  to_both b k names = elim (place_cases b k c i) [
    | inl at ↦ absurd (none_some m (ap named_by (sym cleared_there) ∙ subst (λ z. NamesIn (outline_of cleared.tree) c z m) at.1 (subst (λ z. NamesIn (outline_of cleared.tree) z k m) at.0 names)))
    | inr off ↦ elim (place_cases b k d j) [
      | inl at ↦ absurd (differ_some (sym is.names ∙ ap named_by (sym (cleared_rest d j away_back)) ∙ subst (λ z. NamesIn (outline_of cleared.tree) d z m) at.1 (subst (λ z. NamesIn (outline_of cleared.tree) z k m) at.0 names)))
      | inr gone ↦ ap named_by (both_rest b k gone ∙ pointing_rest b k off ∙ sym (cleared_rest b k off)) ∙ names
    ]
  ]

  from_both : (b k : ℕ) → NamesIn (outline_of both.tree) b k m → NamesIn (outline_of cleared.tree) b k m
  from_both b k names = elim (place_cases b k d j) [
    | inl at ↦ absurd (none_some m (ap named_by (sym both_there) ∙ subst (λ z. NamesIn (outline_of both.tree) d z m) at.1 (subst (λ z. NamesIn (outline_of both.tree) z k m) at.0 names)))
    | inr gone ↦ elim (place_cases b k c i) [
      | inl at ↦ absurd (differ_some (sym (pointing_names) ∙ ap named_by (sym (both_rest c i away)) ∙ subst (λ z. NamesIn (outline_of both.tree) c z m) at.1 (subst (λ z. NamesIn (outline_of both.tree) z k m) at.0 names)))
      | inr off ↦ ap named_by (cleared_rest b k off ∙ sym (pointing_rest b k off) ∙ sym (both_rest b k gone)) ∙ names
    ]
  ]
    where
      pointing_names : named_by (slots_in (outline_of pointing.tree c) i) ≡ Some n
      pointing_names = ap named_by pointing_there ∙ (λ x. if at_c.not_dots x then None else Some n)

  m_live : outline_of t m ≢ Absent
  m_live = named_live t to r is_to

  same_m : outline_of cleared.tree m ≡ outline_of both.tree m
  same_m = cleared_else m (λ e. c_not_m (sym e)) ∙ sym (both_else m (λ e. d_not_m (sym e)) ∙ pointing_else m (λ e. c_not_m (sym e)))

  cleared_live : outline_of cleared.tree m ≢ Absent
  cleared_live = subst (λ x. x ≢ Absent) (sym (cleared_else m (λ e. c_not_m (sym e)))) m_live

  -- the tree without the old row at the place, and the tree of the move
  abbrev lost : Edit
  lost = lose_row s m cleared

  abbrev final : Edit
  final = lose_row s m both

  lost_is : (b : ℕ) → b ≢ m → outline_of lost.tree b ≡ outline_of cleared.tree b
  lost_is = (lost_alike s m cleared both (λ b k. (to_both b k, from_both b k)) same_m cleared_live).0

  final_is : (b : ℕ) → b ≢ m → outline_of final.tree b ≡ outline_of both.tree b
  final_is = (lost_alike s m cleared both (λ b k. (to_both b k, from_both b k)) same_m cleared_live).1

  m_alike : outline_of lost.tree m ≡ outline_of final.tree m
  m_alike = (lost_alike s m cleared both (λ b k. (to_both b k, from_both b k)) same_m cleared_live).2

  lost_rooted_in : IsRootedIn (outline_of lost.tree)
  lost_rooted_in = to_rooted lost.tree (row_lost s t to r is_to silent modest)

  n_not_m : n ≢ m
  n_not_m e = differ (sym e)

  -- ways past n don't use the row that goes
  past_keeps : {x : ℕ} → ReachedPast (outline_of t) n x → (x ≡ m) ⊎ ReachedPast (outline_of lost.tree) n x
  past_keeps (begin ne) = inr (begin ne)
  past_keeps (beyond {b} {m = x} k h names ne) = go (cases_eq x m) (past_keeps h)
    where
      other : x ≢ m → Apart b k c i
      other nx e at =
          let one : Some x ≡ Some m = sym (subst (λ z. NamesIn (outline_of t) c z x) at (subst (λ z. NamesIn (outline_of t) z k x) e names)) ∙ is_to.names in
          let same : x ≡ m = cc in
          nx same

      b_not_m : b ≢ m
      b_not_m e = silent k x (subst (λ z. NamesIn (outline_of t) z k x) e names)

      go : (x ≡ m) ⊎ (x ≢ m) → (b ≡ m) ⊎ ReachedPast (outline_of lost.tree) n b → (x ≡ m) ⊎ ReachedPast (outline_of lost.tree) n x
      go (inl e) u = inl e
      go (inr nx) (inl e) = absurd (b_not_m e)
      go (inr nx) (inr w) = inr (beyond k w (ap named_by (ap (λ z. slots_in z k) (lost_is b b_not_m) ∙ cleared_rest b k (other nx)) ∙ names) ne)

  past_lost : ReachedPast (outline_of lost.tree) n c
  past_lost = elim (past_keeps past_c) [ inl e ↦ absurd (c_not_m e) | inr w ↦ w ]

  rows_c : AreRowsIn c is_to.directory.up (slots_in (outline_of t c))
  rows_c = rooted.rows c is_to.directory.up (record { slots = slot_in is_to.directory.slots; is = dir_c })

  places : PlacesRow (outline_of lost.tree) (outline_of final.tree) d j c i n at_c.name at_c.long
  places = record {
    named = ap named_by (ap (λ z. slots_in z j) (lost_is d d_not_m) ∙ cleared_rest d j away_back) ∙ is.names;
    new_row = ap (λ z. slots_in z i) (final_is c c_not_m) ∙ both_rest c i away ∙ pointing_there;
    old_row = λ x. ap (λ z. slots_in z j) (final_is d d_not_m) ∙ both_there;
    free = λ x. ap (λ z. slots_in z i) (lost_is c c_not_m) ∙ cleared_there;
    others = λ b k ne a1 a2. others_of b k a1 a2 (cases_eq b m);
    live = λ b h. live_of b h (cases_eq b m);
    stays = λ b h. stays_of b h (cases_eq b m);
    dirs = λ b p ne h. dirs_of b p h (cases_eq b m);
    root = (let h = forth_dir 1 1 rooted.top in record { slots = h.slots; is = final_is 1 (λ e. m_not_top (sym e)) ∙ h.is });
    same = final_is n n_not_m ∙ both_else n (λ e. d_not_n (sym e)) ∙ pointing_else n (λ e. c_not_n (sym e)) ∙ sym (lost_is n n_not_m ∙ cleared_else n (λ e. c_not_n (sym e)));
    to_another = c_not_n;
    from_another = d_not_n;
    past = past_lost;
    plain = rows_c.plain i m at_c.name at_c.long at_c.row;
    not_dots = at_c.not_dots;
    unnamed = λ k x other h. unnamed_of k x other (ap (λ z. slots_in z k) (sym (lost_is c c_not_m)) ∙ h) (cases_eq k i);
  }
    where
      others_of : (b k : ℕ) → Apart b k c i → Apart b k d j → (b ≡ m) ⊎ (b ≢ m) → slots_in (outline_of final.tree b) k ≡ slots_in (outline_of lost.tree b) k
      others_of b k a1 a2 (inl e) = subst (λ z. slots_in (outline_of final.tree z) k ≡ slots_in (outline_of lost.tree z) k) (sym e) (ap (λ z. slots_in z k) (sym m_alike))
      others_of b k a1 a2 (inr ne) =
          ap (λ z. slots_in z k) (final_is b ne) ∙ both_rest b k a2 ∙ pointing_rest b k a1 ∙ sym (ap (λ z. slots_in z k) (lost_is b ne) ∙ cleared_rest b k a1)

      cleared_forth : (b : ℕ) → outline_of t b ≢ Absent → outline_of cleared.tree b ≢ Absent
      cleared_forth = live_is (outline_of t) (outline_of cleared.tree) c f (set_at i Unused f) is_to.directory.up dir_c at_cleared

      cleared_back : (b : ℕ) → outline_of cleared.tree b ≢ Absent → outline_of t b ≢ Absent
      cleared_back = live_was (outline_of t) (outline_of cleared.tree) c f (set_at i Unused f) is_to.directory.up dir_c at_cleared

      live_of : (b : ℕ) → outline_of final.tree b ≢ Absent → (b ≡ m) ⊎ (b ≢ m) → outline_of lost.tree b ≢ Absent
      live_of b h (inl e) = subst (λ z. outline_of lost.tree z ≢ Absent) (sym e) (subst (λ z. z ≢ Absent) (sym m_alike) (subst (λ z. outline_of final.tree z ≢ Absent) e h))
      live_of b h (inr ne) = subst (λ z. z ≢ Absent) (sym (lost_is b ne)) (cleared_forth b (back_live b (subst (λ z. z ≢ Absent) (final_is b ne) h)))

      stays_of : (b : ℕ) → outline_of lost.tree b ≢ Absent → (b ≡ m) ⊎ (b ≢ m) → outline_of final.tree b ≢ Absent
      stays_of b h (inl e) = subst (λ z. outline_of final.tree z ≢ Absent) (sym e) (subst (λ z. z ≢ Absent) m_alike (subst (λ z. outline_of lost.tree z ≢ Absent) e h))
      stays_of b h (inr ne) = subst (λ z. z ≢ Absent) (sym (final_is b ne)) (forth_live b (cleared_back b (subst (λ z. z ≢ Absent) (lost_is b ne) h)))

      dirs_of : (b p : ℕ) → IsDir (outline_of final.tree) b p → (b ≡ m) ⊎ (b ≢ m) → IsDir (outline_of lost.tree) b p
      dirs_of b p h (inl e) = record { slots = h.slots; is = ap (outline_of lost.tree) e ∙ m_alike ∙ ap (outline_of final.tree) (sym e) ∙ h.is }
      dirs_of b p h (inr ne) =
          let old = back_dir b p (record { slots = h.slots; is = sym (final_is b ne) ∙ h.is }) in
          let now = dir_is (outline_of t) (outline_of cleared.tree) c f (set_at i Unused f) is_to.directory.up dir_c at_cleared b p old in
          record { slots = now.slots; is = lost_is b ne ∙ now.is }

      unnamed_of : (k x : ℕ) (other : Option ℕ) → slots_in (outline_of cleared.tree c) k ≡ Row x at_c.name other → (k ≡ i) ⊎ (k ≢ i) → ⊥
      unnamed_of k x other h (inl e) = clash (sym (ap (slots_in (outline_of cleared.tree c)) e ∙ cleared_there) ∙ h)
        where
          clash : Unused ≡ Row x at_c.name other → ⊥
          clash h = cc
      unnamed_of k x other h (inr ne) = ne (rows_c.differ k i x m at_c.name other at_c.long (sym (cleared_rest c k (λ e. ne)) ∙ h) at_c.row)

  -- a move onto a row that is there
  pub moved_onto_rooted : IsRooted (moved_onto s t row to).tree
  moved_onto_rooted = place_rooted s (outline_of lost.tree) lost_rooted_in row c i at_c.name at_c.long final places
