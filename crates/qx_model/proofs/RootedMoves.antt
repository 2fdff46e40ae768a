-- A name that moves leaves a tree rooted.
use Rattle.std.proofs.Common.{◌≡◌, ℕ, ◌<◌, ◌≤◌, ◌⊎◌, inl, inr, List, [], ◌∷◌, length, refl, sym, ap, ◌∙◌, subst, arith, get_or}
use Rattle.std.specs.Prelude.{◌≢◌, IsTrue, Bool, true, false, not, ◌&&◌, Option, Some, is_some, ◌==◌, if◌then◌else◌, option_map, slice_set, unwrap_or}
use Rattle.std.specs.List.{position_or_len}
use Rattle.std.proofs.lemmas.Bool.{cases_eq, cases_lt, eqb-true}
use Rattle.std.proofs.lemmas.List.Sums.{fails_before_first, passes_at_first}
use Rattle.std.proofs.lemmas.Option.{slice_get_past, unwrap_or-slice_get}
use Rattle.std.proofs.lemmas.Slice.Eq.{bytes_eq-Decides}
use Rattle.qx_geom.proofs.Truths.{true_or_false}
use Rattle.qx_model.specs.Tree.{Entry, Row, Slot, Tree, Unused, entry_of, is_dots, named_by, slots_of}
use Rattle.qx_model.specs.Rooted.{IsRooted, is_plain}
use Rattle.qx_model.specs.Directories.{has_name, inode_named, is_directory, is_unused, is_within}
use Rattle.qx_model.specs.Paths.{Place}
use Rattle.qx_model.specs.Edits.{Edit, Setting, add_row, attr_changed, clear_row, leaf_of_record, move_parent, number_for, pointed, unchanged, with_parent, with_slots}
use Rattle.qx_model.specs.LostNames.{RowAt, moved, moved_to}
use Rattle.qx_model.proofs.Outlines.{Absent, AreRowsIn, Dir, IsDir, IsRootedIn, NamesIn, Outline, Plain, entry_outline, from_rooted, outline_of, set_past, slot_in, slots_in, to_rooted}
use Rattle.qx_model.proofs.AddedRows.{dir_live, dir_parent, set_at, set_at-other, set_at-same}
use Rattle.qx_model.proofs.MovedRows.{Apart, ReachedPast, moved_rooted}
use Rattle.qx_model.proofs.DirectoryPaths.{no_self, past_differs, past_silent, reached_past}
use Rattle.qx_model.proofs.EditOutlines.{IsDirectoryAt, added_outlines, directory_at, directory_outline, directory_parent, directory_slots, live_place, outline-with, outline_directory, replaced, unused_place}
use Rattle.qx_model.proofs.Places.{IsPlace, not_taken}
use Rattle.qx_model.proofs.RootedContents.{attr_rooted}
use Rattle.qx_model.proofs.RootedNames.{plain_outline}
use Rattle.qx_model.proofs.RootedRemovals.{IsRow, cleared_outlines, named_live, plain_silent}

-- ---- another parent

-- the slots of directory n with its `..` pointed to q, where it had one
abbrev pub dots_at : List Slot → ℕ
dots_at xs = position_or_len (has_name (46 ∷ 46 ∷ [])) xs

-- those slots, as a list
abbrev pub repointed : ℕ → List Slot → List Slot
repointed q xs = slice_set xs (dots_at xs) (pointed q (slot_in xs (dots_at xs)))

module _ (n p q : ℕ) (xs : List Slot) (rows : AreRowsIn n p (slot_in xs)) where
  abbrev k : ℕ
  k = dots_at xs

  -- the row at that place is a `..`
  at_dots : k < length xs → (m : ℕ) × (l : Option ℕ) × (slot_in xs k ≡ Row m (46 ∷ 46 ∷ []) l)
  at_dots below = named (slot_in xs k) refl (ap (has_name (46 ∷ 46 ∷ [])) (unwrap_or-slice_get xs k Unused) ∙ passes_at_first (has_name (46 ∷ 46 ∷ [])) xs Unused below)
    where
      named : (s : Slot) → slot_in xs k ≡ s → has_name (46 ∷ 46 ∷ []) s ≡ true → (m : ℕ) × (l : Option ℕ) × (slot_in xs k ≡ Row m (46 ∷ 46 ∷ []) l)
      named Unused is has = absurd (cc)
      named (Row m name l) is has = let same : name ≡ 46 ∷ 46 ∷ [] = (bytes_eq-Decides name (46 ∷ 46 ∷ [])).0 has in (m, l, is ∙ (λ i. Row m (same i) l))

  -- a row named `..` stands at that place
  no_dots_before : (j m : ℕ) (l : Option ℕ) → slot_in xs j ≡ Row m (46 ∷ 46 ∷ []) l → (j ≡ k) × (k < length xs)
  no_dots_before j m l is = go (cases_lt k (length xs))
    where
      within : j < length xs
      within = elim (cases_lt j (length xs)) [
        | inl below ↦ below
        | inr past ↦ (let nothing : Unused ≡ Row m (46 ∷ 46 ∷ []) l = sym (ap (λ o. unwrap_or o Unused) (slice_get_past xs j past)) ∙ is in absurd (clash nothing))
      ]
        where
          clash : Unused ≡ Row m (46 ∷ 46 ∷ []) l → ⊥
          clash h = cc

      has : has_name (46 ∷ 46 ∷ []) (get_or xs j Unused) ≡ true
      has = ap (has_name (46 ∷ 46 ∷ [])) (sym (unwrap_or-slice_get xs j Unused) ∙ is)

      go : (k < length xs) ⊎ (length xs ≤ k) → (j ≡ k) × (k < length xs)
      go (inl below) = let d = at_dots below in (rows.differ j k m d.0 (46 ∷ 46 ∷ []) l d.1 is d.2, below)
      go (inr past) = absurd (true_or_false (has_name (46 ∷ 46 ∷ []) (get_or xs j Unused)) has (fails_before_first (has_name (46 ∷ 46 ∷ [])) xs j Unused (omega (arith, within, past))))

  -- slot j is the `..`
  record IsPointed (j : ℕ) : Type 0 where
    at : j ≡ k
    long : Option ℕ
    inode : ℕ
    now : slot_in (repointed q xs) j ≡ Row q (46 ∷ 46 ∷ []) long
    was : slot_in xs j ≡ Row inode (46 ∷ 46 ∷ []) long

  -- a slot afterwards: the `..`, or as before
  slot_cases : (j : ℕ) → IsPointed j ⊎ (slot_in (repointed q xs) j ≡ slot_in xs j)
  slot_cases j = go (cases_lt k (length xs)) (cases_eq j k)
    where
      go : (k < length xs) ⊎ (length xs ≤ k) → (j ≡ k) ⊎ (j ≢ k) → IsPointed j ⊎ (slot_in (repointed q xs) j ≡ slot_in xs j)
      go (inl below) (inl is) =
          let d = at_dots below in
          inl (record {
            at = is;
            long = d.1;
            inode = d.0;
            now = subst (λ x. slot_in (repointed q xs) x ≡ Row q (46 ∷ 46 ∷ []) d.1) (sym is) (replaced xs (pointed q (slot_in xs k)) k k below ∙ set_at-same k (pointed q (slot_in xs k)) (slot_in xs) ∙ ap (pointed q) d.2);
            was = subst (λ x. slot_in xs x ≡ Row d.0 (46 ∷ 46 ∷ []) d.1) (sym is) d.2;
          })
      go (inl below) (inr ne) = inr (replaced xs (pointed q (slot_in xs k)) k j below ∙ set_at-other k (pointed q (slot_in xs k)) (slot_in xs) j ne)
      go (inr past) e = inr (ap (λ ys. slot_in ys j) (set_past xs k (pointed q (slot_in xs k)) past))

  -- no name changes
  named_alike : (j : ℕ) → named_by (slot_in (repointed q xs) j) ≡ named_by (slot_in xs j)
  named_alike j = elim (slot_cases j) [
    | inl w ↦ ap named_by w.now ∙ sym (ap named_by w.was)
    | inr same ↦ ap named_by same
  ]

  -- a row afterwards was a row with that name
  row_was : (j x : ℕ) (name : List ℕ) (l : Option ℕ) → slot_in (repointed q xs) j ≡ Row x name l → (y : ℕ) × (slot_in xs j ≡ Row y name l)
  row_was j x name l h = elim (slot_cases j) [
    | inl w ↦
        let both : Row q (46 ∷ 46 ∷ []) w.long ≡ Row x name l = sym w.now ∙ h in
        let names : 46 ∷ 46 ∷ [] ≡ name = cc in
        let longs : w.long ≡ l = cc in
        (w.inode, w.was ∙ (λ i. Row w.inode (names i) (longs i)))
    | inr same ↦ (x, sym same ∙ h)
  ]

  repointed_rows : AreRowsIn n q (slot_in (repointed q xs))
  repointed_rows = record {
    plain = λ j x name l h. (let w = row_was j x name l h in rows.plain j w.0 name l w.1);
    differ = λ j i x y name a b h g. (let w = row_was j x name a h in let v = row_was i y name b g in rows.differ j i w.0 v.0 name a b w.1 v.1);
    dot = λ j x l h. dot_of j x l h (slot_cases j);
    dots = λ j x l h. dots_of j x l h (slot_cases j);
  }
    where
      dot_of : (j x : ℕ) (l : Option ℕ) → slot_in (repointed q xs) j ≡ Row x (46 ∷ []) l
          → IsPointed j ⊎ (slot_in (repointed q xs) j ≡ slot_in xs j) → x ≡ n
      dot_of j x l h (inl w) = absurd (clash w.long (sym w.now ∙ h))
        where
          clash : (a : Option ℕ) → Row q (46 ∷ 46 ∷ []) a ≡ Row x (46 ∷ []) l → ⊥
          clash a h = cc
      dot_of j x l h (inr same) = rows.dot j x l (sym same ∙ h)

      dots_of : (j x : ℕ) (l : Option ℕ) → slot_in (repointed q xs) j ≡ Row x (46 ∷ 46 ∷ []) l
          → IsPointed j ⊎ (slot_in (repointed q xs) j ≡ slot_in xs j) → x ≡ q
      dots_of j x l h (inl w) = let both : Row q (46 ∷ 46 ∷ []) w.long ≡ Row x (46 ∷ 46 ∷ []) l = sym w.now ∙ h in let one : q ≡ x = cc in sym one
      dots_of j x l h (inr same) =
          let w = no_dots_before j x l (sym same ∙ h) in
          let d = at_dots w.1 in
          let now : slot_in (repointed q xs) j ≡ Row q (46 ∷ 46 ∷ []) d.1 =
          subst (λ z. slot_in (repointed q xs) z ≡ Row q (46 ∷ 46 ∷ []) d.1) (sym w.0) (replaced xs (pointed q (slot_in xs k)) k k w.1 ∙ set_at-same k (pointed q (slot_in xs k)) (slot_in xs) ∙ ap (pointed q) d.2) in
          let both : Row q (46 ∷ 46 ∷ []) d.1 ≡ Row x (46 ∷ 46 ∷ []) l = sym now ∙ h in
          let one : q ≡ x = cc in
          sym one

-- what becomes of the outlines where a directory goes from one to another
pub parent_outlines : (s : Setting) (n c : ℕ) (e : Edit) (h : IsDirectoryAt e.tree n) (m : ℕ) → outline_of (with_parent s n c e).tree m ≡ set_at n (Dir (slot_in (repointed c h.slots)) c) (outline_of e.tree) m
parent_outlines s n c e h m =
    let change : List Slot → Entry → Entry = λ xs. with_slots s.blocksize (repointed c xs) c (leaf_of_record s.blocksize (dots_at xs)) in
    outline-with e.tree n (option_map (change (slots_of e.tree n)) (entry_of e.tree n)) (live_place e.tree n h.entry h.live) m
    ∙ (λ i. set_at n (entry_outline (option_map (change (directory_slots e.tree n h i)) (h.live i))) (outline_of e.tree) m)

-- ---- the end of a move

-- row j of directory d, which names n, stands at place i of directory c instead, and n is as it was
pub record PlacesRow (o new : ℕ → Outline) (d j c i n : ℕ) (name : List ℕ) (long : Option ℕ) : Type 0 where
  pub named : NamesIn o d j n
  pub new_row : slots_in (new c) i ≡ Row n name long
  pub old_row : Apart c i d j → slots_in (new d) j ≡ Unused
  pub free : Apart c i d j → slots_in (o c) i ≡ Unused
  pub others : (b k : ℕ) → b ≢ n → Apart b k c i → Apart b k d j → slots_in (new b) k ≡ slots_in (o b) k
  pub live : (b : ℕ) → new b ≢ Absent → o b ≢ Absent
  pub stays : (b : ℕ) → o b ≢ Absent → new b ≢ Absent
  pub dirs : (b p : ℕ) → b ≢ n → IsDir new b p → IsDir o b p
  pub root : IsDir new 1 1
  pub same : new n ≡ o n
  pub to_another : c ≢ n
  pub from_another : d ≢ n
  pub past : ReachedPast o n c
  pub plain : IsTrue (is_plain name)
  pub not_dots : is_dots name ≡ false
  pub unnamed : (k x : ℕ) (other : Option ℕ) → slots_in (o c) k ≡ Row x name other → ⊥

module _ (s : Setting) (o : ℕ → Outline) (rooted : IsRootedIn o) (row : RowAt) (c i : ℕ) (name : List ℕ) (long : Option ℕ) (e : Edit)
    (w : PlacesRow o (outline_of e.tree) row.directory row.record_number c i row.inode name long) where
  abbrev n : ℕ
  n = row.inode

  -- what the end of the move makes of n
  record IsEnded (u : Edit) : Type 0 where
    others : (b : ℕ) → b ≢ n → outline_of u.tree b ≡ outline_of e.tree b
    fate : ((outline_of u.tree n ≡ o n) × ((p : ℕ) → IsDir o n p → row.directory ≡ c)) ⊎ ((xs : List Slot) × (p : ℕ) × (o n ≡ Dir (slot_in xs) p) × (outline_of u.tree n ≡ Dir (slot_in (repointed c xs)) c))

  ends_rooted : (u : Edit) → IsEnded u → IsRooted u.tree
  ends_rooted u f = from_rooted u.tree (moved_rooted o (outline_of u.tree) row.directory row.record_number c i n name long rooted (record {
    named = w.named;
    new_row = ap (λ x. slots_in x i) (f.others c w.to_another) ∙ w.new_row;
    old_row = λ away. ap (λ x. slots_in x row.record_number) (f.others row.directory w.from_another) ∙ w.old_row away;
    free = w.free;
    others = λ b k ne a b2. ap (λ x. slots_in x k) (f.others b ne) ∙ w.others b k ne a b2;
    live = λ b h. live_of b h (cases_eq b n) f.fate;
    stays = λ b h. stays_of b h (cases_eq b n) f.fate;
    dirs = λ b p ne h. w.dirs b p ne (record { slots = h.slots; is = sym (f.others b ne) ∙ h.is });
    top = record { slots = w.root.slots; is = f.others 1 (λ x. top_differs (sym x)) ∙ w.root.is };
    n_names = λ k m names. names_of k m names f.fate;
    n_named = λ k m names. named_of k m names f.fate;
    moved_up = λ q h. up_of q h f.fate;
    to_another = w.to_another;
    from_another = w.from_another;
    past = w.past;
    plain = w.plain;
    not_dots = w.not_dots;
    unnamed = w.unnamed;
  }))
    where
      Fate : Type 0
      Fate = ((outline_of u.tree n ≡ o n) × ((p : ℕ) → IsDir o n p → row.directory ≡ c)) ⊎ ((xs : List Slot) × (p : ℕ) × (o n ≡ Dir (slot_in xs) p) × (outline_of u.tree n ≡ Dir (slot_in (repointed c xs)) c))

      top_differs : n ≢ 1
      top_differs x = rooted.no_top row.directory row.record_number (subst (λ z. NamesIn o row.directory row.record_number z) x w.named)

      live_of : (b : ℕ) → outline_of u.tree b ≢ Absent → (b ≡ n) ⊎ (b ≢ n) → ((outline_of u.tree n ≡ o n) × ((p : ℕ) → IsDir o n p → row.directory ≡ c)) ⊎ ((xs : List Slot) × (p : ℕ) × (o n ≡ Dir (slot_in xs) p) × (outline_of u.tree n ≡ Dir (slot_in (repointed c xs)) c)) → o b ≢ Absent
      live_of b h (inl is) (inl stays) = subst (λ z. o z ≢ Absent) (sym is) (subst (λ z. z ≢ Absent) stays.0 (subst (λ z. outline_of u.tree z ≢ Absent) is h))
      live_of b h (inl is) (inr (xs, p, was, now)) = dir_live (o b) (slot_in xs) p (ap o is ∙ was)
      live_of b h (inr ne) z = w.live b (subst (λ x. x ≢ Absent) (f.others b ne) h)

      stays_of : (b : ℕ) → o b ≢ Absent → (b ≡ n) ⊎ (b ≢ n) → ((outline_of u.tree n ≡ o n) × ((p : ℕ) → IsDir o n p → row.directory ≡ c)) ⊎ ((xs : List Slot) × (p : ℕ) × (o n ≡ Dir (slot_in xs) p) × (outline_of u.tree n ≡ Dir (slot_in (repointed c xs)) c)) → outline_of u.tree b ≢ Absent
      stays_of b h (inl is) (inl stays) = subst (λ z. outline_of u.tree z ≢ Absent) (sym is) (subst (λ z. z ≢ Absent) (sym stays.0) (subst (λ z. o z ≢ Absent) is h))
      stays_of b h (inl is) (inr (xs, p, was, now)) = dir_live (outline_of u.tree b) (slot_in (repointed c xs)) c (ap (outline_of u.tree) is ∙ now)
      stays_of b h (inr ne) z = subst (λ x. x ≢ Absent) (sym (f.others b ne)) (w.stays b h)

      rows_at : (p : ℕ) (xs : List Slot) → o n ≡ Dir (slot_in xs) p → AreRowsIn n p (slot_in xs)
      rows_at p xs was = subst (λ z. AreRowsIn n p z) (ap (λ x. slots_in x) was) (rooted.rows n p (record { slots = slot_in xs; is = was }))

      names_of : (k m : ℕ) → NamesIn (outline_of u.tree) n k m → ((outline_of u.tree n ≡ o n) × ((p : ℕ) → IsDir o n p → row.directory ≡ c)) ⊎ ((xs : List Slot) × (p : ℕ) × (o n ≡ Dir (slot_in xs) p) × (outline_of u.tree n ≡ Dir (slot_in (repointed c xs)) c)) → NamesIn o n k m
      names_of k m names (inl stays) = subst (λ z. named_by (slots_in z k) ≡ Some m) stays.0 names
      names_of k m names (inr (xs, p, was, now)) =
          subst (λ z. named_by (slots_in z k) ≡ Some m) (sym was) (sym (named_alike n p c xs (rows_at p xs was) k) ∙ subst (λ z. named_by (slots_in z k) ≡ Some m) now names)

      named_of : (k m : ℕ) → NamesIn o n k m → ((outline_of u.tree n ≡ o n) × ((p : ℕ) → IsDir o n p → row.directory ≡ c)) ⊎ ((xs : List Slot) × (p : ℕ) × (o n ≡ Dir (slot_in xs) p) × (outline_of u.tree n ≡ Dir (slot_in (repointed c xs)) c)) → NamesIn (outline_of u.tree) n k m
      named_of k m names (inl stays) = subst (λ z. named_by (slots_in z k) ≡ Some m) (sym stays.0) names
      named_of k m names (inr (xs, p, was, now)) =
          subst (λ z. named_by (slots_in z k) ≡ Some m) (sym now) (named_alike n p c xs (rows_at p xs was) k ∙ subst (λ z. named_by (slots_in z k) ≡ Some m) was names)

      up_of : (q : ℕ) → IsDir (outline_of u.tree) n q → ((outline_of u.tree n ≡ o n) × ((p : ℕ) → IsDir o n p → row.directory ≡ c)) ⊎ ((xs : List Slot) × (p : ℕ) × (o n ≡ Dir (slot_in xs) p) × (outline_of u.tree n ≡ Dir (slot_in (repointed c xs)) c))
          → (q ≡ c) × AreRowsIn n q (slots_in (outline_of u.tree n)) × ((p : ℕ) × IsDir o n p)
      up_of q h (inl stays) =
          let old : IsDir o n q = record { slots = h.slots; is = sym stays.0 ∙ h.is } in
          let parent = rooted.parent n q old top_differs in
          let one = rooted.once q parent.0 row.directory row.record_number n q parent.1 w.named old in
          (one.0 ∙ stays.1 q old, subst (λ z. AreRowsIn n q (slots_in z)) (sym stays.0) (rooted.rows n q old), (q, old))
      up_of q h (inr (xs, p, was, now)) =
          let up : c ≡ q = dir_parent (slot_in (repointed c xs)) h.slots c q (sym now ∙ h.is) in
          (sym up, subst (λ z. AreRowsIn n q (slots_in z)) (sym now) (subst (λ z. AreRowsIn n z (slot_in (repointed c xs))) up (repointed_rows n p c xs (rows_at p xs was))), (p, record { slots = slot_in xs; is = was }))

  -- the end of a move is so
  parent_ended : IsEnded (move_parent s n row.directory c e)
  parent_ended = go (is_directory e.tree n) refl (row.directory == c) refl
    where
      not_dir : is_directory e.tree n ≡ false → (p : ℕ) → IsDir o n p → ⊥
      not_dir none p dir =
          let h = outline_directory e.tree n dir.slots p (w.same ∙ dir.is) in
          true_or_false (is_directory e.tree n) (ap is_some (directory_parent e.tree n h.0)) none

      go : (a : Bool) → is_directory e.tree n ≡ a → (b : Bool) → (row.directory == c) ≡ b → IsEnded (if a && not b then with_parent s n c e else e)
      go false none b is = record { others = λ x ne. refl; fate = inl (w.same, λ p dir. absurd (not_dir none p dir)) }
      go true dir true is = record { others = λ x ne. refl; fate = inl (w.same, λ p d. eqb-true row.directory c is) }
      go true dir false is =
          let h = directory_at e.tree n dir in
          let all = parent_outlines s n c e h in
          record {
            others = λ x ne. all x ∙ set_at-other n (Dir (slot_in (repointed c h.slots)) c) (outline_of e.tree) x ne;
            fate = inr (h.slots, h.up, sym w.same ∙ directory_outline e.tree n h, all n ∙ set_at-same n (Dir (slot_in (repointed c h.slots)) c) (outline_of e.tree));
          }

  -- so the moved tree is rooted
  pub place_rooted : IsRooted (moved s row c e).tree
  place_rooted = attr_rooted n (attr_changed s.moment) (move_parent s n row.directory c e) (ends_rooted (move_parent s n row.directory c e) parent_ended)

-- ---- one directory with other records

module _ (o new : ℕ → Outline) (d : ℕ) (f g : ℕ → Slot) (up : ℕ) (was : o d ≡ Dir f up) (now : (m : ℕ) → new m ≡ set_at d (Dir g up) o m) where
  there : new d ≡ Dir g up
  there = now d ∙ set_at-same d (Dir g up) o

  -- other inodes have the outlines that they had
  pub elsewhere : (b : ℕ) → b ≢ d → new b ≡ o b
  elsewhere b ne = now b ∙ set_at-other d (Dir g up) o b ne

  -- the directory has the new records
  pub slot_there : (k : ℕ) → slots_in (new d) k ≡ g k
  slot_there k = ap (λ x. slots_in x k) there

  slot_was : (k : ℕ) → slots_in (o d) k ≡ f k
  slot_was k = ap (λ x. slots_in x k) was

  -- an inode that is live was so
  pub live_was : (b : ℕ) → new b ≢ Absent → o b ≢ Absent
  live_was b h = elim (cases_eq b d) [ inl is ↦ dir_live (o b) f up (ap o is ∙ was) | inr ne ↦ subst (λ x. x ≢ Absent) (elsewhere b ne) h ]

  -- and one that was live is so
  pub live_is : (b : ℕ) → o b ≢ Absent → new b ≢ Absent
  live_is b h = elim (cases_eq b d) [ inl is ↦ dir_live (new b) g up (ap new is ∙ there) | inr ne ↦ subst (λ x. x ≢ Absent) (sym (elsewhere b ne)) h ]

  -- a directory was one, with the same parent
  pub dir_was : (b p : ℕ) → IsDir new b p → IsDir o b p
  dir_was b p h = elim (cases_eq b d) [
    | inl is ↦ let same : up ≡ p = dir_parent g h.slots up p (sym there ∙ ap new (sym is) ∙ h.is) in record { slots = f; is = ap o is ∙ was ∙ ap (Dir f) same }
    | inr ne ↦ record { slots = h.slots; is = sym (elsewhere b ne) ∙ h.is }
  ]

  -- and one that was is one
  pub dir_is : (b p : ℕ) → IsDir o b p → IsDir new b p
  dir_is b p h = elim (cases_eq b d) [
    | inl is ↦ let same : up ≡ p = dir_parent f h.slots up p (sym was ∙ ap o (sym is) ∙ h.is) in record { slots = g; is = ap new is ∙ there ∙ ap (Dir g) same }
    | inr ne ↦ record { slots = h.slots; is = elsewhere b ne ∙ h.is }
  ]

  -- where one record alone is other, the rest stays
  pub rest_stays : (j : ℕ) → ((k : ℕ) → k ≢ j → g k ≡ f k) → (b k : ℕ) → Apart b k d j → slots_in (new b) k ≡ slots_in (o b) k
  rest_stays j same b k away = elim (cases_eq b d) [
    | inl is ↦ subst (λ x. slots_in (new x) k ≡ slots_in (o x) k) (sym is) (slot_there k ∙ same k (away is) ∙ sym (slot_was k))
    | inr ne ↦ ap (λ x. slots_in x k) (elsewhere b ne)
  ]

-- ---- onto a free name

-- a directory that isn't within n, or any that isn't n where n is none
pub past_of : (t : Tree) (n c p : ℕ) → IsRooted t → IsDir (outline_of t) c p → outline_of t n ≢ Absent → n ≢ 1 → (is_directory t n && is_within t n c) ≡ false → ReachedPast (outline_of t) n c
past_of t n c p r dir live top none = go (is_directory t n) refl none
  where
    go : (b : Bool) → is_directory t n ≡ b → (b && is_within t n c) ≡ false → ReachedPast (outline_of t) n c
    go true is none = reached_past t r n c p dir none
    go false is none =
        let plain = plain_outline t n live is in
        past_silent (outline_of t) n (λ e. top (sym e)) (plain_silent (outline_of t) n plain)
        ((to_rooted t r).reached c (dir_live (outline_of t c) dir.slots p dir.is)) (λ e. no_plain dir.slots p (sym dir.is ∙ ap (outline_of t) e ∙ plain))
      where
        no_plain : (f : ℕ → Slot) (q : ℕ) → Dir f q ≡ Plain → ⊥
        no_plain f q h = cc

-- a directory isn't what it names
pub not_named : (t : Tree) (row : RowAt) → IsRooted t → IsRow t row → row.directory ≢ row.inode
not_named t row r is e =
    let names = subst (λ x. NamesIn (outline_of t) x row.record_number row.inode) e is.names in
    no_self (outline_of t) (to_rooted t r) row.inode row.record_number is.directory.up
    (record { slots = slot_in is.directory.slots; is = ap (outline_of t) (sym e) ∙ directory_outline t row.directory is.directory }) names

module _ (s : Setting) (t : Tree) (r : IsRooted t) (row : RowAt) (is : IsRow t row) (p : Place) (place : IsPlace t p) (unused : is_some (inode_named t p.directory p.name) ≡ false)
    (apart : (is_directory t row.inode && is_within t row.inode p.directory) ≡ false) where
  abbrev c : ℕ
  c = p.directory

  abbrev d : ℕ
  d = row.directory

  abbrev j : ℕ
  j = row.record_number

  abbrev o : ℕ → Outline
  o = outline_of t

  abbrev cleared : Edit
  cleared = clear_row s d j (unchanged t)

  abbrev one : ℕ → Outline
  one = outline_of cleared.tree

  at_one : (m : ℕ) → one m ≡ set_at d (Dir (set_at j Unused (slot_in is.directory.slots)) is.directory.up) o m
  at_one m = cleared_outlines s d j (unchanged t) is.directory is.within m

  was_d : o d ≡ Dir (slot_in is.directory.slots) is.directory.up
  was_d = directory_outline t d is.directory

  abbrev f : ℕ → Slot
  f = slot_in is.directory.slots

  abbrev g : ℕ → Slot
  g = set_at j Unused (slot_in is.directory.slots)

  dir_c : IsDirectoryAt t c
  dir_c = directory_at t c place.directory

  is_dir_c : IsDir o c dir_c.up
  is_dir_c = record { slots = slot_in dir_c.slots; is = directory_outline t c dir_c }

  top_differs : row.inode ≢ 1
  top_differs e = (to_rooted t r).no_top d j (subst (λ z. NamesIn o d j z) e is.names)

  past_c : ReachedPast o row.inode c
  past_c = past_of t row.inode c dir_c.up r is_dir_c (named_live t row r is) top_differs apart

  -- c after the row is cleared
  later_c : IsDirectoryAt cleared.tree c
  later_c = let h = dir_is o one d f g is.directory.up was_d at_one c dir_c.up is_dir_c in (outline_directory cleared.tree c h.slots dir_c.up h.is).0

  abbrev i : ℕ
  i = position_or_len is_unused later_c.slots

  abbrev long : Option ℕ
  long = number_for cleared.tree p.name

  abbrev added : Edit
  added = add_row s c row.inode p.name cleared

  abbrev two : ℕ → Outline
  two = outline_of added.tree

  at_two : (m : ℕ) → two m ≡ set_at c (Dir (set_at i (Row row.inode p.name long) (slot_in later_c.slots)) later_c.up) one m
  at_two m = added_outlines s c row.inode p.name cleared later_c m

  was_c : one c ≡ Dir (slot_in later_c.slots) later_c.up
  was_c = directory_outline cleared.tree c later_c

  abbrev g2 : ℕ → Slot
  g2 = set_at i (Row row.inode p.name long) (slot_in later_c.slots)

  one_rest : (b k : ℕ) → Apart b k d j → slots_in (one b) k ≡ slots_in (o b) k
  one_rest = rest_stays o one d f g is.directory.up was_d at_one j (λ k ne. set_at-other j Unused f k ne)

  two_rest : (b k : ℕ) → Apart b k c i → slots_in (two b) k ≡ slots_in (one b) k
  two_rest = rest_stays one two c (slot_in later_c.slots) g2 later_c.up was_c at_two i (λ k ne. set_at-other i (Row row.inode p.name long) (slot_in later_c.slots) k ne)

  one_cleared : slots_in (one d) j ≡ Unused
  one_cleared = slot_there o one d f g is.directory.up was_d at_one j ∙ set_at-same j Unused f

  not_c : c ≢ row.inode
  not_c = past_differs o row.inode c past_c

  not_d : d ≢ row.inode
  not_d = not_named t row r is

  places : PlacesRow o two d j c i row.inode p.name long
  places = record {
    named = is.names;
    new_row = slot_there one two c (slot_in later_c.slots) g2 later_c.up was_c at_two i ∙ set_at-same i (Row row.inode p.name long) (slot_in later_c.slots);
    old_row = λ away. two_rest d j (λ e x. away (sym e) (sym x)) ∙ one_cleared;
    free = λ away. sym (one_rest c i away) ∙ slot_was one two c (slot_in later_c.slots) g2 later_c.up was_c at_two i ∙ unused_place later_c.slots;
    others = λ b k ne a1 a2. two_rest b k a1 ∙ one_rest b k a2;
    live = λ b h. live_was o one d f g is.directory.up was_d at_one b (live_was one two c (slot_in later_c.slots) g2 later_c.up was_c at_two b h);
    stays = λ b h. live_is one two c (slot_in later_c.slots) g2 later_c.up was_c at_two b (live_is o one d f g is.directory.up was_d at_one b h);
    dirs = λ b q ne h. dir_was o one d f g is.directory.up was_d at_one b q (dir_was one two c (slot_in later_c.slots) g2 later_c.up was_c at_two b q h);
    root = dir_is one two c (slot_in later_c.slots) g2 later_c.up was_c at_two 1 1 (dir_is o one d f g is.directory.up was_d at_one 1 1 (to_rooted t r).top);
    same = elsewhere one two c (slot_in later_c.slots) g2 later_c.up was_c at_two row.inode (λ e. not_c (sym e)) ∙ elsewhere o one d f g is.directory.up was_d at_one row.inode (λ e. not_d (sym e));
    to_another = not_c;
    from_another = not_d;
    past = past_c;
    plain = place.plain;
    not_dots = place.not_dots;
    unnamed = λ k x other h. not_taken t c p.name unused k x other
        (subst (λ xs. slot_in xs k ≡ Row x p.name other) (sym (directory_slots t c dir_c)) (sym (ap (λ z. slots_in z k) (directory_outline t c dir_c)) ∙ h));
  }

  -- a move to a free name
  pub moved_to_rooted : IsRooted (moved_to s t row p).tree
  moved_to_rooted = place_rooted s o (to_rooted t r) row c i p.name long added places
