-- A tree stays rooted where a row moves to a free place in a directory that doesn't lie below what it names.
use Rattle.std.proofs.Common.{◌≡◌, ℕ, ◌⊎◌, inl, inr, List, [], ◌∷◌, refl, sym, ap, ◌∙◌, subst}
use Rattle.std.specs.Prelude.{◌≢◌, IsTrue, true, false, Option, Some, None, if◌then◌else◌}
use Rattle.std.proofs.lemmas.Bool.{cases_eq}
use Rattle.qx_model.specs.Tree.{Row, Unused, is_dots, named_by}
use Rattle.qx_model.specs.Rooted.{is_plain}
use Rattle.qx_model.proofs.Outlines.{Absent, AreRowsIn, IsDir, IsRootedIn, NamesIn, Outline, ReachedIn, first, more, slots_in}
use Rattle.qx_model.proofs.AddedRows.{naming_live}

abbrev dot_name : List ℕ
dot_name = 46 ∷ []

abbrev dots_name : List ℕ
dots_name = 46 ∷ 46 ∷ []

-- inodes that are reached without n
pub data ReachedPast (o : ℕ → Outline) (n : ℕ) : ℕ → Type 0 where
  begin : 1 ≢ n → ReachedPast o n 1
  beyond : {b m : ℕ} (k : ℕ) → ReachedPast o n b → NamesIn o b k m → m ≢ n → ReachedPast o n m

-- two places are two
abbrev pub Apart : ℕ → ℕ → ℕ → ℕ → Type 0
Apart b k c i = (b ≡ c) → k ≢ i

-- row j of directory d, which names n, moves to place i of directory c
pub record MovesRow (o new : ℕ → Outline) (d j c i n : ℕ) (name : List ℕ) (long : Option ℕ) : Type 0 where
  pub named : NamesIn o d j n
  pub new_row : slots_in (new c) i ≡ Row n name long
  pub old_row : Apart c i d j → slots_in (new d) j ≡ Unused
  pub free : Apart c i d j → slots_in (o c) i ≡ Unused
  pub others : (b k : ℕ) → b ≢ n → Apart b k c i → Apart b k d j → slots_in (new b) k ≡ slots_in (o b) k
  pub live : (b : ℕ) → new b ≢ Absent → o b ≢ Absent
  pub stays : (b : ℕ) → o b ≢ Absent → new b ≢ Absent
  pub dirs : (b p : ℕ) → b ≢ n → IsDir new b p → IsDir o b p
  pub top : IsDir new 1 1
  pub n_names : (k m : ℕ) → NamesIn new n k m → NamesIn o n k m
  pub n_named : (k m : ℕ) → NamesIn o n k m → NamesIn new n k m
  pub moved_up : (q : ℕ) → IsDir new n q → (q ≡ c) × AreRowsIn n q (slots_in (new n)) × ((p : ℕ) × IsDir o n p)
  pub to_another : c ≢ n
  pub from_another : d ≢ n
  pub past : ReachedPast o n c
  pub plain : IsTrue (is_plain name)
  pub not_dots : is_dots name ≡ false
  pub unnamed : (k x : ℕ) (other : Option ℕ) → slots_in (o c) k ≡ Row x name other → ⊥

module _ (o new : ℕ → Outline) (d j c i n : ℕ) (name : List ℕ) (long : Option ℕ) (r : IsRootedIn o) (v : MovesRow o new d j c i n name long) where
  not_top : n ≢ 1
  not_top e = r.no_top d j (subst (λ x. NamesIn o d j x) e v.named)

  names_it : NamesIn new c i n
  names_it = ap named_by v.new_row ∙ (λ x. if v.not_dots x then None else Some n)

  -- whether a place is another one
  place_cases : (b k e l : ℕ) → ((b ≡ e) × (k ≡ l)) ⊎ Apart b k e l
  place_cases b k e l = elim (cases_eq b e) [
    | inl same ↦ elim (cases_eq k l) [ inl at ↦ inl (same, at) | inr ne ↦ inr (λ x. ne) ]
    | inr ne ↦ inr (λ x. absurd (ne x))
  ]

  -- a name is the moved one, or an old one that isn't
  name_cases : (b k m : ℕ) → NamesIn new b k m → ((b ≡ c) × (k ≡ i) × (n ≡ m)) ⊎ (NamesIn o b k m × Apart b k d j)
  name_cases b k m names = elim (cases_eq b n) [
    | inl is ↦ inr (subst (λ x. NamesIn o x k m) (sym is) (v.n_names k m (subst (λ x. NamesIn new x k m) is names)), λ e. absurd (v.from_another (sym e ∙ is)))
    | inr ne ↦ elim (place_cases b k c i) [
      | inl at ↦ inl (at.0, at.1, same (sym names_it ∙ subst (λ x. NamesIn new c x m) at.1 (subst (λ x. NamesIn new x k m) at.0 names)))
      | inr away ↦ elim (place_cases b k d j) [
        | inl at ↦ absurd (gone (moved_away b k at away) (subst (λ x. NamesIn new d x m) at.1 (subst (λ x. NamesIn new x k m) at.0 names)))
        | inr off ↦ inr (ap named_by (sym (v.others b k ne away off)) ∙ names, off)
      ]
    ]
  ]
    where
      same : Some n ≡ Some m → n ≡ m
      same h = cc

      moved_away : (b k : ℕ) → (b ≡ d) × (k ≡ j) → Apart b k c i → Apart c i d j
      moved_away b k at away e f = away (at.0 ∙ sym e) (at.1 ∙ sym f)

      gone : Apart c i d j → NamesIn new d j m → ⊥
      gone away names = let nothing : named_by Unused ≡ Some m = ap named_by (sym (v.old_row away)) ∙ names in cc

  -- an old name that isn't the moved one stays
  name_stays : (b k m : ℕ) → NamesIn o b k m → Apart b k d j → NamesIn new b k m
  name_stays b k m names off = elim (cases_eq b n) [
    | inl is ↦ subst (λ x. NamesIn new x k m) (sym is) (v.n_named k m (subst (λ x. NamesIn o x k m) is names))
    | inr ne ↦ elim (place_cases b k c i) [
      | inl at ↦ absurd (taken (λ e f. off (at.0 ∙ e) (at.1 ∙ f)) (subst (λ x. NamesIn o c x m) at.1 (subst (λ x. NamesIn o x k m) at.0 names)))
      | inr away ↦ ap named_by (v.others b k ne away off) ∙ names
    ]
  ]
    where
      taken : Apart c i d j → NamesIn o c i m → ⊥
      taken away names = let nothing : named_by Unused ≡ Some m = ap named_by (sym (v.free away)) ∙ names in cc

  -- names of others aren't the moved one
  of_another : (b k m : ℕ) → NamesIn o b k m → m ≢ n → Apart b k d j
  of_another b k m names ne is at =
      let both : Some m ≡ Some n = sym (subst (λ x. NamesIn o d x m) at (subst (λ x. NamesIn o x k m) is names)) ∙ v.named in
      let same : m ≡ n = cc in
      ne same

  past_stays : {m : ℕ} → ReachedPast o n m → ReachedIn new m
  past_stays (begin ne) = first
  past_stays (beyond {b} {m} k h names ne) = more k (past_stays h) (name_stays b k m names (of_another b k m names ne))

  n_reached : ReachedIn new n
  n_reached = more i (past_stays v.past) names_it

  reached_stays : {m : ℕ} → ReachedIn o m → ReachedIn new m
  reached_stays first = first
  reached_stays (more {c = b} {m} k h names) = go (place_cases b k d j) (reached_stays h)
    where
      same : Some n ≡ Some m → n ≡ m
      same h = cc

      go : ((b ≡ d) × (k ≡ j)) ⊎ Apart b k d j → ReachedIn new b → ReachedIn new m
      go (inl at) h = subst (ReachedIn new) (same (sym v.named ∙ subst (λ x. NamesIn o d x m) at.1 (subst (λ x. NamesIn o x k m) at.0 names))) n_reached
      go (inr off) h = more k h (name_stays b k m names off)

  n_was_reached : ReachedIn o n
  n_was_reached = more j (r.reached d (naming_live o d j n v.named)) v.named

  reached_was : {m : ℕ} → ReachedIn new m → ReachedIn o m
  reached_was first = first
  reached_was (more {c = b} {m} k h names) = go (name_cases b k m names) (reached_was h)
    where
      go : ((b ≡ c) × (k ≡ i) × (n ≡ m)) ⊎ (NamesIn o b k m × Apart b k d j) → ReachedIn o b → ReachedIn o m
      go (inl it) h = subst (ReachedIn o) it.2 n_was_reached
      go (inr old) h = more k h old.0

  parent : (m q : ℕ) → IsDir new m q → m ≢ 1 → (k : ℕ) × NamesIn new q k m
  parent m q h ne = elim (cases_eq m n) [
    | inl is ↦ let up = v.moved_up q (subst (λ x. IsDir new x q) is h) in (i, subst (λ x. NamesIn new q i x) (sym is) (subst (λ x. NamesIn new x i n) (sym up.0) names_it))
    | inr other ↦ let w = r.parent m q (v.dirs m q other h) ne in (w.0, name_stays q w.0 m w.1 (of_another q w.0 m w.1 other))
  ]

  once : (b k e l m q : ℕ) → NamesIn new b k m → NamesIn new e l m → IsDir new m q → (b ≡ e) × (k ≡ l)
  once b k e l m q x y h = go (name_cases b k m x) (name_cases e l m y) (cases_eq m n)
    where
      -- no other row names n, where it is a directory
      alone : m ≡ n → (f g : ℕ) → NamesIn o f g m → Apart f g d j → ⊥
      alone is f g names off =
          let up = v.moved_up q (subst (λ z. IsDir new z q) is h) in
          let one = r.once f g d j n up.2.0 (subst (λ z. NamesIn o f g z) is names) v.named up.2.1 in
          off one.0 one.1

      go : ((b ≡ c) × (k ≡ i) × (n ≡ m)) ⊎ (NamesIn o b k m × Apart b k d j) → ((e ≡ c) × (l ≡ i) × (n ≡ m)) ⊎ (NamesIn o e l m × Apart e l d j) → (m ≡ n) ⊎ (m ≢ n) → (b ≡ e) × (k ≡ l)
      go (inl u) (inl w) z = (u.0 ∙ sym w.0, u.1 ∙ sym w.1)
      go (inl u) (inr w) z = absurd (alone (sym u.2) e l w.0 w.1)
      go (inr u) (inl w) z = absurd (alone (sym w.2) b k u.0 u.1)
      go (inr u) (inr w) (inl is) = absurd (alone is b k u.0 u.1)
      go (inr u) (inr w) (inr ne) = r.once b k e l m q u.0 w.0 (v.dirs m q ne h)

  -- a row of another directory is the moved one, or an old one
  row_cases : (b : ℕ) → b ≢ n → (k x : ℕ) (other : List ℕ) (l : Option ℕ) → slots_in (new b) k ≡ Row x other l → ((b ≡ c) × (k ≡ i) × (name ≡ other)) ⊎ (slots_in (o b) k ≡ Row x other l)
  row_cases b ne k x other l h = elim (place_cases b k c i) [
    | inl at ↦ inl (at.0, at.1, same (sym v.new_row ∙ subst (λ z. slots_in (new c) z ≡ Row x other l) at.1 (subst (λ z. slots_in (new z) k ≡ Row x other l) at.0 h)))
    | inr away ↦ elim (place_cases b k d j) [
      | inl at ↦ absurd (clash (sym (v.old_row (λ e f. away (at.0 ∙ sym e) (at.1 ∙ sym f))) ∙ subst (λ z. slots_in (new d) z ≡ Row x other l) at.1 (subst (λ z. slots_in (new z) k ≡ Row x other l) at.0 h)))
      | inr off ↦ inr (sym (v.others b k ne away off) ∙ h)
    ]
  ]
    where
      same : Row n name long ≡ Row x other l → name ≡ other
      same h = cc

      clash : Unused ≡ Row x other l → ⊥
      clash h = cc

  rows_of : (b p : ℕ) → b ≢ n → AreRowsIn b p (slots_in (o b)) → AreRowsIn b p (slots_in (new b))
  rows_of b p ne rows = record {
    plain = λ k x other l h. plain_of k x other l h (row_cases b ne k x other l h);
    differ = λ k m x y other l z h g. differ_of k m x y other l z (row_cases b ne k x other l h) (row_cases b ne m y other z g);
    dot = λ k x l h. dot_of k x l (row_cases b ne k x (46 ∷ []) l h);
    dots = λ k x l h. dots_of k x l (row_cases b ne k x (46 ∷ 46 ∷ []) l h);
  }
    where
      plain_of : (k x : ℕ) (other : List ℕ) (l : Option ℕ) → slots_in (new b) k ≡ Row x other l → ((b ≡ c) × (k ≡ i) × (name ≡ other)) ⊎ (slots_in (o b) k ≡ Row x other l) → IsTrue (is_plain other)
      plain_of k x other l h (inl it) = subst (λ z. IsTrue (is_plain z)) it.2 v.plain
      plain_of k x other l h (inr old) = rows.plain k x other l old

      taken : (k x : ℕ) (other : List ℕ) (l : Option ℕ) → b ≡ c → name ≡ other → slots_in (o b) k ≡ Row x other l → ⊥
      taken k x other l is same h = v.unnamed k x l (subst (λ z. slots_in (o z) k ≡ Row x name l) is (h ∙ (λ y. Row x (sym same y) l)))

      differ_of : (k m x y : ℕ) (other : List ℕ) (l z : Option ℕ) → ((b ≡ c) × (k ≡ i) × (name ≡ other)) ⊎ (slots_in (o b) k ≡ Row x other l)
          → ((b ≡ c) × (m ≡ i) × (name ≡ other)) ⊎ (slots_in (o b) m ≡ Row y other z) → k ≡ m
      differ_of k m x y other l z (inl u) (inl w) = u.1 ∙ sym w.1
      differ_of k m x y other l z (inl u) (inr old) = absurd (taken m y other z u.0 u.2 old)
      differ_of k m x y other l z (inr old) (inl w) = absurd (taken k x other l w.0 w.2 old)
      differ_of k m x y other l z (inr u) (inr w) = rows.differ k m x y other l z u w

      no_dots : (other : List ℕ) → name ≡ other → is_dots other ≡ true → ⊥
      no_dots other is h = let clash : false ≡ true = sym v.not_dots ∙ ap is_dots is ∙ h in cc

      dot_of : (k x : ℕ) (l : Option ℕ) → ((b ≡ c) × (k ≡ i) × (name ≡ dot_name)) ⊎ (slots_in (o b) k ≡ Row x (46 ∷ []) l) → x ≡ b
      dot_of k x l (inl it) = absurd (no_dots (46 ∷ []) it.2 refl)
      dot_of k x l (inr old) = rows.dot k x l old

      dots_of : (k x : ℕ) (l : Option ℕ) → ((b ≡ c) × (k ≡ i) × (name ≡ dots_name)) ⊎ (slots_in (o b) k ≡ Row x (46 ∷ 46 ∷ []) l) → x ≡ p
      dots_of k x l (inl it) = absurd (no_dots (46 ∷ 46 ∷ []) it.2 refl)
      dots_of k x l (inr old) = rows.dots k x l old

  rows_new : (m q : ℕ) → IsDir new m q → AreRowsIn m q (slots_in (new m))
  rows_new m q h = elim (cases_eq m n) [
    | inl is ↦ subst (λ x. AreRowsIn x q (slots_in (new x))) (sym is) (v.moved_up q (subst (λ x. IsDir new x q) is h)).1
    | inr ne ↦ rows_of m q ne (r.rows m q (v.dirs m q ne h))
  ]

  -- the outlines with the moved row are rooted
  pub moved_rooted : IsRootedIn new
  moved_rooted = record {
    reached = λ m h. reached_stays (r.reached m (v.live m h));
    closed = λ m h. v.stays m (r.closed m (reached_was h));
    top = v.top;
    parent = parent;
    no_top = λ b k names. (elim (name_cases b k 1 names) [ inl it ↦ not_top it.2 | inr old ↦ r.no_top b k old.0 ]);
    once = once;
    rows = rows_new;
  }
