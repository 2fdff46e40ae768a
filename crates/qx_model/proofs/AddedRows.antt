-- A tree stays rooted where a directory gets a row for an inode that names nothing.
use Rattle.std.proofs.Common.{◌≡◌, ℕ, ◌⊎◌, inl, inr, List, [], ◌∷◌, refl, sym, ap, ◌∙◌, subst}
use Rattle.std.specs.Prelude.{◌≢◌, IsTrue, true, false, Option, Some, None, ◌==◌, if◌then◌else◌}
use Rattle.std.proofs.lemmas.Bool.{cases_eq, eq-eqb, eqb-true}
use Rattle.qx_geom.proofs.Truths.{not_so}
use Rattle.qx_model.specs.Tree.{Row, Slot, Unused, is_dots, named_by}
use Rattle.qx_model.specs.Rooted.{is_plain}
use Rattle.qx_model.proofs.Outlines.{Absent, AreRowsIn, Dir, IsDir, IsRootedIn, NamesIn, Outline, ReachedIn, first, more, slots_in}

-- ---- a function with another value at one place

-- a function with x at place j
abbrev pub set_at : {A : Type 0} → ℕ → A → (ℕ → A) → ℕ → A
set_at j x f k = if k == j then x else f k

-- it has x there
pub set_at-same : {A : Type 0} (j : ℕ) (x : A) (f : ℕ → A) → set_at j x f j ≡ x
set_at-same j x f = ap (λ b. if b then x else f j) (eq-eqb j j refl)

-- and elsewhere what it had
pub set_at-other : {A : Type 0} (j : ℕ) (x : A) (f : ℕ → A) (k : ℕ) → k ≢ j → set_at j x f k ≡ f k
set_at-other j x f k ne = ap (λ b. if b then x else f k) (not_so (k == j) (λ e. ne (eqb-true k j e)))

-- ---- outlines

-- outlines that are directories have what these have
pub dir_slots : (o : ℕ → Outline) (d : ℕ) (f : ℕ → Slot) (p : ℕ) → o d ≡ Dir f p → (k : ℕ) → slots_in (o d) k ≡ f k
dir_slots o d f p is k = ap (λ x. slots_in x k) is

-- directories that are one outline have one parent
pub dir_parent : (f g : ℕ → Slot) (p q : ℕ) → Dir f p ≡ Dir g q → p ≡ q
dir_parent f g p q h = cc

-- an outline that is a directory is live
pub dir_live : (x : Outline) (f : ℕ → Slot) (p : ℕ) → x ≡ Dir f p → x ≢ Absent
dir_live x f p is gone = let clash : Dir f p ≡ Absent = sym is ∙ gone in cc

-- what names something is live
pub naming_live : (o : ℕ → Outline) (d k n : ℕ) → NamesIn o d k n → o d ≢ Absent
naming_live o d k n names gone = let nothing : named_by (slots_in Absent k) ≡ Some n = subst (λ x. named_by (slots_in x k) ≡ Some n) gone names in cc

-- a directory d gets row j, which names n
pub record AddsRow (o new : ℕ → Outline) (d j n : ℕ) (name : List ℕ) (long : Option ℕ) : Type 0 where
  pub slots : ℕ → Slot
  pub up : ℕ
  pub was : o d ≡ Dir slots up
  pub free : slots j ≡ Unused
  pub now : new d ≡ Dir (set_at j (Row n name long) slots) up
  pub apart : d ≢ n
  pub others : (m : ℕ) → m ≢ d → m ≢ n → new m ≡ o m
  pub live : new n ≢ Absent
  pub silent : (k m : ℕ) → NamesIn o n k m → ⊥
  pub still_silent : (k m : ℕ) → NamesIn new n k m → ⊥
  pub not_top : n ≢ 1
  pub made : (q : ℕ) → IsDir new n q → (o n ≡ Absent) × (q ≡ d) × AreRowsIn n q (slots_in (new n))
  pub plain : IsTrue (is_plain name)
  pub not_dots : is_dots name ≡ false
  pub unnamed : (k i : ℕ) (other : Option ℕ) → slots k ≡ Row i name other → ⊥

module _ (o new : ℕ → Outline) (d j n : ℕ) (name : List ℕ) (long : Option ℕ) (r : IsRootedIn o) (a : AddsRow o new d j n name long) where
  -- the new row
  new_row : slots_in (new d) j ≡ Row n name long
  new_row = dir_slots new d (set_at j (Row n name long) a.slots) a.up a.now j ∙ set_at-same j (Row n name long) a.slots

  old_row : (k : ℕ) → k ≢ j → slots_in (new d) k ≡ slots_in (o d) k
  old_row k ne = dir_slots new d (set_at j (Row n name long) a.slots) a.up a.now k ∙ set_at-other j (Row n name long) a.slots k ne ∙ sym (dir_slots o d a.slots a.up a.was k)

  names_it : NamesIn new d j n
  names_it = ap named_by new_row ∙ (λ i. if a.not_dots i then None else Some n)

  -- a name is the new one, or an old one
  name_cases : (c k m : ℕ) → NamesIn new c k m → ((c ≡ d) × (k ≡ j) × (n ≡ m)) ⊎ NamesIn o c k m
  name_cases c k m names = elim (cases_eq c n) [
    | inl is ↦ absurd (a.still_silent k m (subst (λ x. NamesIn new x k m) is names))
    | inr ne ↦ elim (cases_eq c d) [
      | inl is ↦ in_d (subst (λ x. NamesIn new x k m) is names) is (cases_eq k j)
      | inr nd ↦ inr (subst (λ x. named_by (slots_in x k) ≡ Some m) (a.others c nd ne) names)
    ]
  ]
    where
      in_d : NamesIn new d k m → c ≡ d → (k ≡ j) ⊎ (k ≢ j) → ((c ≡ d) × (k ≡ j) × (n ≡ m)) ⊎ NamesIn o c k m
      in_d names is (inl at) = let both : Some n ≡ Some m = sym names_it ∙ subst (λ x. NamesIn new d x m) at names in let one : n ≡ m = cc in inl (is, at, one)
      in_d names is (inr ne) = inr (subst (λ x. NamesIn o x k m) (sym is) (ap named_by (sym (old_row k ne)) ∙ names))

  -- old names stay
  names_stay : (c k m : ℕ) → NamesIn o c k m → NamesIn new c k m
  names_stay c k m names = elim (cases_eq c n) [
    | inl is ↦ absurd (a.silent k m (subst (λ x. NamesIn o x k m) is names))
    | inr ne ↦ elim (cases_eq c d) [
      | inl is ↦ subst (λ x. NamesIn new x k m) (sym is) (in_d (subst (λ x. NamesIn o x k m) is names))
      | inr nd ↦ subst (λ x. named_by (slots_in x k) ≡ Some m) (sym (a.others c nd ne)) names
    ]
  ]
    where
      not_there : NamesIn o d k m → k ≢ j
      not_there names is =
          let nothing : named_by Unused ≡ Some m = ap named_by (sym (ap (slots_in (o d)) is ∙ dir_slots o d a.slots a.up a.was j ∙ a.free)) ∙ names in cc

      in_d : NamesIn o d k m → NamesIn new d k m
      in_d names = ap named_by (old_row k (not_there names)) ∙ names

  reached_stays : {m : ℕ} → ReachedIn o m → ReachedIn new m
  reached_stays first = first
  reached_stays (more {c} {m} k h names) = more k (reached_stays h) (names_stay c k m names)

  reached_was : {m : ℕ} → ReachedIn new m → (m ≡ n) ⊎ ReachedIn o m
  reached_was first = inr first
  reached_was (more {c} {m} k h names) = go (reached_was h) (name_cases c k m names)
    where
      go : (c ≡ n) ⊎ ReachedIn o c → ((c ≡ d) × (k ≡ j) × (n ≡ m)) ⊎ NamesIn o c k m → (m ≡ n) ⊎ ReachedIn o m
      go u (inl new_one) = inl (sym new_one.2)
      go (inl is) (inr old) = absurd (a.silent k m (subst (λ x. NamesIn o x k m) is old))
      go (inr h) (inr old) = inr (more k h old)

  -- inodes but n are what they were, or the directory
  live_was : (m : ℕ) → m ≢ n → new m ≢ Absent → o m ≢ Absent
  live_was m ne h = elim (cases_eq m d) [
    | inl is ↦ dir_live (o m) a.slots a.up (ap o is ∙ a.was)
    | inr nd ↦ subst (λ x. x ≢ Absent) (a.others m nd ne) h
  ]

  live_stays : (m : ℕ) → o m ≢ Absent → new m ≢ Absent
  live_stays m h = elim (cases_eq m n) [
    | inl is ↦ subst (λ x. new x ≢ Absent) (sym is) a.live
    | inr ne ↦ elim (cases_eq m d) [
      | inl is ↦ dir_live (new m) (set_at j (Row n name long) a.slots) a.up (ap new is ∙ a.now)
      | inr nd ↦ subst (λ x. x ≢ Absent) (sym (a.others m nd ne)) h
    ]
  ]

  dir_was : (m q : ℕ) → m ≢ n → IsDir new m q → IsDir o m q
  dir_was m q ne h = elim (cases_eq m d) [
    | inl is ↦
        let same : a.up ≡ q = dir_parent (set_at j (Row n name long) a.slots) h.slots a.up q (sym a.now ∙ ap new (sym is) ∙ h.is) in
        record { slots = a.slots; is = ap o is ∙ a.was ∙ ap (Dir a.slots) same }
    | inr nd ↦ record { slots = h.slots; is = sym (a.others m nd ne) ∙ h.is }
  ]

  directory_reached : ReachedIn o d
  directory_reached = r.reached d (dir_live (o d) a.slots a.up a.was)

  -- an inode that isn't live is named by no row
  nothing_names : (c k m : ℕ) → o m ≡ Absent → NamesIn o c k m → ⊥
  nothing_names c k m gone names = r.closed m (more k (r.reached c (naming_live o c k m names)) names) gone

  rows_with : AreRowsIn d a.up (slots_in (o d)) → AreRowsIn d a.up (slots_in (new d))
  rows_with rows = record {
    plain = λ k i other l h. plain_at k i other l h (cases_eq k j);
    differ = λ k l i m other x y h g. differ_at k l i m other x y h g (cases_eq k j) (cases_eq l j);
    dot = λ k i l h. dot_at k i l h (cases_eq k j);
    dots = λ k i l h. dots_at k i l h (cases_eq k j);
  }
    where
      at_j : (k i : ℕ) (other : List ℕ) (l : Option ℕ) → slots_in (new d) k ≡ Row i other l → k ≡ j → name ≡ other
      at_j k i other l h is = let both : Row n name long ≡ Row i other l = sym new_row ∙ ap (slots_in (new d)) (sym is) ∙ h in cc

      plain_at : (k i : ℕ) (other : List ℕ) (l : Option ℕ) → slots_in (new d) k ≡ Row i other l → (k ≡ j) ⊎ (k ≢ j) → IsTrue (is_plain other)
      plain_at k i other l h (inl is) = subst (λ z. IsTrue (is_plain z)) (at_j k i other l h is) a.plain
      plain_at k i other l h (inr ne) = rows.plain k i other l (sym (old_row k ne) ∙ h)

      taken : (k i : ℕ) (other : List ℕ) (l : Option ℕ) → slots_in (o d) k ≡ Row i other l → name ≡ other → ⊥
      taken k i other l h is = a.unnamed k i l (sym (dir_slots o d a.slots a.up a.was k) ∙ h ∙ (λ x. Row i (sym is x) l))

      differ_at : (k l i m : ℕ) (other : List ℕ) (x y : Option ℕ) → slots_in (new d) k ≡ Row i other x → slots_in (new d) l ≡ Row m other y → (k ≡ j) ⊎ (k ≢ j) → (l ≡ j) ⊎ (l ≢ j) → k ≡ l
      differ_at k l i m other x y h g (inl is) (inl too) = is ∙ sym too
      differ_at k l i m other x y h g (inl is) (inr ne) = absurd (taken l m other y (sym (old_row l ne) ∙ g) (at_j k i other x h is))
      differ_at k l i m other x y h g (inr ne) (inl is) = absurd (taken k i other x (sym (old_row k ne) ∙ h) (at_j l m other y g is))
      differ_at k l i m other x y h g (inr ne) (inr nl) = rows.differ k l i m other x y (sym (old_row k ne) ∙ h) (sym (old_row l nl) ∙ g)

      is_no_dots : (other : List ℕ) → name ≡ other → is_dots other ≡ true → ⊥
      is_no_dots other is h = let clash : false ≡ true = sym a.not_dots ∙ ap is_dots is ∙ h in cc

      dot_at : (k i : ℕ) (l : Option ℕ) → slots_in (new d) k ≡ Row i (46 ∷ []) l → (k ≡ j) ⊎ (k ≢ j) → i ≡ d
      dot_at k i l h (inl is) = absurd (is_no_dots (46 ∷ []) (at_j k i (46 ∷ []) l h is) refl)
      dot_at k i l h (inr ne) = rows.dot k i l (sym (old_row k ne) ∙ h)

      dots_at : (k i : ℕ) (l : Option ℕ) → slots_in (new d) k ≡ Row i (46 ∷ 46 ∷ []) l → (k ≡ j) ⊎ (k ≢ j) → i ≡ a.up
      dots_at k i l h (inl is) = absurd (is_no_dots (46 ∷ 46 ∷ []) (at_j k i (46 ∷ 46 ∷ []) l h is) refl)
      dots_at k i l h (inr ne) = rows.dots k i l (sym (old_row k ne) ∙ h)

  closed : (m : ℕ) → ReachedIn new m → new m ≢ Absent
  closed m h = elim (reached_was h) [
    | inl is ↦ subst (λ x. new x ≢ Absent) (sym is) a.live
    | inr old ↦ live_stays m (r.closed m old)
  ]

  reached : (m : ℕ) → new m ≢ Absent → ReachedIn new m
  reached m h = elim (cases_eq m n) [
    | inl is ↦ subst (λ x. ReachedIn new x) (sym is) (more j (reached_stays directory_reached) names_it)
    | inr ne ↦ reached_stays (r.reached m (live_was m ne h))
  ]

  parent : (m q : ℕ) → IsDir new m q → m ≢ 1 → (k : ℕ) × NamesIn new q k m
  parent m q h not_top = elim (cases_eq m n) [
    | inl is ↦
        let w = a.made q (subst (λ x. IsDir new x q) is h) in
        (j, subst (λ x. NamesIn new q j x) (sym is) (subst (λ x. NamesIn new x j n) (sym w.1) names_it))
    | inr ne ↦ let w = r.parent m q (dir_was m q ne h) not_top in (w.0, names_stay q w.0 m w.1)
  ]

  no_top : (c k : ℕ) → NamesIn new c k 1 → ⊥
  no_top c k names = elim (name_cases c k 1 names) [ inl new_one ↦ a.not_top new_one.2 | inr old ↦ r.no_top c k old ]

  once : (b k c i m q : ℕ) → NamesIn new b k m → NamesIn new c i m → IsDir new m q → (b ≡ c) × (k ≡ i)
  once b k c i m q x y h = go (name_cases b k m x) (name_cases c i m y) (cases_eq m n)
    where
      gone : m ≡ n → o m ≡ Absent
      gone is = ap o is ∙ (a.made q (subst (λ z. IsDir new z q) is h)).0

      go : ((b ≡ d) × (k ≡ j) × (n ≡ m)) ⊎ NamesIn o b k m → ((c ≡ d) × (i ≡ j) × (n ≡ m)) ⊎ NamesIn o c i m → (m ≡ n) ⊎ (m ≢ n) → (b ≡ c) × (k ≡ i)
      go (inl u) (inl v) e = (u.0 ∙ sym v.0, u.1 ∙ sym v.1)
      go (inl u) (inr v) e = absurd (nothing_names c i m (gone (sym u.2)) v)
      go (inr u) (inl v) e = absurd (nothing_names b k m (gone (sym v.2)) u)
      go (inr u) (inr v) (inl is) = absurd (nothing_names b k m (gone is) u)
      go (inr u) (inr v) (inr ne) = r.once b k c i m q u v (dir_was m q ne h)

  rows : (m q : ℕ) → IsDir new m q → AreRowsIn m q (slots_in (new m))
  rows m q h = elim (cases_eq m n) [
    | inl is ↦ subst (λ x. AreRowsIn x q (slots_in (new x))) (sym is) (a.made q (subst (λ x. IsDir new x q) is h)).2
    | inr ne ↦ elim (cases_eq m d) [
      | inl is ↦
          let old = dir_was m q ne h in
          let up : q ≡ a.up = dir_parent old.slots a.slots q a.up (sym old.is ∙ ap o is ∙ a.was) in
          subst (λ x. AreRowsIn x q (slots_in (new x))) (sym is)
          (subst (λ x. AreRowsIn d x (slots_in (new d))) (sym up) (rows_with (r.rows d a.up (record { slots = a.slots; is = a.was }))))
      | inr nd ↦ subst (λ x. AreRowsIn m q (slots_in x)) (sym (a.others m nd ne)) (r.rows m q (dir_was m q ne h))
    ]
  ]

  top : IsDir new 1 1
  top = elim (cases_eq 1 d) [
    | inl is ↦
        let up : a.up ≡ 1 = dir_parent a.slots r.top.slots a.up 1 (sym a.was ∙ ap o (sym is) ∙ r.top.is) in
        record { slots = set_at j (Row n name long) a.slots; is = ap new is ∙ a.now ∙ ap (Dir (set_at j (Row n name long) a.slots)) up }
    | inr nd ↦ record { slots = r.top.slots; is = a.others 1 nd (λ e. a.not_top (sym e)) ∙ r.top.is }
  ]

  -- the outlines with the row are rooted
  pub added_rooted : IsRootedIn new
  added_rooted = record { reached = reached; closed = closed; top = top; parent = parent; no_top = no_top; once = once; rows = rows }
