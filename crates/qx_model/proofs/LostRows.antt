-- A tree stays rooted where a row goes that names an inode which names nothing, and the inode with it, unless another row names it.
use Rattle.std.proofs.Common.{◌≡◌, ℕ, ◌⊎◌, inl, inr, List, [], ◌∷◌, sym, ap, ◌∙◌, subst}
use Rattle.std.specs.Prelude.{◌≢◌, Option, Some}
use Rattle.std.proofs.lemmas.Bool.{cases_eq}
use Rattle.qx_model.specs.Tree.{Row, Slot, Unused, named_by}
use Rattle.qx_model.proofs.Outlines.{Absent, AreRowsIn, Dir, IsDir, IsRootedIn, NamesIn, Outline, Plain, ReachedIn, first, more, slots_in}
use Rattle.qx_model.proofs.AddedRows.{dir_live, dir_parent, dir_slots, naming_live, set_at, set_at-other, set_at-same}

-- what becomes of an inode that loses row j of directory d: it stays, for another row names it; or it goes, for none does
pub data Fate (o new : ℕ → Outline) (d j n : ℕ) : Type 0 where
  stays : (c i : ℕ) → NamesIn o c i n → ((c ≡ d) → i ≢ j) → o n ≡ Plain → new n ≡ o n → Fate o new d j n
  goes : ((c i : ℕ) → NamesIn o c i n → (c ≡ d) × (i ≡ j)) → new n ≡ Absent → Fate o new d j n

-- directory d loses row j, which names n
pub record LosesRow (o new : ℕ → Outline) (d j n : ℕ) : Type 0 where
  pub slots : ℕ → Slot
  pub up : ℕ
  pub was : o d ≡ Dir slots up
  pub named : NamesIn o d j n
  pub now : new d ≡ Dir (set_at j Unused slots) up
  pub others : (m : ℕ) → m ≢ d → m ≢ n → new m ≡ o m
  pub silent : (k m : ℕ) → NamesIn o n k m → ⊥
  pub fate : Fate o new d j n

module _ (o new : ℕ → Outline) (d j n : ℕ) (r : IsRootedIn o) (l : LosesRow o new d j n) where
  apart : d ≢ n
  apart e = l.silent j n (subst (λ x. NamesIn o x j n) e l.named)

  not_top : n ≢ 1
  not_top e = r.no_top d j (subst (λ x. NamesIn o d j x) e l.named)

  cleared : slots_in (new d) j ≡ Unused
  cleared = dir_slots new d (set_at j Unused l.slots) l.up l.now j ∙ set_at-same j Unused l.slots

  old_row : (k : ℕ) → k ≢ j → slots_in (new d) k ≡ slots_in (o d) k
  old_row k ne = dir_slots new d (set_at j Unused l.slots) l.up l.now k ∙ set_at-other j Unused l.slots k ne ∙ sym (dir_slots o d l.slots l.up l.was k)

  -- what n is afterwards names nothing either
  still_silent : (k m : ℕ) → NamesIn new n k m → ⊥
  still_silent k m names = by_fate l.fate
    where
      by_fate : Fate o new d j n → ⊥
      by_fate (stays c i other ne plain same) = l.silent k m (subst (λ x. named_by (slots_in x k) ≡ Some m) same names)
      by_fate (goes none gone) = naming_live new n k m names gone

  -- a name that is there was there, and isn't the one that went
  name_was : (c k m : ℕ) → NamesIn new c k m → NamesIn o c k m
  name_was c k m names = elim (cases_eq c n) [
    | inl is ↦ absurd (still_silent k m (subst (λ x. NamesIn new x k m) is names))
    | inr ne ↦ elim (cases_eq c d) [
      | inl is ↦ subst (λ x. NamesIn o x k m) (sym is) (in_d (subst (λ x. NamesIn new x k m) is names) (cases_eq k j))
      | inr nd ↦ subst (λ x. named_by (slots_in x k) ≡ Some m) (l.others c nd ne) names
    ]
  ]
    where
      in_d : NamesIn new d k m → (k ≡ j) ⊎ (k ≢ j) → NamesIn o d k m
      in_d names (inl at) = let nothing : named_by Unused ≡ Some m = ap named_by (sym (ap (slots_in (new d)) at ∙ cleared)) ∙ names in absurd (cc)
      in_d names (inr ne) = ap named_by (sym (old_row k ne)) ∙ names

  -- a name but the one that went stays
  name_stays : (c k m : ℕ) → NamesIn o c k m → ((c ≡ d) → k ≢ j) → NamesIn new c k m
  name_stays c k m names other = elim (cases_eq c n) [
    | inl is ↦ absurd (l.silent k m (subst (λ x. NamesIn o x k m) is names))
    | inr ne ↦ elim (cases_eq c d) [
      | inl is ↦ subst (λ x. NamesIn new x k m) (sym is) (ap named_by (old_row k (other is)) ∙ subst (λ x. NamesIn o x k m) is names)
      | inr nd ↦ subst (λ x. named_by (slots_in x k) ≡ Some m) (sym (l.others c nd ne)) names
    ]
  ]

  -- names of others aren't the one that went
  of_another : (c k m : ℕ) → NamesIn o c k m → m ≢ n → (c ≡ d) → k ≢ j
  of_another c k m names ne is at =
      let both : Some m ≡ Some n = sym (subst (λ x. NamesIn o d x m) at (subst (λ x. NamesIn o x k m) is names)) ∙ l.named in
      let same : m ≡ n = cc in
      ne same

  reached_was : {m : ℕ} → ReachedIn new m → ReachedIn o m
  reached_was first = first
  reached_was (more {c} {m} k h names) = more k (reached_was h) (name_was c k m names)

  -- what was reached still is, but for n maybe
  reached_stays : {m : ℕ} → ReachedIn o m → (m ≡ n) ⊎ ReachedIn new m
  reached_stays first = inr first
  reached_stays (more {c} {m} k h names) = go (cases_eq m n) (reached_stays h)
    where
      go : (m ≡ n) ⊎ (m ≢ n) → (c ≡ n) ⊎ ReachedIn new c → (m ≡ n) ⊎ ReachedIn new m
      go (inl is) u = inl is
      go (inr ne) (inl is) = absurd (l.silent k m (subst (λ x. NamesIn o x k m) is names))
      go (inr ne) (inr there) = inr (more k there (name_stays c k m names (of_another c k m names ne)))

  n_was_live : o n ≢ Absent
  n_was_live = r.closed n (more j (r.reached d (dir_live (o d) l.slots l.up l.was)) l.named)

  live_was : (m : ℕ) → new m ≢ Absent → o m ≢ Absent
  live_was m h = elim (cases_eq m n) [
    | inl is ↦ subst (λ x. o x ≢ Absent) (sym is) n_was_live
    | inr ne ↦ elim (cases_eq m d) [
      | inl is ↦ dir_live (o m) l.slots l.up (ap o is ∙ l.was)
      | inr nd ↦ subst (λ x. x ≢ Absent) (l.others m nd ne) h
    ]
  ]

  live_stays : (m : ℕ) → m ≢ n → o m ≢ Absent → new m ≢ Absent
  live_stays m ne h = elim (cases_eq m d) [
    | inl is ↦ dir_live (new m) (set_at j Unused l.slots) l.up (ap new is ∙ l.now)
    | inr nd ↦ subst (λ x. x ≢ Absent) (sym (l.others m nd ne)) h
  ]

  -- n is no directory afterwards
  n_no_dir : (q : ℕ) → IsDir new n q → ⊥
  n_no_dir q h = by_fate l.fate
    where
      no_plain : (f : ℕ → Slot) → Dir f q ≡ Plain → ⊥
      no_plain f h = cc

      no_absent : (f : ℕ → Slot) → Dir f q ≡ Absent → ⊥
      no_absent f h = cc

      by_fate : Fate o new d j n → ⊥
      by_fate (stays c i other ne plain same) = no_plain h.slots (sym h.is ∙ same ∙ plain)
      by_fate (goes none gone) = no_absent h.slots (sym h.is ∙ gone)

  not_n : (m q : ℕ) → IsDir new m q → m ≢ n
  not_n m q h is = n_no_dir q (subst (λ x. IsDir new x q) is h)

  dir_was : (m q : ℕ) → IsDir new m q → IsDir o m q
  dir_was m q h = elim (cases_eq m d) [
    | inl is ↦
        let same : l.up ≡ q = dir_parent (set_at j Unused l.slots) h.slots l.up q (sym l.now ∙ ap new (sym is) ∙ h.is) in
        record { slots = l.slots; is = ap o is ∙ l.was ∙ ap (Dir l.slots) same }
    | inr nd ↦ record { slots = h.slots; is = sym (l.others m nd (not_n m q h)) ∙ h.is }
  ]

  reached : (m : ℕ) → new m ≢ Absent → ReachedIn new m
  reached m h = go (reached_stays (r.reached m (live_was m h)))
    where
      directory_there : (c i : ℕ) → NamesIn o c i n → ReachedIn new c
      directory_there c i names = there (reached_stays (r.reached c (naming_live o c i n names)))
        where
          there : (c ≡ n) ⊎ ReachedIn new c → ReachedIn new c
          there (inl is) = absurd (l.silent i n (subst (λ x. NamesIn o x i n) is names))
          there (inr h) = h

      by_fate : m ≡ n → Fate o new d j n → ReachedIn new m
      by_fate is (stays c i other ne plain same) = subst (λ x. ReachedIn new x) (sym is) (more i (directory_there c i other) (name_stays c i n other ne))
      by_fate is (goes none gone) = absurd (h (ap new is ∙ gone))

      go : (m ≡ n) ⊎ ReachedIn new m → ReachedIn new m
      go (inl is) = by_fate is l.fate
      go (inr h) = h

  closed : (m : ℕ) → ReachedIn new m → new m ≢ Absent
  closed m h = elim (cases_eq m n) [
    | inl is ↦ by_fate is l.fate h
    | inr ne ↦ live_stays m ne (r.closed m (reached_was h))
  ]
    where
      gone_unreached : ((c i : ℕ) → NamesIn o c i n → (c ≡ d) × (i ≡ j)) → {x : ℕ} → x ≡ n → ReachedIn new x → ⊥
      gone_unreached none is first = not_top (sym is)
      gone_unreached none is (more {c} {m} k h names) =
          let old = name_was c k n (subst (λ x. NamesIn new c k x) is names) in
          let at = none c k old in
          let nothing : named_by Unused ≡ Some m = ap named_by (sym (ap (λ x. slots_in (new x) k) at.0 ∙ ap (slots_in (new d)) at.1 ∙ cleared)) ∙ names in
          cc

      by_fate : m ≡ n → Fate o new d j n → ReachedIn new m → new m ≢ Absent
      by_fate is (stays c i other ne plain same) h = subst (λ x. new x ≢ Absent) (sym is) (subst (λ x. x ≢ Absent) (sym same) n_was_live)
      by_fate is (goes none gone) h = absurd (gone_unreached none is h)

  parent : (m q : ℕ) → IsDir new m q → m ≢ 1 → (k : ℕ) × NamesIn new q k m
  parent m q h ne = let w = r.parent m q (dir_was m q h) ne in (w.0, name_stays q w.0 m w.1 (of_another q w.0 m w.1 (not_n m q h)))

  rows_without : AreRowsIn d l.up (slots_in (o d)) → AreRowsIn d l.up (slots_in (new d))
  rows_without rows = record {
    plain = λ k i name x h. rows.plain k i name x (was k i name x h);
    differ = λ k b i c name x y h g. rows.differ k b i c name x y (was k i name x h) (was b c name y g);
    dot = λ k i x h. rows.dot k i x (was k i (46 ∷ []) x h);
    dots = λ k i x h. rows.dots k i x (was k i (46 ∷ 46 ∷ []) x h);
  }
    where
      was : (k i : ℕ) (name : List ℕ) (x : Option ℕ) → slots_in (new d) k ≡ Row i name x → slots_in (o d) k ≡ Row i name x
      was k i name x h = go (cases_eq k j)
        where
          clash : Unused ≡ Row i name x → ⊥
          clash h = cc

          go : (k ≡ j) ⊎ (k ≢ j) → slots_in (o d) k ≡ Row i name x
          go (inl is) = absurd (clash (sym (ap (slots_in (new d)) is ∙ cleared) ∙ h))
          go (inr ne) = sym (old_row k ne) ∙ h

  rows : (m q : ℕ) → IsDir new m q → AreRowsIn m q (slots_in (new m))
  rows m q h = elim (cases_eq m d) [
    | inl is ↦
        let old = dir_was m q h in
        let up : q ≡ l.up = dir_parent old.slots l.slots q l.up (sym old.is ∙ ap o is ∙ l.was) in
        subst (λ x. AreRowsIn x q (slots_in (new x))) (sym is)
        (subst (λ x. AreRowsIn d x (slots_in (new d))) (sym up) (rows_without (r.rows d l.up (record { slots = l.slots; is = l.was }))))
    | inr nd ↦ subst (λ x. AreRowsIn m q (slots_in x)) (sym (l.others m nd (not_n m q h))) (r.rows m q (dir_was m q h))
  ]

  top : IsDir new 1 1
  top = elim (cases_eq 1 d) [
    | inl is ↦
        let up : l.up ≡ 1 = dir_parent l.slots r.top.slots l.up 1 (sym l.was ∙ ap o (sym is) ∙ r.top.is) in
        record { slots = set_at j Unused l.slots; is = ap new is ∙ l.now ∙ ap (Dir (set_at j Unused l.slots)) up }
    | inr nd ↦ record { slots = r.top.slots; is = l.others 1 nd (λ e. not_top (sym e)) ∙ r.top.is }
  ]

  -- the outlines without the row are rooted
  pub lost_rooted : IsRootedIn new
  lost_rooted = record {
    reached = reached;
    closed = closed;
    top = top;
    parent = parent;
    no_top = λ c k names. r.no_top c k (name_was c k 1 names);
    once = λ b k c i m q x y h. r.once b k c i m q (name_was b k m x) (name_was c i m y) (dir_was m q h);
    rows = rows;
  }
