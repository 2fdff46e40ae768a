-- What holds at each moment, carried on from deed to deed, from call to call, and from turn to turn.
use Rattle.std.proofs.Common.{◌≡◌, ◌≤◌, ◌⊎◌, inl, inr, Bool, length, drop, zero, suc, arith, ℕ, List, [], ◌∷◌, ◌++◌, refl, ap, sym, ◌∙◌, subst, append_assoc, append-nil}
use Rattle.std.specs.Prelude.{IsTrue}
use Rattle.qx_outside.specs.Outside.{Outside}
use Rattle.qx_outside.specs.Trail.{History, Deed, wrote, synced, sized, after}
use Rattle.qx_outside.specs.Calls.{Idles, Did, Writes, Syncs, Sizes, IsOfConsole, Converses}
use Rattle.qx_outside.specs.Moments.{grown, HoldsAlong, HoldsThroughout, Keeps, Moves, Reaches}

-- ---- histories

module _ (P : History → Type 0) where
  -- of one history alone
  pub throughout_here : (h : History) → P h → HoldsThroughout P h h
  throughout_here h p = record { since = []; grew = refl; along = p }

  last_along : (old : History) (since : List Deed) → HoldsAlong P old since → P (grown old since)
  last_along old [] along = along
  last_along old (deed ∷ since) along = along.0

  -- it holds of the new one
  pub throughout_last : (old new : History) → HoldsThroughout P old new → P new
  throughout_last old new t = subst P (sym t.grew) (last_along old t.since t.along)

  first_along : (old : History) (since : List Deed) → HoldsAlong P old since → P old
  first_along old [] along = along
  first_along old (deed ∷ since) along = first_along old since along.1

  -- it holds of the old one
  pub throughout_first : (old new : History) → HoldsThroughout P old new → P old
  throughout_first old new t = first_along old t.since t.along

  -- one more deed
  pub throughout_more : (old new : History) (deed : Deed) → HoldsThroughout P old new → P (after deed new) → HoldsThroughout P old (after deed new)
  throughout_more old new deed t p = record {
    since = deed ∷ t.since;
    grew = ap (λ (h : History). after deed h) t.grew;
    along = (subst (λ (h : History). P (after deed h)) t.grew p, t.along);
  }

  along_then : (old : History) (first second : List Deed) → HoldsAlong P old first → HoldsAlong P (grown old first) second → HoldsAlong P old (second ++ first)
  along_then old first [] a b = a
  along_then old first (deed ∷ second) a b =
      (subst (λ (deeds : List Deed). P (record { starting = old.starting; deeds = deed ∷ deeds })) (sym (append_assoc second first old.deeds)) b.0, along_then old first second a b.1)

  -- one run after another
  pub throughout_then : (a b c : History) → HoldsThroughout P a b → HoldsThroughout P b c → HoldsThroughout P a c
  throughout_then a b c s t = record {
    since = t.since ++ s.since;
    grew = t.grew ∙ ap (λ (h : History). grown h t.since) s.grew ∙ ap (λ (deeds : List Deed). record { starting = a.starting; deeds = deeds }) (sym (append_assoc t.since s.since a.deeds));
    along = along_then a s.since t.since s.along (subst (λ (h : History). HoldsAlong P h t.since) s.grew t.along);
  }

  -- from a start with no deed it holds of each prefix of the run
  every_along : (old : History) (since : List Deed) (n : ℕ) → HoldsAlong P old since → n ≤ length since → P (grown old (drop n since))
  every_along old since zero along within = last_along old since along
  every_along old [] (suc n) along within = absurd (omega arith)
  every_along old (deed ∷ since) (suc n) along within = every_along old since n along.1 (omega arith)

  pub throughout_every : (old new : History) (n : ℕ) → HoldsThroughout P old new → old.deeds ≡ [] → n ≤ length new.deeds → P (record { starting = new.starting; deeds = drop n new.deeds })
  throughout_every old new n t empty within =
      let whole : new ≡ record { starting = old.starting; deeds = t.since } = t.grew ∙ ap (λ (deeds : List Deed). record { starting = old.starting; deeds = deeds }) (ap (λ (deeds : List Deed). t.since ++ deeds) empty ∙ append-nil t.since) in
      let short : n ≤ length t.since = subst (λ (h : History). n ≤ length h.deeds) whole within in
      let there : P (record { starting = old.starting; deeds = drop n t.since }) = subst (λ (deeds : List Deed). P (record { starting = old.starting; deeds = deeds })) (ap (λ (deeds : List Deed). drop n t.since ++ deeds) empty ∙ append-nil (drop n t.since)) (every_along old t.since n t.along short) in
      subst (λ (h : History). P (record { starting = h.starting; deeds = drop n h.deeds })) (sym whole) there

-- what follows from P holds as well
module _ (P Q : History → Type 0) (f : (h : History) → P h → Q h) where
  along_map : (old : History) (since : List Deed) → HoldsAlong P old since → HoldsAlong Q old since
  along_map old [] along = f old along
  along_map old (deed ∷ since) along = (f _ along.0, along_map old since along.1)

  pub throughout_map : (a b : History) → HoldsThroughout P a b → HoldsThroughout Q a b
  throughout_map a b t = record { since = t.since; grew = t.grew; along = along_map a t.since t.along }

-- ---- calls

-- what a call may do, as one deed with a fact of it, or none
pub record Does (F : Deed → Type 0) (old new : Outside) : Type 0 where
  pub before : IsTrue new.tells → IsTrue old.tells
  pub step : IsTrue new.tells → (new.history ≡ old.history) ⊎ ((deed : Deed) × F deed × (new.history ≡ after deed old.history))

-- a write of these bytes there, well or not
abbrev pub IsWrite : ℕ → List ℕ → Deed → Type 0
IsWrite at asked deed = (left : List ℕ) × ((ok : Bool) × (length left ≡ length asked) × (deed ≡ wrote at asked left ok))

abbrev pub IsSync : Deed → Type 0
IsSync deed = (ok : Bool) × (deed ≡ synced ok)

abbrev pub IsSize : ℕ → Deed → Type 0
IsSize len deed = (ok : Bool) × (deed ≡ sized len ok)

pub does_writes : (at : ℕ) (asked : List ℕ) (a b : Outside) → Writes at asked a b → Does (IsWrite at asked) a b
does_writes at asked a b w = record {
  before = w.before;
  step = λ t. elim (w.step t) [
    | inl same ↦ inl same
    | inr did ↦ inr (wrote at asked did.0 did.1.0, (did.0, (did.1.0, did.1.1, refl)), did.1.2)
  ];
}

pub does_syncs : (a b : Outside) → Syncs a b → Does IsSync a b
does_syncs a b w = record {
  before = w.before;
  step = λ t. elim (w.step t) [
    | inl same ↦ inl same
    | inr did ↦ inr (synced did.0, (did.0, refl), did.1)
  ];
}

pub does_sizes : (len : ℕ) (a b : Outside) → Sizes len a b → Does (IsSize len) a b
does_sizes len a b w = record {
  before = w.before;
  step = λ t. elim (w.step t) [
    | inl same ↦ inl same
    | inr did ↦ inr (sized len did.0, (did.0, refl), did.1)
  ];
}

pub does_converses : (a b : Outside) → Converses a b → Does IsOfConsole a b
does_converses a b w = record { before = w.before; step = w.step }

-- ---- a fact that is kept

module _ (P : History → Type 0) where
  pub keeps_here : (a : Outside) → Keeps P a a
  keeps_here a = record { before = λ t. t; step = λ t p. throughout_here P a.history p }

  pub keeps_then : (a b c : Outside) → Keeps P b c → Keeps P a b → Keeps P a c
  keeps_then a b c l k = record {
    before = λ t. k.before (l.before t);
    step = λ t p. let first = k.step (l.before t) p in throughout_then P a.history b.history c.history first (l.step t (throughout_last P a.history b.history first));
  }

  pub keeps_idle : (a b : Outside) → Idles a b → Keeps P a b
  keeps_idle a b i = record { before = i.before; step = λ t p. subst (λ (h : History). HoldsThroughout P a.history h) (sym (i.step t)) (throughout_here P a.history p) }

  -- a call that does at most one deed, where such a deed keeps P
  pub keeps_does : (F : Deed → Type 0) → ((h : History) (deed : Deed) → F deed → P h → P (after deed h)) → (a b : Outside) → Does F a b → Keeps P a b
  keeps_does F f a b d = record {
    before = d.before;
    step = λ t p. elim (d.step t) [
      | inl same ↦ subst (λ (h : History). HoldsThroughout P a.history h) (sym same) (throughout_here P a.history p)
      | inr did ↦ subst (λ (h : History). HoldsThroughout P a.history h) (sym did.2) (throughout_more P a.history a.history did.0 (throughout_here P a.history p) (f a.history did.0 did.1 p))
    ];
  }

-- ---- from one state to the next

module _ (L M N Q : History → Type 0) where
  pub moves_here : ((h : History) → L h → Q h) → (a : Outside) → Moves L L Q a a
  moves_here q a = record { before = λ t. t; step = λ t l. (throughout_here Q a.history (q a.history l), l) }

  pub moves_idle : (a b c : Outside) → Idles b c → Moves L M Q a b → Moves L M Q a c
  moves_idle a b c i m = record {
    before = λ t. m.before (i.before t);
    step = λ t l. subst (λ (h : History). HoldsThroughout Q a.history h × M h) (sym (i.step t)) (m.step (i.before t) l);
  }

  -- a deed that was done leads from M to N
  pub moves_did : (deed : Deed) → ((h : History) → M h → N (after deed h)) → ((h : History) → N h → Q h) → (a b c : Outside) → Did deed b c → Moves L M Q a b → Moves L N Q a c
  moves_did deed f q a b c d m = record {
    before = λ t. m.before (d.before t);
    step = λ t l.
        let x = m.step (d.before t) l in
        let n : N (after deed b.history) = f b.history x.1 in
        subst (λ (h : History). HoldsThroughout Q a.history h × N h) (sym (d.step t)) (throughout_more Q a.history b.history deed x.0 (q (after deed b.history) n), n);
  }

  -- a call that does at most one deed, of which each leaves Q
  pub reaches_does : (F : Deed → Type 0) → ((h : History) (deed : Deed) → F deed → M h → Q (after deed h)) → (a b c : Outside) → Does F b c → Moves L M Q a b → Reaches L Q a c
  reaches_does F f a b c d m = record {
    before = λ t. m.before (d.before t);
    step = λ t l.
        let x = m.step (d.before t) l in
        elim (d.step t) [
          | inl same ↦ subst (λ (h : History). HoldsThroughout Q a.history h) (sym same) x.0
          | inr did ↦ subst (λ (h : History). HoldsThroughout Q a.history h) (sym did.2) (throughout_more Q a.history b.history did.0 x.0 (f b.history did.0 did.1 x.1))
        ];
  }

  pub reaches_moves : (a b : Outside) → Moves L M Q a b → Reaches L Q a b
  reaches_moves a b m = record { before = m.before; step = λ t l. (m.step t l).0 }

  -- two runs, one after the other
  pub moves_then : (a b c : Outside) → Moves M N Q b c → Moves L M Q a b → Moves L N Q a c
  moves_then a b c second first = record {
    before = λ t. first.before (second.before t);
    step = λ t l.
        let x = first.step (second.before t) l in
        let y = second.step t x.1 in
        (throughout_then Q a.history b.history c.history x.0 y.0, y.1);
  }

  pub reaches_then : (a b c : Outside) → Reaches M Q b c → Moves L M Q a b → Reaches L Q a c
  reaches_then a b c second first = record {
    before = λ t. first.before (second.before t);
    step = λ t l.
        let x = first.step (second.before t) l in
        throughout_then Q a.history b.history c.history x.0 (second.step t x.1);
  }
