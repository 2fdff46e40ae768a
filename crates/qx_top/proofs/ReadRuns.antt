-- A run that says one line at most leaves each image as it was.
use Rattle.std.proofs.Common.{◌≡◌, ◌⊎◌, inl, inr, ℕ, List, take, sym, subst}
use Rattle.std.specs.Prelude.{IsTrue, None}
use Rattle.std.proofs.lemmas.Bool.{cases_eq}
use Rattle.qx_outside.specs.Moments.{HoldsThroughout}
use Rattle.qx_outside.specs.Outside.{Outside}
use Rattle.qx_outside.specs.Trail.{History, gave, after}
use Rattle.qx_outside.proofs.Throughout.{throughout_here, throughout_more}
use Rattle.qx_top.specs.declared.lines.Line.{Line}
use Rattle.qx_top.specs.Lines.{text_of}
use Rattle.qx_top.specs.Run.{HasSameImages, IsSafe, ReportsSupers, ReportsVerdict}
use Rattle.qx_top.specs.Says.{GivesPartOf, Says}

-- a text was given, or nothing
abbrev pub Spoke : History → History → Type 0
Spoke a b = (b ≡ a) ⊎ ((bytes : List ℕ) × (b ≡ after (gave bytes) a))

-- a part of a line is a text
spoke_part : (line : Line) (a b : History) → GivesPartOf line a b → Spoke a b
spoke_part line a b (inl same) = inl same
spoke_part line a b (inr part) = inr (take part.0 (text_of line), part.2)

module _ (status : ℕ) (old new : Outside) where
  pub spoke_says : (line : Line) (owed : ℕ) → Says line owed status old new → IsTrue new.tells → Spoke old.history new.history
  spoke_says line owed s t = elim (cases_eq status 4) [
    | inl four ↦ spoke_part line old.history new.history (s.cut four t)
    | inr whole ↦ inr (text_of line, s.whole whole t)
  ]

  spoke_supers : ReportsSupers status old new → IsTrue new.tells → Spoke old.history new.history
  spoke_supers r t = elim (cases_eq status 4) [
    | inl four ↦ elim (r.cut four t) [ inl part ↦ spoke_part _ old.history new.history part | inr fault ↦ spoke_part _ old.history new.history fault.1 ]
    | inr not_four ↦ elim (cases_eq status 3) [ inl three ↦ inr (_, r.fault three t) | inr not_three ↦ inr (_, (r.report not_three not_four t).0) ]
  ]

  spoke_verdict : ReportsVerdict status old new → IsTrue new.tells → Spoke old.history new.history
  spoke_verdict r t = elim (cases_eq status 4) [
    | inl four ↦ elim (r.cut four t) [
      | inl part ↦ spoke_part _ old.history new.history part
      | inr other ↦ elim other [ inl fault ↦ spoke_part _ old.history new.history fault.1 | inr memory ↦ spoke_part _ old.history new.history memory ]
    ]
    | inr not_four ↦ elim (cases_eq status 3) [
      | inl three ↦ inr (_, r.fault three t)
      | inr not_three ↦ elim (cases_eq status 5) [ inl five ↦ inr (_, r.memory five t) | inr not_five ↦ inr (_, (r.report not_three not_four not_five t).0) ]
    ]
  ]

-- ---- images

-- nothing was done
same_here : (h : History) → HasSameImages h h
same_here h = record { each = λ img. (λ is. is, λ is. is) }

-- a text was given
same_after_text : (bytes : List ℕ) (h : History) → HasSameImages h (after (gave bytes) h)
same_after_text bytes h = record { each = λ img. (λ is. record { size = is.size; same = is.same }, λ is. record { size = is.size; same = is.same }) }

same_throughout : (a b : History) → Spoke a b → HoldsThroughout (HasSameImages a) a b
same_throughout a b (inl same) = subst (λ (h : History). HoldsThroughout (HasSameImages a) a h) (sym same) (throughout_here (HasSameImages a) a (same_here a))
same_throughout a b (inr said) =
    subst (λ (h : History). HoldsThroughout (HasSameImages a) a h) (sym said.1)
    (throughout_more (HasSameImages a) a a (gave said.0) (throughout_here (HasSameImages a) a (same_here a)) (same_after_text said.0 a))

module _ (status : ℕ) (old new : Outside) where
  pub safe_says : (line : Line) (owed : ℕ) → Says line owed status old new → IsSafe None old new
  safe_says line owed s = record {
    before = s.before;
    step = λ moment t ready told. same_throughout old.history new.history (spoke_says status old new line owed s t);
  }

  pub safe_supers : ReportsSupers status old new → IsSafe None old new
  safe_supers r = record {
    before = r.before;
    step = λ moment t ready told. same_throughout old.history new.history (spoke_supers status old new r t);
  }

  pub safe_verdict : ReportsVerdict status old new → IsSafe None old new
  safe_verdict r = record {
    before = r.before;
    step = λ moment t ready told. same_throughout old.history new.history (spoke_verdict status old new r t);
  }
