-- The first failing test of lists end to end, and what it says that none fails.
use Rattle.std.proofs.Common.{◌≡◌, ℕ, inl, inr, List, [], ◌∷◌, ◌++◌, refl, subst}
use Rattle.std.specs.Prelude.{Bool, true, false, ◌&&◌, not, if◌then◌else◌, Option, Some, None, IsTrue}
use Rattle.qx_geom.proofs.Members.{in_cases, in_head, in_tail}
use Rattle.qx_geom.proofs.Truths.{not_so, not_true, true_or_false}
use Rattle.qx_geom.specs.Lists.{all_differ, is_in}
use Rattle.qx_view.specs.declared.findings.Code.TheVariants as codes
use Rattle.qx_view.specs.declared.findings.Finding.{Finding}
use Rattle.qx_view.specs.Walk.{Met, Test, Tested, finding_at, first_failing, gone_through, met_of, met_after, passes}

-- the first finding, or else the second
abbrev pub or_else : Option Finding → Option Finding → Option Finding
or_else None o = o
or_else (Some f) o = Some f

-- the law that a walk in parts rests on
pub first_failing-append : (met : List ℕ) (as' bs : List Test) → first_failing met (as' ++ bs) ≡ or_else (first_failing met as') (first_failing (gone_through met as') bs)
first_failing-append met [] bs = refl
first_failing-append met (a ∷ as') bs = go (passes met a) (first_failing-append (met_after met a) as' bs)
  where
    go : (b : Bool) → first_failing (met_after met a) (as' ++ bs) ≡ or_else (first_failing (met_after met a) as') (first_failing (gone_through (met_after met a) as') bs)
        → (if b then first_failing (met_after met a) (as' ++ bs) else Some (finding_at a))
        ≡ or_else (if b then first_failing (met_after met a) as' else Some (finding_at a)) (first_failing (gone_through (met_after met a) as') bs)
    go true e = e
    go false e = refl

-- where no test fails, no block of a pointer was met earlier, here or before
pub record IsMetOnce (met : List ℕ) (es : List Test) : Type 0 where
  pub new : (b : ℕ) → is_in (met_of es) b ≡ true → is_in met b ≡ false
  pub once : IsTrue (all_differ (met_of es))

-- a test that doesn't end a list without a finding passes
pub if_none : (b : Bool) (o : Option Finding) (f : Finding) → (if b then o else Some f) ≡ None → (b ≡ true) × (o ≡ None)
if_none true o f e = (refl, e)
if_none false o f e = absurd (cc)

-- where no test fails, no block is met twice
pub met_once : (met : List ℕ) (es : List Test) → first_failing met es ≡ None → IsMetOnce met es
met_once met [] e = record { new = λ b h. absurd (cc); once = refl }
met_once met (Tested code inode block b ∷ es) e =
    let ih : IsMetOnce met es = met_once met es (if_none b (first_failing met es) (record { code = code; inode = inode; block = block }) e).1 in
    record { new = ih.new; once = ih.once }
met_once met (Met inode block ∷ es) e =
    let split : (not (is_in met block) ≡ true) × (first_failing (block ∷ met) es ≡ None) = if_none (not (is_in met block)) (first_failing (block ∷ met) es) (record { code = codes.Twice; inode = inode; block = block }) e in
    let ih : IsMetOnce (block ∷ met) es = met_once (block ∷ met) es split.1 in
    record {
      new = λ b h. elim (in_cases block b (met_of es) h) [
        | inl is ↦ subst (λ z. is_in met z ≡ false) is (not_true (is_in met block) split.0)
        | inr there ↦ not_so (is_in met b) (λ t. true_or_false (is_in (block ∷ met) b) (in_tail block b met t) (ih.new b there))
      ];
      once = λ i. not (not_so (is_in (met_of es) block) (λ t. true_or_false (is_in (block ∷ met) block) (in_head block met) (ih.new block t)) i) && ih.once i;
    }
