-- The stages that zero the old areas, behind calls that only read.
use Rattle.std.proofs.Common.{◌≡◌, ℕ, Result, Ok, Err, IsErr, OnOk, List, [], ◌∷◌, ◌++◌, refl, ap, sym, ◌∙◌, subst, arith}
use Rattle.std.specs.Prelude.{Contains, IsTrue}
use Rattle.qx_outside.specs.Calls.{Idles}
use Rattle.qx_outside.specs.Moments.{HoldsThroughout, Moves, Reaches}
use Rattle.qx_outside.specs.Puts.{IsAtRest}
use Rattle.qx_outside.specs.Outside.{Outside}
use Rattle.qx_outside.specs.Trail.{History, bytes_of, others_of}
use Rattle.qx_outside.proofs.Throughout.{throughout_here}
use Rattle.qx_make.specs.Stages.{IsInStage, PerformsAll, Stage, old_places, old_stages, rest_stage, zero_stage, zero_stages, zeroed}
use Rattle.qx_make.proofs.StagesInOrder.{on_err, rest_in}

-- the stage with which they begin
begins : (old : List ℕ) (places : List ℕ) → (first : Stage) × Contains (zero_stages old places ++ rest_stage (zeroed old places) ∷ []) first × (first.kept ≡ old)
begins old [] = (rest_stage old, (0, omega arith, refl), refl)
begins old (place ∷ places) = (zero_stage old place, (0, omega arith, refl), refl)

-- at rest with these bytes is one of their stages
pub old_rest_in : (old : List ℕ) (h : History) → IsAtRest old h → IsInStage (old_stages old) h
old_rest_in old h rest = let first = begins old (old_places old) in rest_in (old_stages old) first.0 old h first.1 first.2 rest

module _ {T E : Type 0} where
  -- a read that fails
  pub reading_fails : (old : List ℕ) (result : Result T E) (a b : Outside) → IsErr result → Idles a b → PerformsAll old (zeroed old (old_places old)) (old_stages old) result a b
  reading_fails old result a b err idles = record {
    reaches = record {
      before = idles.before;
      step = λ told rest. subst (λ (h : History). HoldsThroughout (IsInStage (old_stages old)) a.history h) (sym (idles.step told)) (throughout_here (IsInStage (old_stages old)) a.history (old_rest_in old a.history rest));
    };
    ok = on_err result _ err;
    kept_ok = on_err result _ err;
    others = λ told. ap (λ (h : History). others_of h.deeds) (idles.step told);
  }

  -- stages that are known once the device's bytes are, behind calls that read them
  module _ (kept all : List ℕ) (stages : List Stage) (a b c : Outside) (idles : Idles a b) (before : IsTrue c.tells → IsTrue b.tells) where
    pub read_reaches : (result : Result T E) → (IsTrue b.tells → bytes_of b.history ≡ kept → PerformsAll kept all stages result b c) → Reaches (IsAtRest kept) (IsInStage stages) a c
    read_reaches result given = record {
      before = λ told. idles.before (before told);
      step = λ told rest.
          let same : b.history ≡ a.history = idles.step (before told) in
          let there : IsAtRest kept b.history = subst (λ (h : History). IsAtRest kept h) (sym same) rest in
          subst (λ (h : History). HoldsThroughout (IsInStage stages) h c.history) same ((given (before told) there.bytes_are).reaches.step told there);
    }

    pub read_ok : (result : Result T E) → (IsTrue b.tells → bytes_of b.history ≡ kept → PerformsAll kept all stages result b c) → OnOk result (Moves (IsAtRest kept) (IsAtRest all) (IsInStage stages) a c)
    read_ok (Err e) given = tt
    read_ok (Ok x) given = record {
      before = λ told. idles.before (before told);
      step = λ told rest.
          let same : b.history ≡ a.history = idles.step (before told) in
          let there : IsAtRest kept b.history = subst (λ (h : History). IsAtRest kept h) (sym same) rest in
          subst (λ (h : History). HoldsThroughout (IsInStage stages) h c.history × IsAtRest all c.history) same ((given (before told) there.bytes_are).ok.step told there);
    }

    pub read_kept : (result : Result T E) → (IsTrue b.tells → bytes_of b.history ≡ kept → PerformsAll kept all stages result b c) → OnOk result (IsTrue c.tells → bytes_of a.history ≡ kept → IsAtRest all c.history)
    read_kept (Err e) given = tt
    read_kept (Ok x) given = λ told is.
        let there : bytes_of b.history ≡ kept = ap bytes_of (idles.step (before told)) ∙ is in
        (given (before told) there).kept_ok told there

    pub then_stages : (result : Result T E) → (IsTrue b.tells → bytes_of b.history ≡ kept → PerformsAll kept all stages result b c)
        → (IsTrue c.tells → others_of c.history.deeds ≡ others_of b.history.deeds) → PerformsAll kept all stages result a c
    then_stages result given others = record {
      reaches = read_reaches result given;
      ok = read_ok result given;
      kept_ok = read_kept result given;
      others = λ told. others told ∙ ap (λ (h : History). others_of h.deeds) (idles.step (before told));
    }

-- one read after another
pub idles_then : (a b c : Outside) → Idles a b → Idles b c → Idles a c
idles_then a b c first second = record { before = λ told. first.before (second.before told); step = λ told. second.step told ∙ first.step (second.before told) }
