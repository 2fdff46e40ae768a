-- Stages one after another: each begins where the one before it rests.
use Rattle.std.proofs.Common.{◌≡◌, ℕ, inl, inr, Result, Ok, Err, IsErr, OnOk, List, sym, ◌∙◌, subst}
use Rattle.std.specs.Prelude.{Contains}
use Rattle.qx_outside.specs.Moments.{Moves, Reaches}
use Rattle.qx_outside.specs.Puts.{IsAtRest}
use Rattle.qx_outside.specs.Outside.{Outside}
use Rattle.qx_outside.specs.Trail.{History}
use Rattle.qx_outside.proofs.PuttingMoments.{IsPutting-rest}
use Rattle.qx_outside.proofs.Throughout.{reaches_then, moves_then, throughout_map}
use Rattle.qx_make.specs.Stages.{IsInStage, Passes, Performs, PerformsAll, Stage, after_stage}

-- what is said of an Ok follows from another thing that is said of it
pub on_ok : {T E : Type 0} (result : Result T E) (P Q : Type 0) → (P → Q) → OnOk result P → OnOk result Q
on_ok (Ok x) P Q f p = f p
on_ok (Err e) P Q f p = tt

-- and holds of an Err
pub on_err : {T E : Type 0} (result : Result T E) (P : Type 0) → IsErr result → OnOk result P
on_err (Ok x) P err = absurd (cc err)
on_err (Err e) P err = tt

-- at rest is one of the stages
pub rest_in : (stages : List Stage) (next : Stage) (bytes : List ℕ) (h : History) → Contains stages next → next.kept ≡ bytes → IsAtRest bytes h → IsInStage stages h
rest_in stages next bytes h among same rest = record { stage = next; among = among; putting = IsPutting-rest next.kept next.puts h (subst (λ (l : List ℕ). IsAtRest l h) (sym same) rest) }

-- so is a stage on its way or done, where the next one begins behind it
pub passes_in : (stages : List Stage) (stage next : Stage) (h : History) → Contains stages stage → Contains stages next → next.kept ≡ after_stage stage → Passes stage h → IsInStage stages h
passes_in stages stage next h among then same passes = elim passes [
  | inl putting ↦ record { stage = stage; among = among; putting = putting }
  | inr rest ↦ rest_in stages next (after_stage stage) h then same rest
]

-- what holds at each moment may be weaker
pub reaches_map : (L Q R : History → Type 0) → ((h : History) → Q h → R h) → (a b : Outside) → Reaches L Q a b → Reaches L R a b
reaches_map L Q R f a b r = record { before = r.before; step = λ t l. throughout_map Q R f a.history b.history (r.step t l) }

pub moves_map : (L M Q R : History → Type 0) → ((h : History) → Q h → R h) → (a b : Outside) → Moves L M Q a b → Moves L M R a b
moves_map L M Q R f a b m = record { before = m.before; step = λ t l. let x = m.step t l in (throughout_map Q R f a.history b.history x.0, x.1) }

module _ {T E : Type 0} where
  -- one stage of several
  pub perform_one : (stages : List Stage) (stage next : Stage) → Contains stages stage → Contains stages next → next.kept ≡ after_stage stage
      → (result : Result T E) (a b : Outside) → Performs stage result a b → PerformsAll stage.kept (after_stage stage) stages result a b
  perform_one stages stage next among then same result a b p = record {
    reaches = reaches_map (IsAtRest stage.kept) (Passes stage) (IsInStage stages) (λ h. passes_in stages stage next h among then same) a b p.reaches;
    ok = on_ok result _ _ (moves_map (IsAtRest stage.kept) (IsAtRest (after_stage stage)) (Passes stage) (IsInStage stages) (λ h. passes_in stages stage next h among then same) a b) p.ok;
    kept_ok = p.kept;
    others = p.others;
  }

  -- more stages behind them
  pub perform_then : (stages : List Stage) (kept mid all : List ℕ) {F : Type 0} (x : T) (result : Result T E) (a b c : Outside)
      → PerformsAll {E = F} kept mid stages (Ok x) a b → PerformsAll mid all stages result b c → PerformsAll kept all stages result a c
  perform_then stages kept mid all x result a b c first second = record {
    reaches = reaches_then (IsAtRest kept) (IsAtRest mid) (IsAtRest mid) (IsInStage stages) a b c second.reaches first.ok;
    ok = on_ok result _ _ (λ m. moves_then (IsAtRest kept) (IsAtRest mid) (IsAtRest all) (IsInStage stages) a b c m first.ok) second.ok;
    kept_ok = on_ok result _ _ (λ f told is. f told (first.kept_ok (second.reaches.before told) is).bytes_are) second.kept_ok;
    others = λ told. second.others told ∙ first.others (second.reaches.before told);
  }

  -- where they fail it doesn't matter how far they were to lead, nor with which answer
  pub perform_fails : {F G : Type 0} (stages : List Stage) (kept mid all : List ℕ) (inner : Result F G) (result : Result T E) (a b : Outside) → IsErr result
      → PerformsAll kept mid stages inner a b → PerformsAll kept all stages result a b
  perform_fails stages kept mid all inner result a b err p = record { reaches = p.reaches; ok = on_err result _ err; kept_ok = on_err result _ err; others = p.others }
