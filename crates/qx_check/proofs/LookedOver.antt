-- What the checker does to the device, by what the walk does.
use Rattle.std.proofs.Common.{◌≡◌, ℕ, ◌+◌, refl, ◌∙◌, ap, subst, arith}
use Rattle.std.specs.Prelude.{IfSome, Result, Ok, Err, Some, is_some, unwrap_or}
use Rattle.qx_outside.specs.Calls.{Idles, LeavesRest}
use Rattle.qx_outside.specs.Causes.{Rose}
use Rattle.qx_outside.specs.Outside.{Outside}
use Rattle.qx_pointers.specs.Shown.{Looks}
use Rattle.qx_view.specs.declared.findings.Finding.{Finding}
use Rattle.qx_walk.specs.declared.survey.Survey.{Survey}
use Rattle.qx_walk.specs.declared.survey.WalkFault.{WalkFault}
use Rattle.qx_walk.specs.declared.survey.WalkFault.TheVariants as walks
use Rattle.qx_check.specs.declared.verdict.CheckFault.{CheckFault}
use Rattle.qx_check.specs.declared.verdict.CheckFault.TheVariants as faults
use Rattle.qx_check.specs.declared.verdict.Verdict.{Verdict}
use Rattle.qx_check.specs.Verdicts.{LooksOver}

-- an answer of the walk that isn't a survey, and one of the checker that isn't a verdict
abbrev no_survey : WalkFault → Result Survey WalkFault
no_survey fault = Err fault

abbrev no_verdict : CheckFault → Result Verdict CheckFault
no_verdict fault = Err fault

-- the length was asked for, and is this number
pub record Asked (a b : Outside) (n : ℕ) : Type 0 where
  pub step : Idles a b
  pub rest : LeavesRest a b
  pub kept : b.dev_faults ≡ a.dev_faults
  pub value : IfSome b.extent (λ len. n ≡ len)

module _ (a b c : Outside) (n : ℕ) (asked : Asked a b n) where
  -- the walk comes next, and the answer is the device's fault just where that of the walk is
  looked : (r : Result Survey WalkFault) (q : Result Verdict CheckFault) → (q ≡ Err faults.Device → r ≡ Err walks.Device) → (r ≡ Err walks.Device → q ≡ Err faults.Device)
      → Looks walks.Device 0 (n + 2) b c r → LooksOver a c q
  looked r q back on p = record {
    most = n + 2;
    few = λ len told. let is : n ≡ len = subst (λ o. IfSome o (λ m. n ≡ m)) (p.reads.extent len told) asked.value in omega (arith, is);
    looks = record {
      reads = record {
        before = λ t. asked.step.before (p.reads.before t);
        same = λ t. p.reads.same t ∙ asked.step.step (p.reads.before t);
        extent = λ len told. subst (λ o. IfSome o (λ m. a.extent ≡ Some m)) (p.reads.extent len told) asked.rest.extent_same.same;
        counted = p.reads.counted ∙ ap is_some asked.rest.reads;
        reads = omega (arith, p.reads.reads, ap (λ o. unwrap_or o 0) asked.rest.reads);
        paths = p.reads.paths ∙ asked.rest.paths;
        console = p.reads.console ∙ asked.rest.console;
      };
      cause = record {
        later = omega (arith, asked.kept, p.cause.later);
        failed = λ e. subst (λ n. Rose n c.dev_faults) asked.kept (p.cause.failed (back e));
        kept = λ no. p.cause.kept (λ e. no (on e)) ∙ asked.kept;
      };
    };
  }

  -- for each answer of the walk
  pub looked_for_none : Looks walks.Device 0 (n + 2) b c (no_survey walks.NoVolume) → LooksOver a c (no_verdict faults.NoVolume)
  looked_for_none = looked _ _ (λ e. absurd (cc)) (λ e. absurd (cc))

  pub looked_at_two : Looks walks.Device 0 (n + 2) b c (no_survey walks.Disagree) → LooksOver a c (no_verdict faults.Disagree)
  looked_at_two = looked _ _ (λ e. absurd (cc)) (λ e. absurd (cc))

  pub looked_in_vain : Looks walks.Device 0 (n + 2) b c (no_survey walks.Device) → LooksOver a c (no_verdict faults.Device)
  looked_in_vain = looked _ _ (λ e. refl) (λ e. refl)

  pub looked_without_room : Looks walks.Device 0 (n + 2) b c (no_survey walks.NoMemory) → LooksOver a c (no_verdict faults.NoMemory)
  looked_without_room = looked _ _ (λ e. absurd (cc)) (λ e. absurd (cc))

  pub looked_and_found : (finding : Finding) (verdict : Verdict) → Looks walks.Device 0 (n + 2) b c (no_survey (walks.Finding finding)) → LooksOver a c (Ok verdict)
  looked_and_found finding verdict = looked _ _ (λ e. absurd (cc)) (λ e. absurd (cc))

  pub looked_through : (survey : Survey) (verdict : Verdict) → Looks walks.Device 0 (n + 2) b c (Ok survey) → LooksOver a c (Ok verdict)
  looked_through survey verdict = looked _ _ (λ e. absurd (cc)) (λ e. absurd (cc))
