-- A run in which no call fails ends well.
use Rattle.std.proofs.Common.{◌≡◌, ◌⊎◌, inl, inr, ℕ, zero, suc, ◌-◌, ◌^◌, ◌<◌, List, sym, ◌∙◌, arith}
use Rattle.std.specs.Prelude.{IsTrue, None, Some}
use Rattle.qx_outside.specs.Causes.{Rose}
use Rattle.qx_outside.specs.Outside.{Outside}
use Rattle.qx_view.specs.Sound.{verdict_of}
use Rattle.qx_shell.specs.Ends.{at_last, at_limit, in_limit, in_text}
use Rattle.qx_shell.specs.Headline.{HasRisenBy, IsMountedRun, IsToldRun, RunsShell, mounted, unmounted}
use Rattle.qx_shell.specs.Mounts.{How}
use Rattle.qx_shell.specs.Unmounted.{IsUnmountable, by_device, by_image, by_memory, cut_short, refusal_line, said, without_moment}
use Rattle.qx_shell.proofs.DurableRuns.{last_status}

-- a count that stands below its last value didn't rise
not_risen : (n before now : ℕ) → HasRisenBy n before now → before < 2 ^ 64 - 1 → now ≡ before → 0 < n → ⊥
not_risen zero before now h below same some = omega arith
not_risen (suc n) before now h below same some = omega (arith, h)

not_rose : (before now : ℕ) → Rose before now → before < 2 ^ 64 - 1 → now ≡ before → ⊥
not_rose before now h below same = omega (arith, h)

no_line : {line : List ℕ} → None ≡ Some line → ⊥
no_line h = cc

-- with status 0, or 6, or 5 for want of memory
pub ends_well : (image : List ℕ) (how : How) (status : ℕ) (old new : Outside) → RunsShell image how status old new → IsTrue new.tells → refusal_line how (verdict_of new.history.starting) ≡ None
    → old.dev_faults < 2 ^ 64 - 1 → new.dev_faults ≡ old.dev_faults → old.con_faults < 2 ^ 64 - 1 → new.con_faults ≡ old.con_faults
    → (status ≡ 0) ⊎ ((status ≡ 6) ⊎ (status ≡ 5))
ends_well image how status old new r tells mounts below same con_below con_same = go (r.told tells)
  where
    not_three : status ≡ 3 → ⊥
    not_three h = not_risen r.causes.faults old.dev_faults new.dev_faults r.causes.device below same (r.causes.device_failed h)

    not_four : status ≡ 4 → ⊥
    not_four h = not_rose old.con_faults new.con_faults (r.causes.console_failed h) con_below con_same

    by_last : (status ≡ 0) ⊎ ((status ≡ 3) ⊎ (status ≡ 5)) → (status ≡ 0) ⊎ ((status ≡ 6) ⊎ (status ≡ 5))
    by_last (inl h) = inl h
    by_last (inr (inl h)) = absurd (not_three h)
    by_last (inr (inr h)) = inr (inr h)

    by_end : (m : IsMountedRun how new.history status) → (status ≡ 0) ⊎ ((status ≡ 6) ⊎ (status ≡ 5))
    by_end m = elim m.ends [
      | at_last over last put ↦ by_last (last_status m.made status last)
      | at_limit six reached put ↦ inr (inl six)
      | in_text four front behind ↦ absurd (not_four four)
      | in_limit n four reached within put ↦ absurd (not_four four)
    ]

    by_reason : {line : List ℕ} {faults : ℕ} → IsUnmountable how new.history.starting status line faults → (status ≡ 0) ⊎ ((status ≡ 6) ⊎ (status ≡ 5))
    by_reason (by_image two is none) = absurd (no_line (sym mounts ∙ is))
    by_reason (by_device three is one) = absurd (not_three three)
    by_reason (by_memory five is none) = inr (inr five)

    go : IsToldRun image how status old new → (status ≡ 0) ⊎ ((status ≡ 6) ⊎ (status ≡ 5))
    go (mounted m risen attached) = by_end m
    go (unmounted faults u risen) = elim u.says [
      | said why ↦ by_reason why
      | cut_short owed line four why front ↦ absurd (not_four four)
      | without_moment four none nothing ↦ absurd (not_four four)
    ]
