-- What a sync makes of a machine, and what it tells.
use Rattle.std.proofs.Common.{◌≡◌, ℕ, zero, suc, ◌+◌, ◌-◌, ◌<◌, ◌⊎◌, inl, inr, List, [], ◌∷◌, ◌++◌, length, replicate, refl, sym, ap, ◌∙◌, subst, arith, append_assoc}
use Rattle.std.specs.Prelude.{Bool, true, false, Option, Some, None, nat_le, if◌then◌else◌}
use Rattle.std.proofs.lemmas.Bool.Decides.{nat_tests}
use Rattle.qx_model.specs.declared.notices.Notice.{Notice}
use Rattle.qx_model.specs.Machine.{Machine, Frozen}
use Rattle.qx_model.specs.Snapshots.{Move, Step, after_move, after_moves, begun, due_of, finishing, is_last_step, step_to, stepped, steps_wanted, told_along, told_by, told_by_step, told_if, whole_snapshot}
use Rattle.qx_model.specs.Plans.{snapshot_if_changed, sync_moves}
use Rattle.qx_model.proofs.MoveRuns.{after_moves-append}
use Rattle.qx_shell.specs.NewestCopies.{IsMarked, IsAllDurable, newest_copy_by}
use Rattle.qx_shell.proofs.EmptyLists.{both_empty}
use Rattle.qx_shell.proofs.MarkedMachines.{moves_marked, some_steps}

-- ---- steps

-- all steps that are left end the snapshot, tell of it, and change nothing of the working copy
record IsFinished (s t : Machine) (told : List Notice) : Type 0 where
  pub none : t.frozen ≡ None
  pub changed : t.changed ≡ s.changed
  pub told_some : 0 < length told

last_when : (p : Frozen) → p.due ≡ 1 → is_last_step p ≡ true
last_when p h = subst (λ n. nat_le n 1 ≡ true) (sym h) refl

not_last_when : (p : Frozen) (n : ℕ) → p.due ≡ suc (suc n) → is_last_step p ≡ false
not_last_when p n h = subst (λ k. nat_le k 1 ≡ false) (sym h) (grind (arith, nat_tests))

steps_finish : (n moment : ℕ) (s : Machine) (p : Frozen) → s.frozen ≡ Some p → p.due ≡ suc n → IsFinished s (after_moves moment s (replicate (suc n) Step)) (told_along moment s (replicate (suc n) Step))
steps_finish zero moment s p is due =
    subst (λ (o : Option Frozen). IsFinished s (stepped s o) (told_by_step o ++ [])) (sym is)
    (subst (λ b. IsFinished s (step_to b s p) (told_if b p ++ [])) (sym (last_when p due)) (record { none = refl; changed = refl; told_some = omega arith }))
steps_finish (suc n) moment s p is due =
    subst (λ (o : Option Frozen). IsFinished s (after_moves moment (stepped s o) (replicate (suc n) Step)) (told_by_step o ++ told_along moment (stepped s o) (replicate (suc n) Step))) (sym is)
    (subst (λ b. IsFinished s (after_moves moment (step_to b s p) (replicate (suc n) Step)) (told_if b p ++ told_along moment (step_to b s p) (replicate (suc n) Step))) (sym (not_last_when p n due))
    (let q : Frozen = record p { due = p.due - 1 } in
    let t : Machine = record s { frozen = Some q } in
    let rest = steps_finish n moment t q refl (omega arith) in
    record { none = rest.none; changed = rest.changed; told_some = rest.told_some }))

-- a number above 0
is_suc : (n : ℕ) → 0 < n → (k : ℕ) × (n ≡ suc k)
is_suc zero h = absurd (omega arith)
is_suc (suc k) h = (k, refl)

-- those that are left of a snapshot in progress
finish_moves : (moment : ℕ) (s : Machine) (p : Frozen) → s.frozen ≡ Some p → 0 < p.due → IsFinished s (after_moves moment s (finishing s)) (told_along moment s (finishing s))
finish_moves moment s p is positive =
    let (k, due) = is_suc p.due positive in
    subst (λ n. IsFinished s (after_moves moment s (replicate n Step)) (told_along moment s (replicate n Step))) (sym (ap due_of is ∙ due)) (steps_finish k moment s p is due)

-- and a whole snapshot
whole_finishes : (moment : ℕ) (s : Machine) → IsFinished (begun moment s) (after_moves moment s (whole_snapshot s)) (told_along moment s (whole_snapshot s))
whole_finishes moment s = finish_moves moment (begun moment s) (record { snapshot = record { copy = s.working; serial = s.durable.serial + 1 }; due = steps_wanted s }) refl (some_steps s)

-- steps without a snapshot do nothing
pub steps_idle : (n moment : ℕ) (s : Machine) → s.frozen ≡ None → after_moves moment s (replicate n Step) ≡ s
steps_idle zero moment s none = refl
steps_idle (suc n) moment s none = ap (λ x. after_moves moment x (replicate n Step)) (ap (stepped s) none) ∙ steps_idle n moment s none

-- ---- a snapshot in progress is finished

-- nothing is in progress then, and there is as much to keep as before
record IsIdle (s t : Machine) : Type 0 where
  pub none : t.frozen ≡ None
  pub changed : t.changed ≡ s.changed

finishing_ends : (moment : ℕ) (s : Machine) → IsMarked s → IsIdle s (after_moves moment s (finishing s))
finishing_ends moment s m = go s.frozen refl
  where
    go : (o : Option Frozen) → s.frozen ≡ o → IsIdle s (after_moves moment s (finishing s))
    go None is = subst (λ n. IsIdle s (after_moves moment s (replicate n Step))) (sym (ap due_of is)) (record { none = is; changed = refl })
    go (Some p) is = by_steps m.steps
      where
        by_steps : (s.frozen ≡ None) ⊎ (0 < due_of s.frozen) → IsIdle s (after_moves moment s (finishing s))
        by_steps (inl none) = absurd (clash (sym is ∙ none))
          where
            clash : Some p ≡ None → ⊥
            clash h = cc
        by_steps (inr some) = let f = finish_moves moment s p is (subst (λ n. 0 < n) (ap due_of is) some) in record { none = f.none; changed = f.changed }

-- what is told of a snapshot in progress is something
finishing_tells : (moment : ℕ) (s : Machine) → IsMarked s → told_along moment s (finishing s) ≡ [] → s.frozen ≡ None
finishing_tells moment s m silent = go s.frozen refl
  where
    go : (o : Option Frozen) → s.frozen ≡ o → s.frozen ≡ None
    go None is = is
    go (Some p) is = by_steps m.steps
      where
        by_steps : (s.frozen ≡ None) ⊎ (0 < due_of s.frozen) → s.frozen ≡ None
        by_steps (inl none) = none
        by_steps (inr some) =
            let f = finish_moves moment s p is (subst (λ n. 0 < n) (ap due_of is) some) in
            let none : length (told_along moment s (finishing s)) ≡ 0 = ap length silent in
            let told = f.told_some in
            absurd (omega arith)

-- ---- syncs

-- what is told along moves, first some, then more
told_along-append : (moment : ℕ) (ms ns : List Move) (s : Machine) → told_along moment s (ms ++ ns) ≡ told_along moment s ms ++ told_along moment (after_moves moment s ms) ns
told_along-append moment [] ns s = refl
told_along-append moment (m ∷ ms) ns s =
    ap (λ x. told_by s m ++ x) (told_along-append moment ms ns (after_move moment s m))
    ∙ sym (append_assoc (told_by s m) (told_along moment (after_move moment s m) ms) (told_along moment (after_moves moment (after_move moment s m) ms) ns))

settled : (s : Machine) → IsMarked s → s.frozen ≡ None → s.changed ≡ false → IsAllDurable s
settled s m none unchanged = record { none = none; unchanged = unchanged; kept = sym (ap (newest_copy_by s.durable.copy) none) ∙ m.kept unchanged }

-- a sync leaves all settled
pub sync_settles : (moment : ℕ) (s : Machine) → IsMarked s → IsAllDurable (after_moves moment s (sync_moves moment s))
sync_settles moment s m =
    settled (after_moves moment s (sync_moves moment s)) (moves_marked moment (sync_moves moment s) s m) none unchanged
  where
    v : Machine
    v = after_moves moment s (finishing s)

    ends : (b : Bool) → v.changed ≡ b → let t = after_moves moment v (if b then whole_snapshot v else []) in (t.frozen ≡ None) × (t.changed ≡ false)
    ends true is = let w = whole_finishes moment v in (w.none, w.changed)
    ends false is = ((finishing_ends moment s m).none, is)

    both : let t = after_moves moment s (sync_moves moment s) in (t.frozen ≡ None) × (t.changed ≡ false)
    both = subst (λ (t : Machine). (t.frozen ≡ None) × (t.changed ≡ false)) (sym (after_moves-append moment (finishing s) (snapshot_if_changed v) s)) (ends v.changed refl)

    none : (after_moves moment s (sync_moves moment s)).frozen ≡ None
    none = both.0

    unchanged : (after_moves moment s (sync_moves moment s)).changed ≡ false
    unchanged = both.1

-- where nothing is in progress and nothing to keep, a sync makes no move
pub no_moves : (moment : ℕ) (s : Machine) → s.frozen ≡ None → s.changed ≡ false → sync_moves moment s ≡ []
no_moves moment s none same =
    let finished : finishing s ≡ [] = ap (λ o. replicate (due_of o) Step) none in
    ap (λ ms. ms ++ snapshot_if_changed (after_moves moment s ms)) finished ∙ ap (λ b. if b then whole_snapshot s else []) same

-- a sync that tells nothing found all settled
pub silent_sync : (moment : ℕ) (s : Machine) → IsMarked s → told_along moment s (sync_moves moment s) ≡ [] → IsAllDurable s
silent_sync moment s m silent = settled s m none unchanged
  where
    v : Machine
    v = after_moves moment s (finishing s)

    parts : (told_along moment s (finishing s) ≡ []) × (told_along moment v (snapshot_if_changed v) ≡ [])
    parts = both_empty (told_along moment s (finishing s)) (told_along moment v (snapshot_if_changed v)) (sym (told_along-append moment (finishing s) (snapshot_if_changed v) s) ∙ silent)

    none : s.frozen ≡ None
    none = finishing_tells moment s m parts.0

    go : (b : Bool) → v.changed ≡ b → told_along moment v (if b then whole_snapshot v else []) ≡ [] → v.changed ≡ false
    go true is told = let w = (whole_finishes moment v).told_some in let nothing : length (told_along moment v (whole_snapshot v)) ≡ 0 = ap length told in absurd (omega arith)
    go false is told = is

    unchanged : s.changed ≡ false
    unchanged = sym (finishing_ends moment s m).changed ∙ go v.changed refl parts.1
