-- An attempt stands where its moves lead, and decides what is decided there.
use Rattle.std.proofs.Common.{◌≡◌, ℕ, refl, sym, ap, ◌∙◌}
use Rattle.std.specs.Prelude.{Bool, true, false, ◌&&◌, List, Result, Ok, Err, is_some, ◌==◌, if◌then◌else◌}
use Rattle.qx_geom.specs.Room.{fits}
use Rattle.qx_model.specs.declared.operation.Op.{Op}
use Rattle.qx_model.specs.declared.refusal.Refusal.{Refusal}
use Rattle.qx_model.specs.declared.refusal.Refusal.TheVariants as refusal
use Rattle.qx_model.specs.Requests.{changes}
use Rattle.qx_model.specs.Edits.{Edit}
use Rattle.qx_model.specs.Effects.{Answers, Edits, Effect}
use Rattle.qx_model.specs.Operate.{operate}
use Rattle.qx_model.specs.Machine.{Machine, hold_count, setting_of}
use Rattle.qx_model.specs.Space.{free_count, need_of}
use Rattle.qx_model.specs.Snapshots.{Move, after_moves, finishing, whole_snapshot}
use Rattle.qx_model.specs.Decisions.{Attempt, Fits, Lacks, Refuses, after_finish, after_more, after_snapshot, attempt, decided, decision, first_attempt, is_lacking, is_serial_end}
use Rattle.qx_model.proofs.MoveRuns.{after_moves-append}

-- an attempt stands where its moves lead, and decides what is decided there
pub record IsSettled (s : Machine) (k moment : ℕ) (o : Op) (a : Attempt) : Type 0 where
  pub stands : a.machine ≡ after_moves moment s a.moves
  pub decides : a.decision ≡ decision a.machine k moment o

decided_from : (s : Machine) (r : Result Effect Refusal) (is_removing : Bool) (e : Edit) → decided s r ≡ Fits (Edits is_removing e) → r ≡ Ok (Edits is_removing e)
decided_from s (Err x) is_removing e h = absurd (cc)
decided_from s (Ok (Answers x)) is_removing e h = let same : Answers x ≡ Edits is_removing e = cc in absurd (cc)
decided_from s (Ok (Edits b f)) is_removing e h = go (fits b (need_of s f) (free_count s)) h
  where
    go : (c : Bool) → (if c then Fits (Edits b f) else Lacks (need_of s f) (free_count s)) ≡ Fits (Edits is_removing e) → (let x : Result Effect Refusal = Ok (Edits b f) in x) ≡ Ok (Edits is_removing e)
    go true h = let same : Edits b f ≡ Edits is_removing e = cc in ap (λ x. Ok x) same
    go false h = absurd (cc)

-- where an edit is decided on, the operation makes it
pub decision_from : (s : Machine) (k moment : ℕ) (o : Op) (is_removing : Bool) (e : Edit) → decision s k moment o ≡ Fits (Edits is_removing e) → operate (setting_of s k moment) s.working.tree o ≡ Ok (Edits is_removing e)
unfolding decision
decision_from s k moment o is_removing e h = go (changes o && is_serial_end s) h
  where
    go : (b : Bool) → (if b then Refuses refusal.SerialEnd else decided s (operate (setting_of s k moment) s.working.tree o)) ≡ Fits (Edits is_removing e) → operate (setting_of s k moment) s.working.tree o ≡ Ok (Edits is_removing e)
    go true h = absurd (cc)
    go false h = decided_from s (operate (setting_of s k moment) s.working.tree o) is_removing e h

more_settled : (s : Machine) (k moment : ℕ) (o : Op) (a : Attempt) (more : List Move) → IsSettled s k moment o a → IsSettled s k moment o (after_more k moment o a more)
more_settled s k moment o a more f = record {
  stands = ap (λ m. after_moves moment m more) f.stands ∙ sym (after_moves-append moment a.moves more s);
  decides = refl;
}

pub attempt_settled : (s : Machine) (k moment : ℕ) (o : Op) → IsSettled s k moment o (attempt s k moment o)
attempt_settled s k moment o = second (after_finish k moment o (first_attempt s k moment o)) (first (first_attempt s k moment o) (record { stands = refl; decides = refl }))
  where
    first : (a : Attempt) → IsSettled s k moment o a → IsSettled s k moment o (after_finish k moment o a)
    first a f = go (is_lacking a.decision && is_some a.machine.frozen)
      where
        go : (b : Bool) → IsSettled s k moment o (if b then after_more k moment o a (finishing a.machine) else a)
        go true = more_settled s k moment o a (finishing a.machine) f
        go false = f

    second : (a : Attempt) → IsSettled s k moment o a → IsSettled s k moment o (after_snapshot k moment o a)
    second a f = go (is_lacking a.decision && ((hold_count a.machine == 0) && a.machine.changed))
      where
        go : (b : Bool) → IsSettled s k moment o (if b then after_more k moment o a (whole_snapshot a.machine) else a)
        go true = more_settled s k moment o a (whole_snapshot a.machine) f
        go false = f
