-- From a mount on and through every turn the newest snapshot has the working copy, or the machine is marked as changed.
use Rattle.std.proofs.Common.{◌≡◌, ℕ, ◌-◌, ◌<◌, inl, inr, List, [], ◌∷◌, refl, sym, ap, ◌∙◌, subst, arith, leb-false}
use Rattle.std.specs.Prelude.{Bool, true, false, Option, Some, None}
use Rattle.qx_model.specs.declared.turn.VolEvent.{VolEvent}
use Rattle.qx_model.specs.declared.turn.Turn.{Turn}
use Rattle.qx_model.specs.Tree.{Tree}
use Rattle.qx_model.specs.Machine.{Machine, Frozen, Volume, start_of, without_holds}
use Rattle.qx_model.specs.Snapshots.{Begin, Move, Step, after_move, after_moves, begun, is_last_step, is_time_to_begin, step_to, stepped, steps_wanted}
use Rattle.qx_model.specs.Plans.{Becomes, Ending, GoesTo, Holds, Plan, Stays, after_ending}
use Rattle.qx_model.specs.Next.{Transition, Faults, Next, ActFault, act_result, after_act, background_moves, begun_if, moves_made, next_under, plan_under, timed_begin}
use Rattle.qx_model.proofs.PlanStarts.{plan_from}
use Rattle.qx_shell.specs.NewestCopies.{IsMarked, newest_copy_by}

-- a snapshot takes a step at least
pub some_steps : (s : Machine) → 0 < steps_wanted s
unfolding steps_wanted
some_steps s = omega arith

begun_marked : (moment : ℕ) (s : Machine) → IsMarked (begun moment s)
begun_marked moment s = record { steps = inr (some_steps s); kept = λ h. refl }

-- a step that isn't the last leaves one
left_after : (p : Frozen) → is_last_step p ≡ false → 0 < p.due - 1
left_after p h = let more : 1 < p.due = leb-false p.due 1 h in omega arith

stepped_marked : (s : Machine) (o : Option Frozen) → s.frozen ≡ o → IsMarked s → IsMarked (stepped s o)
stepped_marked s None is m = m
stepped_marked s (Some p) is m = go (is_last_step p) refl
  where
    kept_by : s.changed ≡ false → p.snapshot.copy ≡ s.working
    kept_by h = ap (newest_copy_by s.durable.copy) (sym is) ∙ m.kept h

    go : (last : Bool) → is_last_step p ≡ last → IsMarked (step_to last s p)
    go true h = record { steps = inl refl; kept = kept_by }
    go false h = record { steps = inr (left_after p h); kept = kept_by }

moved_marked : (moment : ℕ) (s : Machine) (m : Move) → IsMarked s → IsMarked (after_move moment s m)
moved_marked moment s Begin h = begun_marked moment s
moved_marked moment s Step h = stepped_marked s s.frozen refl h

-- moves keep it
pub moves_marked : (moment : ℕ) (ms : List Move) (s : Machine) → IsMarked s → IsMarked (after_moves moment s ms)
moves_marked moment [] s h = h
moves_marked moment (m ∷ ms) s h = moves_marked moment ms (after_move moment s m) (moved_marked moment s m h)

holds_marked : (s : Machine) → IsMarked s → IsMarked (without_holds s)
holds_marked s m = record { steps = m.steps; kept = m.kept }

ending_marked : (e : Ending) (s : Machine) → IsMarked s → IsMarked (after_ending e s)
ending_marked Stays s m = m
ending_marked (Becomes e) s m = record { steps = m.steps; kept = λ h. absurd (cc) }
ending_marked (GoesTo k d) s m = record { steps = m.steps; kept = m.kept }
ending_marked (Holds k b) s m = record { steps = m.steps; kept = m.kept }

-- so does a timed begin
pub begin_marked : (fails : Bool) (moment : ℕ) (s : Machine) → IsMarked s → IsMarked (timed_begin fails moment s)
begin_marked fails moment s m = go (is_time_to_begin s moment) fails
  where
    go : (time fails : Bool) → IsMarked (begun_if time fails moment s)
    go false fails = m
    go true false = begun_marked moment s
    go true true = m

-- and an act's plan begins with it
pub from_marked : (f : Faults) (s : Machine) (e : VolEvent) → IsMarked s → IsMarked (plan_under f s e).from
from_marked f s e m = let t = timed_begin f.begin e.moment s in plan_from IsMarked t e (λ h. holds_marked t h) (begin_marked f.begin e.moment s m)

act_marked : (stop : Option ActFault) (moment : ℕ) (p : Plan) → IsMarked p.from → IsMarked (after_act stop moment p).machine
act_marked None moment p m = ending_marked p.ending (after_moves moment p.from p.moves) (moves_marked moment p.moves p.from m)
act_marked (Some stop) moment p m = moves_marked moment (moves_made (Some stop) p) p.from m

next_marked : (f : Faults) (s : Machine) (e : VolEvent) → IsMarked s → IsMarked (next_under f s e).machine
unfolding next_under
next_marked f s e m = let a = act_result f s e in moves_marked e.moment (background_moves f.background a) a.machine (act_marked f.act e.moment (plan_under f s e) (from_marked f s e m))

-- a turn keeps it
pub turn_marked : (s t : Machine) (e : VolEvent) (turn : Turn) → IsMarked s → Next s e turn t → IsMarked t
turn_marked s t e turn m n = subst (λ (r : Transition). IsMarked r.machine) n.ends (next_marked n.faults s e m)

-- and a mount begins with it
pub start_marked : (v : Volume) (t : Tree) (serial moment : ℕ) → IsMarked (start_of v t serial moment)
start_marked v t serial moment = record { steps = inl refl; kept = λ h. refl }
