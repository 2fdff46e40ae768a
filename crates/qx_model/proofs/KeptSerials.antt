-- Serials have 64 bits and follow one another, from a mount on and through every turn.
use Rattle.std.proofs.Common.{◌≡◌, ℕ, ◌-◌, ◌^◌, ◌<◌, List, [], ◌∷◌, take, refl, sym, ap, ◌∙◌, subst, arith}
use Rattle.std.specs.Prelude.{Bool, true, false, ◌&&◌, max, Option, Some, None, Result, Ok, if◌then◌else◌}
use Rattle.std.proofs.lemmas.Bool.{eqb-false, leb-false}
use Rattle.qx_model.specs.declared.operation.Op.{Op}
use Rattle.qx_model.specs.declared.refusal.Refusal.{Refusal}
use Rattle.qx_model.specs.declared.refusal.Refusal.TheVariants as refusal
use Rattle.qx_model.specs.declared.turn.VolEvent.{VolEvent}
use Rattle.qx_model.specs.declared.turn.Turn.{Turn}
use Rattle.qx_model.specs.Requests.{changes}
use Rattle.qx_model.specs.Tree.{Tree}
use Rattle.qx_model.specs.Edits.{Edit}
use Rattle.qx_model.specs.Effects.{Edits, Effect}
use Rattle.qx_model.specs.Operate.{operate}
use Rattle.qx_model.specs.Machine.{Frozen, Machine, Volume, setting_of, start_of}
use Rattle.qx_model.specs.Snapshots.{Begin, Move, Step, after_moves, begun, is_last_step, is_time_to_begin, step_to, stepped}
use Rattle.qx_model.specs.Decisions.{Fits, Refuses, decided, decision, frozen_serial, is_serial_end, last_serial}
use Rattle.qx_model.specs.Plans.{Becomes, Ending, GoesTo, Holds, Stays, after_ending, plan}
use Rattle.qx_model.specs.Next.{ActFault, Faults, MayCome, Next, Transition, act_result, after_act, background_moves, begun_if, moves_made, next_under, plan_under, timed_begin}
use Rattle.qx_model.specs.MoveOrder.{MayMove}
use Rattle.qx_model.specs.Serials.{HasSerials, MayFollowSerial}
use Rattle.qx_model.proofs.PlanStarts.{plan_from}
use Rattle.qx_model.proofs.SettledAttempts.{decision_from}
use Rattle.qx_model.proofs.PlannedEdits.{plan_edits}
use Rattle.qx_model.proofs.QuietMounts.{IsNoEdit, reading_reads}
use Rattle.qx_model.proofs.OrderedMoves.{HasStep, act_may, background_may, timed_may, wanted_step}

-- a snapshot in progress has a step left
pub serials_step : (serial : ℕ) (o : Option Frozen) → MayFollowSerial serial o → HasStep o
unfolding HasStep
serials_step serial None h = tt
serials_step serial (Some p) h = h.unfinished

-- ---- moves

begun_serials : (moment : ℕ) (s : Machine) → s.changed ≡ true → HasSerials s → HasSerials (begun moment s)
begun_serials moment s is h =
    let left : last_serial s < 2 ^ 64 - 1 = h.spare is in
    record { durable = h.durable; frozen = record { next = refl; within = omega arith; unfinished = wanted_step s }; spare = λ c. absurd (cc) }

step_serials : (s : Machine) (o : Option Frozen) → s.frozen ≡ o → MayFollowSerial s.durable.serial o → HasSerials s → HasSerials (stepped s o)
step_serials s None is f h = h
step_serials s (Some p) is f h = go (is_last_step p) refl
  where
    frozen : frozen_serial s.frozen ≡ p.snapshot.serial
    frozen = ap frozen_serial is

    go : (b : Bool) → is_last_step p ≡ b → HasSerials (step_to b s p)
    go true last = record { durable = f.within; frozen = tt; spare = λ c. let left : last_serial s < 2 ^ 64 - 1 = h.spare c in let same = frozen in omega arith }
    go false last =
        let more = leb-false p.due 1 last in
        record {
          durable = h.durable;
          frozen = record { next = f.next; within = f.within; unfinished = omega arith };
          spare = λ c. let left : last_serial s < 2 ^ 64 - 1 = h.spare c in let same = frozen in omega arith;
        }

pub moves_serials : (moment : ℕ) (ms : List Move) (s : Machine) → MayMove moment s ms → HasSerials s → HasSerials (after_moves moment s ms)
moves_serials moment [] s may h = h
moves_serials moment (Begin ∷ ms) s may h = moves_serials moment ms (begun moment s) may.3 (begun_serials moment s may.1 h)
moves_serials moment (Step ∷ ms) s may h = moves_serials moment ms (stepped s s.frozen) may.1 (step_serials s s.frozen refl h.frozen h)

-- ---- edits

no_reading_edit : (is_removing : Bool) (e : Edit) → (let x : Result Effect Refusal = Ok (Edits is_removing e) in IsNoEdit x) → ⊥
no_reading_edit is_removing e h = elim h [ ]

-- an edit is decided on where a serial is left
decision_spare : (s : Machine) (k moment : ℕ) (o : Op) (is_removing : Bool) (e : Edit) → decision s k moment o ≡ Fits (Edits is_removing e) → is_serial_end s ≡ false
unfolding decision
decision_spare s k moment o is_removing e h = go (changes o) refl (is_serial_end s) refl
  where
    done : operate (setting_of s k moment) s.working.tree o ≡ Ok (Edits is_removing e)
    done = decision_from s k moment o is_removing e h

    spent : changes o ≡ true → is_serial_end s ≡ true → Refuses refusal.SerialEnd ≡ Fits (Edits is_removing e)
    spent c is = sym (λ i. if c i && is i then Refuses refusal.SerialEnd else decided s (operate (setting_of s k moment) s.working.tree o)) ∙ h

    go : (c : Bool) → changes o ≡ c → (b : Bool) → is_serial_end s ≡ b → b ≡ false
    go c cs false is = refl
    go true cs true is = absurd (differ (spent cs is))
      where
        differ : Refuses refusal.SerialEnd ≡ Fits (Edits is_removing e) → ⊥
        differ h = cc
    go false cs true is = absurd (no_reading_edit is_removing e (subst IsNoEdit done (reading_reads (setting_of s k moment) s.working.tree o cs)))

last_within : (s : Machine) → HasSerials s → last_serial s < 2 ^ 64
last_within s h = go s.frozen h.frozen
  where
    go : (o : Option Frozen) → MayFollowSerial s.durable.serial o → max s.durable.serial (frozen_serial o) < 2 ^ 64
    go None f = let d = h.durable in omega arith
    go (Some p) f = let d = h.durable in let w = f.within in omega arith

spare_serial : (s : Machine) → HasSerials s → is_serial_end s ≡ false → last_serial s < 2 ^ 64 - 1
spare_serial s h is =
    let within = last_within s h in
    let other : last_serial s ≡ 2 ^ 64 - 1 → ⊥ = eqb-false (last_serial s) (2 ^ 64 - 1) is in
    omega (arith, other)

-- ---- turns

ending_serials : (s : Machine) (e : VolEvent) (en : Ending) → (plan s e).ending ≡ en → HasSerials (after_moves e.moment (plan s e).from (plan s e).moves)
    → HasSerials (after_ending en (after_moves e.moment (plan s e).from (plan s e).moves))
ending_serials s e Stays is h = h
ending_serials s e (GoesTo k d) is h = record { durable = h.durable; frozen = h.frozen; spare = h.spare }
ending_serials s e (Holds k b) is h = record { durable = h.durable; frozen = h.frozen; spare = h.spare }
ending_serials s e (Becomes x) is h =
    let m = after_moves e.moment (plan s e).from (plan s e).moves in
    let by = plan_edits s e x is in
    let left = spare_serial m h (decision_spare m e.session e.moment by.operation by.is_removing x by.decided) in
    record { durable = h.durable; frozen = h.frozen; spare = λ c. left }

begin_serials : (time fails : Bool) (moment : ℕ) (s : Machine) → is_time_to_begin s moment ≡ time → HasSerials s → HasSerials (begun_if time fails moment s)
begin_serials false fails moment s is h = h
begin_serials true true moment s is h = h
begin_serials true false moment s is h = let may = timed_may s moment is in begun_serials moment s may.1 h

act_serials : (f : Faults) (s : Machine) (e : VolEvent) → HasSerials s → HasSerials (act_result f s e).machine
act_serials f s e h = go f.act (act_may f s e (serials_step s.durable.serial s.frozen h.frozen))
  where
    from : HasSerials (plan_under f s e).from
    from = plan_from HasSerials (timed_begin f.begin e.moment s) e (λ m. record { durable = m.durable; frozen = m.frozen; spare = m.spare }) (begin_serials (is_time_to_begin s e.moment) f.begin e.moment s refl h)

    go : (stop : Option ActFault) → MayMove e.moment (plan_under f s e).from (moves_made stop (plan_under f s e)) → HasSerials (after_act stop e.moment (plan_under f s e)).machine
    go None may = ending_serials (timed_begin f.begin e.moment s) e (plan_under f s e).ending refl (moves_serials e.moment (plan_under f s e).moves (plan_under f s e).from may from)
    go (Some stop) may = moves_serials e.moment (take stop.moves (plan_under f s e).moves) (plan_under f s e).from may from

next_serials : (f : Faults) (s : Machine) (e : VolEvent) → MayCome f s e → HasSerials s → HasSerials (next_under f s e).machine
unfolding next_under
next_serials f s e may h = moves_serials e.moment (background_moves f.background (act_result f s e)) (act_result f s e).machine (background_may f s e may) (act_serials f s e h)

-- a turn keeps serials so
pub turn_serials : (s t : Machine) (e : VolEvent) (turn : Turn) → HasSerials s → Next s e turn t → HasSerials t
turn_serials s t e turn h n = subst (λ (r : Transition). HasSerials r.machine) n.ends (next_serials n.faults s e n.may_come h)

-- and a mount has them so
pub start_serials : (v : Volume) (t : Tree) (serial moment : ℕ) → serial < 2 ^ 64 → HasSerials (start_of v t serial moment)
start_serials v t serial moment h = record { durable = h; frozen = tt; spare = λ c. absurd (cc) }
