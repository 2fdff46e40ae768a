-- One turn: a timed begin, the act, background steps. What fails outside is an argument, so that a turn is a function of it.
use Rattle.std.specs.Prelude.{◌≡◌, ℕ, ◌<◌, ◌≤◌, ◌⊎◌, Bool, true, false, List, [], ◌∷◌, ◌++◌, length, take, replicate, Option, Some, None, slice_get}
use Rattle.qx_model.specs.declared.reply.Reply.{Reply}
use Rattle.qx_model.specs.declared.reply.Reply.TheVariants as reply
use Rattle.qx_model.specs.declared.refusal.Refusal.{Refusal}
use Rattle.qx_model.specs.declared.refusal.Refusal.TheVariants as refusal
use Rattle.qx_model.specs.declared.turn.VolEvent.{VolEvent}
use Rattle.qx_model.specs.declared.turn.Turn.{Turn}
use Rattle.qx_model.specs.declared.notices.Notice.{Notice}
use Rattle.qx_model.specs.declared.notices.Notice.TheVariants as notice
use Rattle.qx_model.specs.Machine.{Machine}
use Rattle.qx_model.specs.Snapshots.{Begin, Move, Step, after_moves, background_count, begun, is_time_to_begin, told_along}
use Rattle.qx_model.specs.Plans.{Plan, after_ending, plan}
use Rattle.qx_model.specs.TreeReads.{reads_tree}

-- ---- faults

-- what fails in an act: a step of a snapshot, a read of the tree, or memory is wanting
pub data Cause : Type 0 where
  StepFails : Cause
  ReadFails : Cause
  MemoryFails : Cause

-- an act fails after so many of its moves
pub record ActFault : Type 0 where
  pub moves : ℕ
  pub cause : Cause

-- what fails in a turn: the timed begin finds no memory, the act fails, a background step fails after so many good ones
pub record Faults : Type 0 where
  pub begin : Bool
  pub act : Option ActFault
  pub background : Option ℕ

-- nothing fails
abbrev pub no_faults : Faults
no_faults = record { begin = false; act = None; background = None }

-- where a turn leads, and what it answers
pub record Transition : Type 0 where
  pub machine : Machine
  pub turn : Turn

-- ---- the timed begin

-- the machine after the timed begin, by whether it is time and whether memory fails
abbrev pub begun_if : Bool → Bool → ℕ → Machine → Machine
begun_if false fails moment s = s
begun_if true false moment s = begun moment s
begun_if true true moment s = s

-- a begin where it is time, unless it finds no memory
abbrev pub timed_begin : Bool → ℕ → Machine → Machine
timed_begin fails moment s = begun_if (is_time_to_begin s moment) fails moment s

-- a timed begin that finds no memory is told
abbrev pub told_by_begin : Bool → List Notice
told_by_begin false = []
told_by_begin true = notice.Memory ∷ []

-- ---- the act

-- the machine after an act, what its moves told, the reply, and whether a step failed
pub record ActResult : Type 0 where
  pub machine : Machine
  pub told : List Notice
  pub reply : Reply
  pub is_step_failed : Bool

-- what an act that fails is answered by
abbrev pub refusal_of : Cause → Refusal
refusal_of StepFails = refusal.Device
refusal_of ReadFails = refusal.Device
refusal_of MemoryFails = refusal.NoMemory

-- the cause is a step
abbrev pub is_step : Cause → Bool
is_step StepFails = true
is_step ReadFails = false
is_step MemoryFails = false

-- the moves that an act makes: all of its plan, or those up to the fault
abbrev pub moves_made : Option ActFault → Plan → List Move
moves_made None p = p.moves
moves_made (Some fault) p = take fault.moves p.moves

-- an act that doesn't fail ends as planned; one that fails is refused, and ends nothing
abbrev pub after_act : Option ActFault → ℕ → Plan → ActResult
after_act None moment p = record {
  machine = after_ending p.ending (after_moves moment p.from p.moves);
  told = told_along moment p.from p.moves;
  reply = p.reply;
  is_step_failed = false;
}
after_act (Some fault) moment p = record {
  machine = after_moves moment p.from (moves_made (Some fault) p);
  told = told_along moment p.from (moves_made (Some fault) p);
  reply = reply.Refused (refusal_of fault.cause);
  is_step_failed = is_step fault.cause;
}

-- ---- the background steps

-- how many good background steps are made: all that follow an act, or those before one fails; none where a step of the act failed
abbrev pub steps_made : Bool → Option ℕ → Machine → ℕ
steps_made true background s = 0
steps_made false None s = background_count s
steps_made false (Some good) s = good

-- the background steps of a turn
abbrev pub background_moves : Option ℕ → ActResult → List Move
background_moves background a = replicate (steps_made a.is_step_failed background a.machine) Step

-- a background step that fails is told
abbrev pub told_by_fault : Option ℕ → List Notice
told_by_fault None = []
told_by_fault (Some good) = notice.Device ∷ []

-- ---- the turn

-- what an event comes to where nothing else fails, after the timed begin
abbrev pub plan_under : Faults → Machine → VolEvent → Plan
plan_under f s e = plan (timed_begin f.begin e.moment s) e

-- what its act comes to
abbrev pub act_result : Faults → Machine → VolEvent → ActResult
act_result f s e = after_act f.act e.moment (plan_under f s e)

-- the turn in which these things fail
unfoldable pub next_under : Faults → Machine → VolEvent → Transition
next_under f s e =
    let a = act_result f s e in
    let steps = background_moves f.background a in
    record {
      machine = after_moves e.moment a.machine steps;
      turn = record { reply = a.reply; notices = told_by_begin f.begin ++ (a.told ++ (told_along e.moment a.machine steps ++ told_by_fault f.background)) };
    }

-- the turn in which nothing fails
abbrev pub next : Machine → VolEvent → Transition
next s e = next_under no_faults s e

-- ---- which faults may come

-- this is the next move of a plan, after so many
abbrev pub IsNextMove : Move → Plan → ℕ → Type 0
IsNextMove m p moves = slice_get p.moves moves ≡ Some m

-- the act of an event reads the tree after so many moves of its plan
abbrev pub MayRead : VolEvent → Plan → ℕ → Type 0
MayRead e p moves = reads_tree moves (after_moves e.moment p.from (take moves p.moves)) e ≡ true

-- a step fails where it is the next move, a read where there is one; memory is wanting for a begin that is the next move, or for a read
abbrev pub MayFail : Cause → VolEvent → Plan → ℕ → Type 0
MayFail StepFails e p moves = IsNextMove Step p moves
MayFail ReadFails e p moves = MayRead e p moves
MayFail MemoryFails e p moves = IsNextMove Begin p moves ⊎ MayRead e p moves

-- the act of an event may fail so
abbrev pub MayFailInAct : Option ActFault → VolEvent → Plan → Type 0
MayFailInAct None e p = Unit {0}
MayFailInAct (Some fault) e p = (fault.moves ≤ length p.moves) × MayFail fault.cause e p fault.moves

-- a background step may fail that would be made, after an act in which none failed
abbrev pub MayFailAfter : Option ℕ → ActResult → Type 0
MayFailAfter None a = Unit {0}
MayFailAfter (Some good) a = (good < background_count a.machine) × (a.is_step_failed ≡ false)

-- each fault comes where the turn makes a call that may fail so
pub record MayCome (f : Faults) (s : Machine) (e : VolEvent) : Type 0 where
  pub begin : f.begin ≡ true → is_time_to_begin s e.moment ≡ true
  pub act : MayFailInAct f.act e (plan_under f s e)
  pub background : MayFailAfter f.background (act_result f s e)

-- from s, an event may be answered by this turn and lead to t
pub record Next (s : Machine) (e : VolEvent) (turn : Turn) (t : Machine) : Type 0 where
  pub faults : Faults
  pub may_come : MayCome faults s e
  pub ends : next_under faults s e ≡ record { machine = t; turn = turn }
