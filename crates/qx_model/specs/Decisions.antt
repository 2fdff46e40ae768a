-- Whether an operation is refused, fits, or wants more room; and how it is decided again after snapshots.
use Rattle.std.specs.Prelude.{ℕ, ◌-◌, ◌^◌, max, Bool, true, false, ◌&&◌, List, [], ◌++◌, Option, Some, None, is_some, Result, Ok, Err, ◌==◌, if◌then◌else◌}
use Rattle.qx_geom.specs.Room.{fits}
use Rattle.qx_model.specs.declared.operation.Op.{Op}
use Rattle.qx_model.specs.declared.refusal.Refusal.{Refusal}
use Rattle.qx_model.specs.declared.refusal.Refusal.TheVariants as refusal
use Rattle.qx_model.specs.Requests.{changes}
use Rattle.qx_model.specs.Edits.{Edit}
use Rattle.qx_model.specs.Effects.{Answers, Edits, Effect}
use Rattle.qx_model.specs.Operate.{operate}
use Rattle.qx_model.specs.Machine.{Frozen, Machine, hold_count, setting_of}
use Rattle.qx_model.specs.Space.{free_count, need_of}
use Rattle.qx_model.specs.Snapshots.{Move, finishing, after_moves, whole_snapshot}

-- ---- one decision

-- refused; or it comes to this; or so many blocks are wanted and so many are free
pub data Decision : Type 0 where
  Refuses : Refusal → Decision
  Fits : Effect → Decision
  Lacks : (need free : ℕ) → Decision

-- the serial of the frozen copy, or 0
abbrev pub frozen_serial : Option Frozen → ℕ
frozen_serial None = 0
frozen_serial (Some p) = p.snapshot.serial

-- the greatest serial so far
abbrev pub last_serial : Machine → ℕ
last_serial s = max s.durable.serial (frozen_serial s.frozen)

-- it is the last of 64 bits
abbrev pub is_serial_end : Machine → Bool
is_serial_end s = last_serial s == 2 ^ 64 - 1

-- an edit, by what it needs and what is free
abbrev pub decided_by_room : Bool → Edit → ℕ → ℕ → Decision
decided_by_room is_removing e need free = if fits is_removing need free then Fits (Edits is_removing e) else Lacks need free

-- what an operation comes to, by room
abbrev pub decided : Machine → Result Effect Refusal → Decision
decided s (Err r) = Refuses r
decided s (Ok (Answers r)) = Fits (Answers r)
decided s (Ok (Edits is_removing e)) = decided_by_room is_removing e (need_of s e) (free_count s)

-- one decision on an operation of session k; it begins with the serial
unfoldable pub decision : Machine → ℕ → ℕ → Op → Decision
decision s k moment o =
    if changes o && is_serial_end s then Refuses refusal.SerialEnd
    else decided s (operate (setting_of s k moment) s.working.tree o)

-- it lacks room alone
abbrev pub is_lacking : Decision → Bool
is_lacking (Refuses r) = false
is_lacking (Fits e) = false
is_lacking (Lacks need free) = true

-- ---- deciding again

-- the moves so far, the machine after them, and what is decided there
pub record Attempt : Type 0 where
  pub moves : List Move
  pub machine : Machine
  pub decision : Decision

-- a decision without moves
abbrev pub first_attempt : Machine → ℕ → ℕ → Op → Attempt
first_attempt s k moment o = record { moves = []; machine = s; decision = decision s k moment o }

-- more moves, and the decision after them
abbrev pub after_more : ℕ → ℕ → Op → Attempt → List Move → Attempt
after_more k moment o a more =
    let s = after_moves moment a.machine more in
    record { moves = a.moves ++ more; machine = s; decision = decision s k moment o }

-- where room lacks, a snapshot in progress is finished, and it is decided again
abbrev pub after_finish : ℕ → ℕ → Op → Attempt → Attempt
after_finish k moment o a = if is_lacking a.decision && is_some a.machine.frozen then after_more k moment o a (finishing a.machine) else a

-- where it still lacks, no session holds and there is something to keep, a whole snapshot is made, and it is decided again
abbrev pub after_snapshot : ℕ → ℕ → Op → Attempt → Attempt
after_snapshot k moment o a =
    if is_lacking a.decision && ((hold_count a.machine == 0) && a.machine.changed) then after_more k moment o a (whole_snapshot a.machine) else a

-- up to three decisions
abbrev pub attempt : Machine → ℕ → ℕ → Op → Attempt
attempt s k moment o = after_snapshot k moment o (after_finish k moment o (first_attempt s k moment o))
