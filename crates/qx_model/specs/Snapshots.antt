-- Snapshots: their moves, and when one begins by itself.
use Rattle.std.specs.Prelude.{ℕ, ◌+◌, ◌-◌, min, Bool, true, false, not, ◌&&◌, List, [], ◌∷◌, ◌++◌, replicate, count_by, Option, Some, None, is_none, nat_le, ◌==◌}
use Rattle.qx_geom.specs.Lists.{is_in}
use Rattle.qx_model.specs.declared.notices.Notice.{Notice}
use Rattle.qx_model.specs.declared.notices.Notice.TheVariants as notice
use Rattle.qx_model.specs.Machine.{Frozen, Machine, hold_count}
use Rattle.qx_model.specs.Space.{durable_ids, working_ids}

-- a snapshot begins, or makes a good step
pub data Move : Type 0 where
  Begin : Move
  Step : Move

-- ---- one move

-- how many blocks the working copy has that the durable one lacks
abbrev pub unsaved_count : Machine → ℕ
unsaved_count s = let durable = durable_ids s in count_by (λ i. not (is_in durable i)) (working_ids s)

-- the good steps of a snapshot that begins now: those blocks, the leaves of a half, a sync, the superblock and a sync
unfoldable pub steps_wanted : Machine → ℕ
steps_wanted s = unsaved_count s + s.volume.system_leaves + 3

-- a snapshot begins: the working copy is frozen, with the serial after the durable one, and nothing changed since
abbrev pub begun : ℕ → Machine → Machine
begun moment s = record s {
  frozen = Some (record { snapshot = record { copy = s.working; serial = s.durable.serial + 1 }; due = steps_wanted s });
  changed = false;
  last_begin = moment;
}

-- a good step, the last one or not: the last makes the frozen copy the durable one
abbrev pub step_to : Bool → Machine → Frozen → Machine
step_to true s p = record s { durable = p.snapshot; frozen = None }
step_to false s p = record s { frozen = Some (record p { due = p.due - 1 }) }

-- whether the next good step is the last
abbrev pub is_last_step : Frozen → Bool
is_last_step p = nat_le p.due 1

-- a good step, where a snapshot is in progress; else nothing
abbrev pub stepped : Machine → Option Frozen → Machine
stepped s None = s
stepped s (Some p) = step_to (is_last_step p) s p

-- one move at a moment
abbrev pub after_move : ℕ → Machine → Move → Machine
after_move moment s Begin = begun moment s
after_move moment s Step = stepped s s.frozen

-- moves one after another
abbrev pub after_moves : ℕ → Machine → List Move → Machine
after_moves moment s [] = s
after_moves moment s (m ∷ ms) = after_moves moment (after_move moment s m) ms

-- ---- what is told

-- what is told where a snapshot may be done: its serial, if it is
abbrev pub told_if : Bool → Frozen → List Notice
told_if true p = notice.Snapshot p.snapshot.serial ∷ []
told_if false p = []

-- what a good step tells
abbrev pub told_by_step : Option Frozen → List Notice
told_by_step None = []
told_by_step (Some p) = told_if (is_last_step p) p

-- what a move tells
abbrev pub told_by : Machine → Move → List Notice
told_by s Begin = []
told_by s Step = told_by_step s.frozen

-- what moves tell, one after another
abbrev pub told_along : ℕ → Machine → List Move → List Notice
told_along moment s [] = []
told_along moment s (m ∷ ms) = told_by s m ++ told_along moment (after_move moment s m) ms

-- ---- whole snapshots

-- the good steps that are left
abbrev pub due_of : Option Frozen → ℕ
due_of None = 0
due_of (Some p) = p.due

-- the steps that finish a snapshot in progress
abbrev pub finishing : Machine → List Move
finishing s = replicate (due_of s.frozen) Step

-- a begin and all its steps
abbrev pub whole_snapshot : Machine → List Move
whole_snapshot s = Begin ∷ replicate (steps_wanted s) Step

-- ---- snapshots that nobody asks for

-- seconds from a begin to the next
abbrev pub interval : ℕ
interval = 10

-- it is time for a snapshot: the mount is for writing, none is in progress, no session holds, there is something to keep, and the interval is over; a moment before the last begin counts as no time
abbrev pub is_time_to_begin : Machine → ℕ → Bool
is_time_to_begin s moment =
    not s.volume.is_read_only && (is_none s.frozen && ((hold_count s == 0) && (s.changed && nat_le interval (moment - s.last_begin))))

-- the most steps that follow an act
abbrev pub background_limit : ℕ
background_limit = 4

-- how many follow it, where none failed
abbrev pub background_count : Machine → ℕ
background_count s = min (due_of s.frozen) background_limit
