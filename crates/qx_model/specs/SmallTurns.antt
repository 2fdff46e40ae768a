-- Turns on the small volume: what is asked in each, what fails in it, and what it answers.
use Rattle.std.specs.Prelude.{ℕ, true, List, [], ◌∷◌, ◌++◌, map, Some, codes}
use Rattle.qx_model.specs.declared.operation.Op.{Op}
use Rattle.qx_model.specs.declared.operation.Op.TheVariants as op
use Rattle.qx_model.specs.declared.reply.Reply.{Reply}
use Rattle.qx_model.specs.declared.reply.Reply.TheVariants as reply
use Rattle.qx_model.specs.declared.refusal.Refusal.{Refusal}
use Rattle.qx_model.specs.declared.turn.Act.{Act}
use Rattle.qx_model.specs.declared.turn.Act.TheVariants as act
use Rattle.qx_model.specs.declared.turn.VolEvent.{VolEvent}
use Rattle.qx_model.specs.declared.turn.Turn.{Turn}
use Rattle.qx_model.specs.declared.notices.Notice.TheVariants as notice
use Rattle.qx_model.specs.Machine.{Machine, start_of}
use Rattle.qx_model.specs.Next.{Cause, Faults, Transition, next, next_under, no_faults}
use Rattle.qx_model.specs.SmallVolume.{made, small, small_volume}

-- ---- turns one after another

-- an event, and what fails in its turn
pub record Happening : Type 0 where
  pub event : VolEvent
  pub faults : Faults

-- the turns that these get
abbrev pub turns_under : Machine → List Happening → List Turn
turns_under s [] = []
turns_under s (h ∷ hs) = turns_from (next_under h.faults s h.event) (λ t. turns_under t hs)
  where
    turns_from : Transition → (Machine → List Turn) → List Turn
    turns_from r rest = r.turn ∷ rest r.machine

-- nothing fails
abbrev pub well : VolEvent → Happening
well e = record { event = e; faults = no_faults }

-- the turns that events get where nothing fails
abbrev pub turns_of : Machine → List VolEvent → List Turn
turns_of s es = turns_under s (map well es)

-- the machine after them
abbrev pub machine_after : Machine → List VolEvent → Machine
machine_after s [] = s
machine_after s (e ∷ es) = machine_after (next s e).machine es

-- ---- faults

-- the act fails after so many moves
abbrev pub act_fails : ℕ → Cause → Faults
act_fails moves cause = record no_faults { act = Some (record { moves = moves; cause = cause }) }

-- the first background step fails
abbrev pub background_fails : Faults
background_fails = record no_faults { background = Some 0 }

-- the timed begin finds no memory
abbrev pub begin_fails : Faults
begin_fails = record no_faults { begin = true }

-- an event in whose turn these things fail
abbrev pub under : Faults → VolEvent → Happening
under f e = record { event = e; faults = f }

-- ---- a mount for reading

-- such a volume with a wrong bitmap: 6 of its blocks are met, and all count as blocks for users
abbrev pub foreign : Machine
foreign = start_of (record small_volume { user = 96; is_read_only = true; free_without_ids = Some 90 }) made 2 1000

-- ---- events

-- an act of a session at moment 1000
abbrev pub by : ℕ → Act → VolEvent
by session a = record { session = session; moment = 1000; act = a }

-- an act of session 0 at a moment
abbrev pub by_at : ℕ → Act → VolEvent
by_at moment a = record { session = 0; moment = moment; act = a }

-- an operation by session 0
abbrev pub do_op : Op → VolEvent
do_op o = by 0 (act.Op o)

-- `create`
abbrev pub create : List ℕ → VolEvent
create path = do_op (op.Create path)

-- `fill` with letters `A` from the first byte on
abbrev pub fill : List ℕ → ℕ → VolEvent
fill path count = do_op (op.Fill path 0 count 65)

-- `df`
abbrev pub df : VolEvent
df = by 0 act.Df

-- `sync`
abbrev pub sync : VolEvent
sync = by 0 act.Sync

-- the end
abbrev pub end : VolEvent
end = by 0 act.End

-- ---- machines

-- a file was made, and a snapshot is in progress that has 5 steps left
abbrev pub in_progress : Machine
in_progress = machine_after (small 990) (by_at 990 (act.Op (op.Create (codes "a"))) ∷ by_at 1000 act.Tick ∷ [])

-- and another file since, with one step left
abbrev pub changed_again : Machine
changed_again = machine_after in_progress (create (codes "b") ∷ [])

-- ---- turns

-- a reply without notices
abbrev pub says : Reply → Turn
says r = record { reply = r; notices = [] }

-- done
abbrev pub ok : Turn
ok = says reply.Done

-- a refusal
abbrev pub refuses : Refusal → Turn
refuses r = says (reply.Refused r)

-- with the notice of a snapshot
abbrev pub with_snapshot : ℕ → Turn → Turn
with_snapshot serial t = record t { notices = t.notices ++ notice.Snapshot serial ∷ [] }

-- the answer to `df`: free blocks, free inodes and the serial
abbrev pub df_says : ℕ → ℕ → ℕ → Turn
df_says free inodes serial = says (reply.Space (record { blocks = 96; user = 86; free = free; inodes = 16; free_inodes = inodes; serial = serial }))
