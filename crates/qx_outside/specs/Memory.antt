-- What a host in memory tells, and the rules by which its calls go.
use Rattle.std.specs.Prelude.{ℕ, ◌≡◌, ◌+◌, ◌-◌, ◌/◌, ◌^◌, min, Bool, true, false, List, ◌++◌, length, take, drop, reverse, slice_range, slice_index, nat_le, nat_lt, Option, Some, None, if◌then◌else◌}
use Rattle.std.specs.Option.{option_map}
use Rattle.qx_outside.specs.declared.memory.MemHost.{MemHost}
use Rattle.qx_outside.specs.declared.schedule.Fate.{Fate}
use Rattle.qx_outside.specs.declared.schedule.Fate.TheVariants.{Good, Bad, NoRoom}
use Rattle.qx_outside.specs.Outside.{Outside}
use Rattle.qx_outside.specs.Trail.{History, Deed, after, deeds_of}
use Rattle.qx_outside.specs.Schedule.{fate_of}

-- ---- what it tells

-- its history: the start, and the deeds of its log
abbrev pub history_of : MemHost → History
history_of h = record { starting = h.start.items; deeds = deeds_of (reverse h.log.trail.items) (reverse h.log.asked.items) }

-- it always tells
abbrev pub outside_of : MemHost → Outside
outside_of h = record {
  tells = true;
  history = history_of h;
  extent = Some (length h.bytes.items);
  attached = option_map (λ paths. reverse paths.items.items) h.attached;
  dev_reads = Some h.schedule.reads;
  dev_faults = h.dev_faults;
  con_faults = h.con_faults;
}

-- whether a copy of its own found no memory so far
abbrev pub lacked_of : MemHost → Bool
lacked_of h = h.lacked

-- ---- by which rules it goes

-- what is to come: the numbers of calls that fail, how many calls there were, the room for events, the input that is left, the moments, and how many of them were told
pub record Setup : Type 0 where
  pub failing : List ℕ
  pub calls : ℕ
  pub room : ℕ
  pub input : List ℕ
  pub moments : List ℕ
  pub moments_told : ℕ

-- what is to come of a host
abbrev pub setup_of : MemHost → Setup
setup_of h = record { failing = h.schedule.failing.items; calls = h.schedule.calls; room = h.room; input = drop h.taken h.input.items; moments = h.moments.items; moments_told = h.moments_told }

-- one more call
abbrev pub counted : Setup → Setup
counted s = record s { calls = min (s.calls + 1) (2 ^ 64 - 1) }

-- one more call, which took so many bytes of the input
abbrev pub taken_off : ℕ → Setup → Setup
taken_off n s = record (counted s) { input = drop n s.input }

-- one more call, which told a moment
abbrev pub asked_again : Setup → Setup
asked_again s = record (counted s) { moments_told = min (s.moments_told + 1) (2 ^ 64 - 1) }

-- the moment that is told next: the last one, where all were told, and 0 where there is none
abbrev pub moment_at : Setup → ℕ
moment_at s = if nat_lt s.moments_told (length s.moments) then slice_index s.moments s.moments_told else slice_index s.moments (length s.moments - 1)

-- the fate of the next call
abbrev pub next_fate : MemHost → Fate
next_fate h = fate_of h.schedule.failing.items h.schedule.calls (nat_le h.room (length h.log.trail.items))

-- what a failed write leaves in its range: the first half of its bytes, rounded down, and what stood behind them
abbrev pub half_left : List ℕ → ℕ → List ℕ → List ℕ
half_left device at bytes = take (length bytes / 2) bytes ++ slice_range device (at + length bytes / 2) (at + length bytes)

-- the history after a deed, if there is one
abbrev pub after_any : Option Deed → History → History
after_any None h = h
after_any (Some deed) h = after deed h

-- what a call does by its fate: it is done with one deed, or fails with another; for want of room it fails with none
abbrev pub GoesBy : Fate → Bool → Option Deed → Option Deed → History → History → Type 0
GoesBy NoRoom good deed failed old new = (good ≡ false) × (new ≡ old)
GoesBy Bad good deed failed old new = (good ≡ false) × (new ≡ after_any failed old)
GoesBy Good good deed failed old new = (good ≡ true) × (new ≡ after_any deed old)

-- unless memory lacked, the call went by the rule of its number: a good one did this deed, and a failed one may leave that
abbrev pub KeepsRule : Option Deed → Option Deed → Bool → MemHost → MemHost → Type 0
KeepsRule deed failed good old new =
    lacked_of new ≡ false → (lacked_of old ≡ false) × GoesBy (next_fate old) good deed failed (outside_of old).history (outside_of new).history
