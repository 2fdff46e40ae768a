-- What happened outside, the newest first, and the bytes that it left.
use Rattle.std.specs.Prelude.{ℕ, ◌-◌, Bool, true, false, List, [], ◌∷◌, ◌++◌, length, take, replicate, reverse}
use Rattle.qx_bytes.specs.Ranges.{put_at}
use Rattle.qx_outside.specs.declared.event.Event.{Event}
use Rattle.qx_outside.specs.declared.event.Event.TheVariants.{Took, Gave, Wrote, Synced, Sized, Now}

-- an event, and for a write the bytes that it was asked to put
pub data Deed : Type 0 where
  took : List ℕ → Deed
  gave : List ℕ → Deed
  wrote : (at : ℕ) (asked left : List ℕ) (ok : Bool) → Deed
  synced : Bool → Deed
  sized : ℕ → Bool → Deed
  told_moment : ℕ → Deed

-- a device's bytes at the start, and what was done since, the newest first
pub record History : Type 0 where
  pub starting : List ℕ
  pub deeds : List Deed

-- the history after one more deed
abbrev pub after : Deed → History → History
after deed h = record h { deeds = deed ∷ h.deeds }

-- ---- the trail

-- the event of a deed
abbrev pub event_of : Deed → Event
event_of (took bytes) = Took bytes
event_of (gave bytes) = Gave bytes
event_of (wrote at asked left ok) = Wrote at left ok
event_of (synced ok) = Synced ok
event_of (sized len ok) = Sized len ok
event_of (told_moment moment) = Now moment

-- the events of deeds, the newest first
abbrev pub events_of : List Deed → List Event
events_of [] = []
events_of (deed ∷ before) = event_of deed ∷ events_of before

-- the events in real order
abbrev pub trail_of : History → List Event
trail_of h = reverse (events_of h.deeds)

-- the deeds of these events, where these bytes were asked of the writes among them; all the newest first
abbrev pub deeds_of : List Event → List (List ℕ) → List Deed
deeds_of [] asked = []
deeds_of (Wrote at left ok ∷ before) [] = wrote at [] left ok ∷ deeds_of before []
deeds_of (Wrote at left ok ∷ before) (bytes ∷ asked) = wrote at bytes left ok ∷ deeds_of before asked
deeds_of (Took bytes ∷ before) asked = took bytes ∷ deeds_of before asked
deeds_of (Gave bytes ∷ before) asked = gave bytes ∷ deeds_of before asked
deeds_of (Synced ok ∷ before) asked = synced ok ∷ deeds_of before asked
deeds_of (Sized len ok ∷ before) asked = sized len ok ∷ deeds_of before asked
deeds_of (Now moment ∷ before) asked = told_moment moment ∷ deeds_of before asked

-- ---- the device's bytes

-- the bytes cut to a length, or filled up to it with 0
abbrev pub resized : List ℕ → ℕ → List ℕ
resized bytes len = take len bytes ++ replicate (len - length bytes) 0

-- the bytes after one more deed
abbrev pub bytes_after : Deed → List ℕ → List ℕ
bytes_after (wrote at asked left ok) bytes = put_at bytes at left
bytes_after (sized len true) bytes = resized bytes len
bytes_after (sized len false) bytes = bytes
bytes_after (took taken) bytes = bytes
bytes_after (gave given) bytes = bytes
bytes_after (synced ok) bytes = bytes
bytes_after (told_moment moment) bytes = bytes

-- the bytes that deeds leave of those at the start
abbrev pub device_bytes : List ℕ → List Deed → List ℕ
device_bytes starting [] = starting
device_bytes starting (deed ∷ before) = bytes_after deed (device_bytes starting before)

-- the device's bytes after all that was done
abbrev pub bytes_of : History → List ℕ
bytes_of h = device_bytes h.starting h.deeds

-- the lengths that were asked for, the newest first
abbrev pub lengths_asked : List Deed → List ℕ
lengths_asked [] = []
lengths_asked (sized len ok ∷ before) = len ∷ lengths_asked before
lengths_asked (wrote at asked left ok ∷ before) = lengths_asked before
lengths_asked (took taken ∷ before) = lengths_asked before
lengths_asked (gave given ∷ before) = lengths_asked before
lengths_asked (synced ok ∷ before) = lengths_asked before
lengths_asked (told_moment moment ∷ before) = lengths_asked before

-- the deeds but for writes and syncs, the newest first
abbrev pub others_of : List Deed → List Deed
others_of [] = []
others_of (sized len ok ∷ before) = sized len ok ∷ others_of before
others_of (wrote at asked left ok ∷ before) = others_of before
others_of (took taken ∷ before) = took taken ∷ others_of before
others_of (gave given ∷ before) = gave given ∷ others_of before
others_of (synced ok ∷ before) = others_of before
others_of (told_moment moment ∷ before) = told_moment moment ∷ others_of before

-- ---- the console's bytes

-- the input that an event took
abbrev pub taken_by : Event → List ℕ
taken_by (Took bytes) = bytes
taken_by (Gave bytes) = []
taken_by (Wrote at left ok) = []
taken_by (Synced ok) = []
taken_by (Sized len ok) = []
taken_by (Now moment) = []

-- the output that an event gave
abbrev pub given_by : Event → List ℕ
given_by (Took bytes) = []
given_by (Gave bytes) = bytes
given_by (Wrote at left ok) = []
given_by (Synced ok) = []
given_by (Sized len ok) = []
given_by (Now moment) = []

-- the input that events took, one after another
abbrev pub input_of : List Event → List ℕ
input_of [] = []
input_of (event ∷ before) = input_of before ++ taken_by event

-- the output that events gave, one after another
abbrev pub output_of : List Event → List ℕ
output_of [] = []
output_of (event ∷ before) = output_of before ++ given_by event

-- all input that was taken
abbrev pub input : History → List ℕ
input h = input_of (events_of h.deeds)

-- all output that was given
abbrev pub output : History → List ℕ
output h = output_of (events_of h.deeds)
