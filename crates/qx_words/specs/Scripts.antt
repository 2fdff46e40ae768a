-- Whole scripts, as bytes in and bytes out, where nothing fails.
use Rattle.std.specs.Prelude.{ℕ, Bool, true, false, List, [], ◌∷◌, ◌++◌, flat_map, replicate, Result, Ok, Err}
use Rattle.qx_model.specs.declared.reply.Reply.TheVariants as reply
use Rattle.qx_model.specs.declared.refusal.Refusal.{Refusal}
use Rattle.qx_model.specs.declared.refusal.Refusal.TheVariants as refusal
use Rattle.qx_model.specs.declared.turn.Act.{Act}
use Rattle.qx_model.specs.declared.turn.Act.TheVariants as act
use Rattle.qx_model.specs.declared.turn.Turn.{Turn}
use Rattle.qx_model.specs.declared.turn.VolEvent.{VolEvent}
use Rattle.qx_model.specs.Machine.{Machine}
use Rattle.qx_model.specs.Next.{Transition, next}
use Rattle.qx_words.specs.declared.line.Line.{Line}
use Rattle.qx_words.specs.declared.line.LineFault.{LineFault}
use Rattle.qx_words.specs.declared.line.LineFault.TheVariants as fault
use Rattle.qx_words.specs.Lines.{lines_of}
use Rattle.qx_words.specs.Reading.{line_from}
use Rattle.qx_words.specs.Texts.{last_text, turn_text}

-- lines, each with its newline
abbrev pub text : List (List ℕ) → List ℕ
text lines = flat_map (λ line. line ++ 10 ∷ []) lines

-- an act of a session at a moment
abbrev pub event_by : ℕ → Act → ℕ → VolEvent
event_by session a moment = record { session = session; moment = moment; act = a }

-- why a line isn't read, as a refusal
abbrev pub refusal_for : LineFault → Refusal
refusal_for (fault.BadLine at) = refusal.BadLine at
refusal_for fault.NoMemory = refusal.NoMemory

-- the turn of a line that isn't read: a tick, which is answered by a refusal
abbrev pub unread : LineFault → Turn → Turn
unread f t = record t { reply = reply.Refused (refusal_for f) }

-- the text of a turn, and of those after it unless it was the last
abbrev pub told_then : Bool → Transition → (Machine → List ℕ) → List ℕ
told_then true r rest = turn_text r.turn
told_then false r rest = turn_text r.turn ++ rest r.machine

-- the texts of a line and of those after it
abbrev pub told_by : Result Line LineFault → Machine → ℕ → (Machine → List ℕ) → List ℕ
told_by (Ok l) s moment rest = told_then l.quit (next s (event_by l.session l.act moment)) rest
told_by (Err f) s moment rest = let r = next s (event_by 0 act.Tick moment) in turn_text (unread f r.turn) ++ rest r.machine

-- what lines put, each at its moment, and the end after them
abbrev pub output_of : Machine → List ℕ → List (List ℕ) → List ℕ
output_of s [] lines = []
output_of s (moment ∷ moments) [] = last_text (next s (event_by 0 act.End moment)).turn
output_of s (moment ∷ moments) (line ∷ lines) = told_by (line_from line) s moment (λ t. output_of t moments lines)

-- what a script puts that has a moment for each turn
abbrev pub output_at : List ℕ → Machine → List ℕ → List ℕ
output_at moments s script = output_of s moments (lines_of script)

-- what a script of fewer than 64 lines puts at moment 1000
abbrev pub output : Machine → List ℕ → List ℕ
output s script = output_at (replicate 64 1000) s script
