-- The turns of a run: what each says, and how far they come.
use Rattle.std.specs.Prelude.{◌≡◌, ℕ, ◌⊎◌, Bool, true, false, List, [], ◌∷◌, map}
use Rattle.qx_model.specs.declared.refusal.Refusal.TheVariants as refusal
use Rattle.qx_model.specs.declared.reply.Reply.TheVariants as reply
use Rattle.qx_model.specs.declared.turn.Act.TheVariants as act
use Rattle.qx_model.specs.declared.turn.Turn.{Turn}
use Rattle.qx_model.specs.Machine.{Machine}
use Rattle.qx_model.specs.Next.{Next}
use Rattle.qx_words.specs.declared.line.Line.{Line}
use Rattle.qx_words.specs.declared.line.LineFault.{LineFault}
use Rattle.qx_words.specs.Lines.{IsFaultOf, IsLine}
use Rattle.qx_words.specs.Scripts.{event_by, unread}
use Rattle.qx_words.specs.Texts.{is_short, last_text, turn_text}
use Rattle.qx_shell.specs.Occasions.{OfEnd, OfLine, Occasion}

-- a turn that was made: what it says, its text, and the machine after it
pub record MadeTurn : Type 0 where
  pub turn : Turn
  pub text : List ℕ
  pub machine : Machine

-- the same turn, where memory is wanting for its text
abbrev pub without_memory : Turn → Turn
without_memory t = record t { reply = reply.Refused refusal.NoMemory }

-- a turn of the machine is said as it is; or, where its text takes memory, maybe that memory is wanting
abbrev pub IsSaid : Turn → Turn → Type 0
IsSaid told said = (said ≡ told) ⊎ ((is_short told.reply ≡ false) × (said ≡ without_memory told))

-- the turn of a line: from a machine at a moment, what is said, whether the script is over with it, and the machine after it
pub data IsLineTurn (s : Machine) (moment : ℕ) (line : List ℕ) (said : Turn) (over : Bool) (t : Machine) : Type 0 where
  -- the line is read, and its act is done
  is_read : (l : Line) (told : Turn) → IsLine line l → over ≡ l.quit → Next s (event_by l.session l.act moment) told t → IsSaid told said → IsLineTurn s moment line said over t
  -- it isn't read, having no reading or for want of memory: a tick, answered by that
  is_unread : (f : LineFault) (told : Turn) → IsFaultOf line f → over ≡ false → Next s (event_by 0 act.Tick moment) told t → said ≡ unread f told → IsLineTurn s moment line said over t

-- how far turns come: the last turn was made; or it wasn't, and these occasions are left
pub data Reach : Type 0 where
  Over : Reach
  Open : List Occasion → Reach

-- turns one after another from a machine, one for each moment, for one occasion after another; the last turn is that of the end, or of a line that is read as `quit`
pub data AreMade : Machine → List ℕ → List Occasion → List MadeTurn → Reach → Type 0 where
  none : (s : Machine) (left : List Occasion) → AreMade s [] left [] (Open left)
  line : (s : Machine) (moment : ℕ) (moments : List ℕ) (bytes : List ℕ) (left : List Occasion) (m : MadeTurn) (made : List MadeTurn) (reach : Reach) → IsLineTurn s moment bytes m.turn false m.machine → m.text ≡ turn_text m.turn
      → AreMade m.machine moments left made reach → AreMade s (moment ∷ moments) (OfLine bytes ∷ left) (m ∷ made) reach
  quit : (s : Machine) (moment : ℕ) (bytes : List ℕ) (left : List Occasion) (m : MadeTurn) → IsLineTurn s moment bytes m.turn true m.machine → m.text ≡ turn_text m.turn
      → AreMade s (moment ∷ []) (OfLine bytes ∷ left) (m ∷ []) Over
  end : (s : Machine) (moment : ℕ) (left : List Occasion) (m : MadeTurn) → Next s (event_by 0 act.End moment) m.turn m.machine → m.text ≡ last_text m.turn
      → AreMade s (moment ∷ []) (OfEnd ∷ left) (m ∷ []) Over

-- the text of each turn
abbrev pub texts_of : List MadeTurn → List (List ℕ)
texts_of made = map (λ (m : MadeTurn). m.text) made

-- the machines of a run, the first before any turn
abbrev pub machines_of : Machine → List MadeTurn → List Machine
machines_of s made = s ∷ map (λ (m : MadeTurn). m.machine) made

-- the machine after them
abbrev pub last_machine : Machine → List MadeTurn → Machine
last_machine s [] = s
last_machine s (m ∷ made) = last_machine m.machine made
