-- How a run says a line, and why it ends with a status.
use Rattle.std.specs.Prelude.{ℕ, ◌≡◌, ◌≢◌, ◌≤◌, ◌⊎◌, IsTrue, ◌∷◌, length, take}
use Rattle.qx_outside.specs.declared.event.Attachment.{Attachment}
use Rattle.qx_outside.specs.Calls.{LeavesDevice}
use Rattle.qx_outside.specs.Causes.{Becomes, Rose}
use Rattle.qx_outside.specs.Outside.{Outside}
use Rattle.qx_outside.specs.Trail.{History, gave, after}
use Rattle.qx_top.specs.declared.lines.Line.{Line}
use Rattle.qx_top.specs.declared.status.Status.{Status}
use Rattle.qx_top.specs.declared.status.Status.TheVariants.{Done, BadWords, BadImage, DeviceFault, ConsoleFault, NoMemory}
use Rattle.qx_top.specs.Lines.{text_of}

-- the exit status
abbrev pub code_of : Status → ℕ
code_of Done = 0
code_of BadWords = 1
code_of BadImage = 2
code_of DeviceFault = 3
code_of ConsoleFault = 4
code_of NoMemory = 5

-- the line was given, and nothing else was done
abbrev pub Gives : Line → History → History → Type 0
Gives line old new = new ≡ after (gave (text_of line)) old

-- a prefix of the line was given, or nothing
abbrev pub GivesPartOf : Line → History → History → Type 0
GivesPartOf line old new =
    (new ≡ old) ⊎ ((n : ℕ) × (n ≤ length (text_of line)) × (new ≡ after (gave (take n (text_of line))) old))

-- the line is given and nothing else is done: whole with the status that is owed, or in part with status 4
pub record Says (line : Line) (owed status : ℕ) (old new : Outside) : Type 0 where
  pub before : IsTrue new.tells → IsTrue old.tells
  pub owes : status ≢ 4 → status ≡ owed
  pub whole : status ≢ 4 → IsTrue new.tells → Gives line old.history new.history
  pub cut : status ≡ 4 → IsTrue new.tells → GivesPartOf line old.history new.history

-- the line says what isn't accepted, and the device is left alone
pub record Refuses (line : Line) (status : ℕ) (old new : Outside) : Type 0 where
  pub says : Says line 1 status old new
  pub others : LeavesDevice old new

-- this was attached, and nothing else
abbrev pub Attaches : Attachment → Outside → Outside → Type 0
Attaches one old new = Becomes old.attached new.attached (λ before now. now ≡ one ∷ before)

-- status 4 comes only where a call of the console or the clock failed, and other statuses only where none did
pub record HasConsoleCause (status : ℕ) (old new : Outside) : Type 0 where
  pub failed : status ≡ 4 → Rose old.con_faults new.con_faults
  pub kept : status ≢ 4 → new.con_faults ≡ old.con_faults

-- status 3 comes only where a device call failed, and other statuses only where none did, but for 4, which takes the place of the one that was owed
pub record HasStatusCause (status : ℕ) (old new : Outside) : Type 0 where
  pub device : status ≡ 3 → Rose old.dev_faults new.dev_faults
  pub kept : status ≢ 3 → status ≢ 4 → new.dev_faults ≡ old.dev_faults
  pub console : HasConsoleCause status old new
