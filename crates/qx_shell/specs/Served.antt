-- A run on its way: what holds between its turns, and within one.
use Rattle.std.specs.Prelude.{◌≡◌, ◌≤◌, ℕ, suc, List, [], ◌∷◌, ◌++◌, length}
use Rattle.std.specs.List.{concat}
use Rattle.qx_outside.specs.Moments.{HoldsThroughout}
use Rattle.qx_outside.specs.Trail.{History, output}
use Rattle.qx_model.specs.Machine.{Machine}
use Rattle.qx_model.specs.Findable.{found_in}
use Rattle.qx_shell.specs.MadeTurns.{MadeTurn, last_machine, machines_of, texts_of}
use Rattle.qx_shell.specs.Allowed.{moments_of}
use Rattle.qx_shell.specs.Cuts.{CutsFind, CutsFindAllowed}
use Rattle.qx_shell.specs.Unmounted.{first_history}

-- at each moment until now a cut leaves what is allowed, whatever turns come later
abbrev pub IsSafeYet : List ℕ → Machine → List MadeTurn → History → Type 0
IsSafeYet places start made h = (later : List MadeTurn) → HoldsThroughout (CutsFindAllowed places (texts_of (made ++ later)) (machines_of start (made ++ later))) (first_history h) h

-- before the first turn: cuts find the trees of the mount, nothing was put, and the clock told no moment but the mount's
pub record IsMounting (places : List ℕ) (start : Machine) (h : History) : Type 0 where
  pub rests : CutsFind places (found_in start) h
  pub unput : output h ≡ []
  pub clock : length (moments_of h) ≤ 1

-- between two turns: all texts are put, and cuts find the trees of the last machine
pub record IsServed (places : List ℕ) (start : Machine) (made : List MadeTurn) (h : History) : Type 0 where
  pub clock : length (moments_of h) ≡ suc (length made)
  pub put : output h ≡ concat (texts_of made)
  pub rests : CutsFind places (found_in (last_machine start made)) h
  pub safe : IsSafeYet places start made h

-- within a turn: it is made, and its text isn't put yet
pub record IsUnsaid (places : List ℕ) (start : Machine) (made : List MadeTurn) (m : MadeTurn) (h : History) : Type 0 where
  pub clock : length (moments_of h) ≡ suc (suc (length made))
  pub put : output h ≡ concat (texts_of made)
  pub rests : CutsFind places (found_in m.machine) h
  pub safe : IsSafeYet places start (made ++ m ∷ []) h
