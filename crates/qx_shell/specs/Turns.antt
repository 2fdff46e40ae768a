-- One turn of a volume and turns one after another, with what a cut leaves on the way.
use Rattle.std.specs.Prelude.{ℕ, List, [], ◌∷◌, ◌++◌}
use Rattle.qx_outside.specs.Trail.{History}
use Rattle.qx_outside.specs.Moments.{HoldsThroughout}
use Rattle.qx_model.specs.declared.turn.Turn.{Turn}
use Rattle.qx_model.specs.declared.turn.VolEvent.{VolEvent}
use Rattle.qx_model.specs.Machine.{Machine}
use Rattle.qx_model.specs.Findable.{FoundTree, found_in}
use Rattle.qx_model.specs.Next.{Next}
use Rattle.qx_shell.specs.Allowed.{neighbour_trees}
use Rattle.qx_shell.specs.Cuts.{CutsFind}

-- a turn of the machine: at each moment a cut leaves a tree of one of its two machines, and in the end of the later one
pub record IsTurnOf (places : List ℕ) (old new : History) (s : Machine) (e : VolEvent) (turn : Turn) (t : Machine) : Type 0 where
  pub next : Next s e turn t
  pub moments : HoldsThroughout (CutsFind places (found_in s ++ found_in t)) old new
  pub rests : CutsFind places (found_in t) new

-- what is done between turns leaves what cuts find
pub record LeavesCuts (places : List ℕ) (old new : History) : Type 0 where
  pub leaves : (found : List FoundTree) → CutsFind places found old → HoldsThroughout (CutsFind places found) old new

-- turns one after another, with what is done between them; the list has the machine after each
pub data AreTurns (places : List ℕ) : History → Machine → List Machine → History → Type 0 where
  none : (h : History) (s : Machine) → AreTurns places h s [] h
  turn : (a b c d : History) (s t : Machine) (later : List Machine) (e : VolEvent) (told : Turn) → IsTurnOf places a b s e told t → LeavesCuts places b c → AreTurns places c t later d
      → AreTurns places a s (t ∷ later) d

-- at a moment a cut leaves a tree of one of these machines or of the one behind it
abbrev pub NeighboursAllow : List ℕ → List Machine → History → Type 0
NeighboursAllow places machines h = (replied : ℕ) × (begun : ℕ) × CutsFind places (neighbour_trees replied begun machines) h
