-- The trees that a power cut may leave of a machine.
use Rattle.std.specs.Prelude.{ℕ, List, [], ◌∷◌, ◌++◌, take, Option, Some, None, Contains}
use Rattle.qx_model.specs.declared.turn.VolEvent.{VolEvent}
use Rattle.qx_model.specs.Tree.{Tree}
use Rattle.qx_model.specs.Machine.{Frozen, Machine, Snapshot}
use Rattle.qx_model.specs.Snapshots.{after_moves}
use Rattle.qx_model.specs.Next.{Faults, act_result, background_moves, moves_made, plan_under}

-- a tree with the serial of its superblock
pub record FoundTree : Type 0 where
  pub tree : Tree
  pub serial : ℕ

-- that of a snapshot
abbrev pub found_of : Snapshot → FoundTree
found_of k = record { tree = k.copy.tree; serial = k.serial }

-- that of the frozen copy, if there is one
abbrev pub found_frozen : Option Frozen → List FoundTree
found_frozen None = []
found_frozen (Some p) = found_of p.snapshot ∷ []

-- the durable tree, and the frozen one, if there is one
abbrev pub found_in : Machine → List FoundTree
found_in s = found_of s.durable ∷ found_frozen s.frozen

-- what a cut may leave of the first machine, it may leave of the second or of the third
abbrev pub IsFoundAmong : Machine → Machine → Machine → Type 0
IsFoundAmong u s t = (f : FoundTree) → Contains (found_in u) f → Contains (found_in s ++ found_in t) f

-- the machine after so many moves of the act of a turn
abbrev pub during_act : Faults → Machine → VolEvent → ℕ → Machine
during_act f s e k = after_moves e.moment (plan_under f s e).from (take k (moves_made f.act (plan_under f s e)))

-- the machine after the act of a turn and so many background steps
abbrev pub during_steps : Faults → Machine → VolEvent → ℕ → Machine
during_steps f s e k = after_moves e.moment (act_result f s e).machine (take k (background_moves f.background (act_result f s e)))

-- the machine at a moment of a turn: before all moves, within those of the act, or within the background steps
pub data IsOnTheWay (f : Faults) (s : Machine) (e : VolEvent) : Machine → Type 0 where
  before : IsOnTheWay f s e s
  in_act : (k : ℕ) → IsOnTheWay f s e (during_act f s e k)
  in_steps : (k : ℕ) → IsOnTheWay f s e (during_steps f s e k)
