-- What holds at each moment of a run: of the history before it, of each one on the way, and of the one after it.
use Rattle.std.specs.Prelude.{IsTrue, ◌≡◌, List, [], ◌∷◌, ◌++◌}
use Rattle.qx_outside.specs.Outside.{Outside}
use Rattle.qx_outside.specs.Trail.{History, Deed, others_of}

-- the history after these deeds, the newest first
abbrev pub grown : History → List Deed → History
grown old since = record { starting = old.starting; deeds = since ++ old.deeds }

-- P holds of the history and of each one on the way while these deeds are done
abbrev pub HoldsAlong : (History → Type 0) → History → List Deed → Type 0
HoldsAlong P old [] = P old
HoldsAlong P old (deed ∷ since) = P (grown old (deed ∷ since)) × HoldsAlong P old since

-- the new history is the old one grown, and P holds at each moment
pub record HoldsThroughout (P : History → Type 0) (old new : History) : Type 0 where
  pub since : List Deed
  pub grew : new ≡ grown old since
  pub along : HoldsAlong P old since

-- but for writes and syncs these are its deeds, the newest first
abbrev pub HasOthers : List Deed → History → Type 0
HasOthers others h = others_of h.deeds ≡ others

-- where P holds before, it holds at each moment
pub record Keeps (P : History → Type 0) (old new : Outside) : Type 0 where
  pub before : IsTrue new.tells → IsTrue old.tells
  pub step : IsTrue new.tells → P old.history → HoldsThroughout P old.history new.history

-- where L holds before, Q holds at each moment, and M after
pub record Moves (L M Q : History → Type 0) (old new : Outside) : Type 0 where
  pub before : IsTrue new.tells → IsTrue old.tells
  pub step : IsTrue new.tells → L old.history → HoldsThroughout Q old.history new.history × M new.history

-- where L holds before, Q holds at each moment
pub record Reaches (L Q : History → Type 0) (old new : Outside) : Type 0 where
  pub before : IsTrue new.tells → IsTrue old.tells
  pub step : IsTrue new.tells → L old.history → HoldsThroughout Q old.history new.history
