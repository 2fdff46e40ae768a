-- At each moment of turns a cut finds what two neighbouring machines allow.
use Rattle.std.proofs.Common.{ℕ, suc, List, [], ◌∷◌, ◌++◌, sym, subst, append-nil}
use Rattle.qx_outside.specs.Trail.{History}
use Rattle.qx_outside.specs.Moments.{HoldsThroughout}
use Rattle.qx_outside.proofs.Throughout.{throughout_here, throughout_last, throughout_map, throughout_then}
use Rattle.qx_model.specs.Machine.{Machine}
use Rattle.qx_model.specs.Findable.{found_in}
use Rattle.qx_shell.specs.Cuts.{CutsFind}
use Rattle.qx_shell.specs.Turns.{AreTurns, NeighboursAllow, none, turn}

-- the trees of a machine are allowed by it
first_allows : (places : List ℕ) (t : Machine) (later : List Machine) (h : History) → CutsFind places (found_in t) h → NeighboursAllow places (t ∷ later) h
first_allows places t later h f = (0, 0, subst (λ x. CutsFind places x h) (sym (append-nil (found_in t))) f)

-- and those of two neighbours by them
both_allow : (places : List ℕ) (s t : Machine) (later : List Machine) (h : History) → CutsFind places (found_in s ++ found_in t) h → NeighboursAllow places (s ∷ t ∷ later) h
both_allow places s t later h f = (0, 1, subst (λ x. CutsFind places (found_in s ++ x) h) (sym (append-nil (found_in t))) f)

-- what neighbours allow among later machines, they allow among all
later_allow : (places : List ℕ) (s : Machine) (machines : List Machine) (h : History) → NeighboursAllow places machines h → NeighboursAllow places (s ∷ machines) h
later_allow places s machines h (replied, begun, finds) = (suc replied, suc begun, finds)

-- from a moment at which the trees of the first machine are found, through all turns
pub neighbours_allow : (places : List ℕ) {a d : History} {s : Machine} {later : List Machine} → CutsFind places (found_in s) a → AreTurns places a s later d → HoldsThroughout (NeighboursAllow places (s ∷ later)) a d
neighbours_allow places rests (none h s) = throughout_here (NeighboursAllow places (s ∷ [])) h (first_allows places s [] h rests)
neighbours_allow places rests (turn a b c d s t later e told is leaves more) =
    let P = NeighboursAllow places (s ∷ t ∷ later) in
    let console = leaves.leaves (found_in t) is.rests in
    let after = throughout_last (CutsFind places (found_in t)) b c console in
    throughout_then P a b d
    (throughout_map (CutsFind places (found_in s ++ found_in t)) P (λ h f. both_allow places s t later h f) a b is.moments)
    (throughout_then P b c d
    (throughout_map (CutsFind places (found_in t)) P (λ h f. later_allow places s (t ∷ later) h (first_allows places t later h f)) b c console)
    (throughout_map (NeighboursAllow places (t ∷ later)) P (λ h f. later_allow places s (t ∷ later) h f) c d (neighbours_allow places after more)))
