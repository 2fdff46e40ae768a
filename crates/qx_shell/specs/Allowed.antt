-- How many turns an output acknowledges, and which trees a power cut may then leave.
use Rattle.std.specs.Prelude.{◌≡◌, ℕ, suc, ◌-◌, ◌⊎◌, List, [], ◌∷◌, ◌++◌, length, Option, Some, None, ◌==◌, drop, flat_map, slice_get, take, if◌then◌else◌}
use Rattle.qx_outside.specs.declared.event.Event.{Event}
use Rattle.qx_outside.specs.declared.event.Event.TheVariants.{Gave, Now, Sized, Synced, Took, Wrote}
use Rattle.qx_outside.specs.Trail.{History, events_of, output}
use Rattle.qx_model.specs.Machine.{Machine}
use Rattle.qx_model.specs.Findable.{FoundTree, found_in}

-- ---- acknowledged turns

-- what follows a text that stands at the front
abbrev pub after_text : List ℕ → List ℕ → Option (List ℕ)
after_text [] out = Some out
after_text (c ∷ cs) [] = None
after_text (c ∷ cs) (d ∷ ds) = if c == d then after_text cs ds else None

-- the number of turns whose texts stand whole at the front of the output, one behind the other
abbrev pub replied_count : List (List ℕ) → List ℕ → ℕ
replied_count [] out = 0
replied_count (text ∷ texts) out = elim (after_text text out) [ None ↦ 0 | Some rest ↦ suc (replied_count texts rest) ]

-- ---- turns that were begun

-- the moment that an event told
abbrev pub moment_by : Event → List ℕ
moment_by (Took bytes) = []
moment_by (Gave bytes) = []
moment_by (Wrote at left ok) = []
moment_by (Synced ok) = []
moment_by (Sized len ok) = []
moment_by (Now moment) = moment ∷ []

-- the moments that events told, one after another
abbrev pub moments_in : List Event → List ℕ
moments_in [] = []
moments_in (event ∷ before) = moments_in before ++ moment_by event

-- all moments that the clock told
abbrev pub moments_of : History → List ℕ
moments_of h = moments_in (events_of h.deeds)

-- the number of turns that were begun: the clock tells one moment for the mount, and then one for each turn
abbrev pub begun_count : History → ℕ
begun_count h = length (moments_of h) - 1

-- ---- allowed trees

-- the trees of the machine after so many acknowledged turns, and of the one after the next turn, where so many were begun
abbrev pub neighbour_trees : ℕ → ℕ → List Machine → List FoundTree
neighbour_trees replied begun machines = flat_map found_in (take 2 (drop replied (take (suc begun) machines)))

-- the trees that a cut may leave of a run with these texts and machines, by what was put and which turns were begun
abbrev pub allowed_trees : List (List ℕ) → List Machine → History → List FoundTree
allowed_trees texts machines h = let begun = begun_count h in neighbour_trees (replied_count (take begun texts) (output h)) begun machines

-- these are the trees of one of the machines, or of it and the next
pub record AreOfNeighbours (machines : List Machine) (found : List FoundTree) : Type 0 where
  pub place : ℕ
  pub machine : Machine
  pub stands : slice_get machines place ≡ Some machine
  pub trees : (found ≡ found_in machine) ⊎ ((next : Machine) × (slice_get machines (suc place) ≡ Some next) × (found ≡ found_in machine ++ found_in next))
