-- The least present leaf of a node from one on.
use Rattle.std.specs.Prelude.{◌≡◌, ℕ, ◌<◌, ◌≤◌, false, List, Option, Some, None, Contains}
use Rattle.qx_geom.specs.declared.root.Root.{Root}
use Rattle.qx_geom.specs.Lists.{is_in}
use Rattle.qx_nodes.specs.BlockMap.{BlockMap}
use Rattle.qx_nodes.specs.Visits.{present_of, visits_of}
use Rattle.qx_ptree.specs.declared.present.Leaf.{Leaf}

-- of the present leaves from one on the least, with its block; none where there is none
abbrev pub IsNextPresent : BlockMap → Root → ℕ → Option Leaf → Type 0
IsNextPresent m node from None = (i : ℕ) → from ≤ i → is_in (present_of m node) i ≡ false
IsNextPresent m node from (Some leaf) =
    Contains (visits_of m node) (record { level = 0; index = leaf.index; block = leaf.block })
    × ((i : ℕ) → from ≤ i → i < leaf.index → is_in (present_of m node) i ≡ false)

-- no number from `from` on that is at least `low` and below `high` is in the list
abbrev pub HasNone : List ℕ → ℕ → ℕ → ℕ → Type 0
HasNone xs from low high = (i : ℕ) → from ≤ i → low ≤ i → i < high → is_in xs i ≡ false

-- the same among the leaves from `low` on, before `high`
abbrev pub IsNextBetween : BlockMap → Root → ℕ → ℕ → ℕ → Option Leaf → Type 0
IsNextBetween m node from low high None = HasNone (present_of m node) from low high
IsNextBetween m node from low high (Some leaf) =
    Contains (visits_of m node) (record { level = 0; index = leaf.index; block = leaf.block }) × HasNone (present_of m node) from low leaf.index
