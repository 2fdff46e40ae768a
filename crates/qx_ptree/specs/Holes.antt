-- The least leaf of a node that isn't present.
use Rattle.std.specs.Prelude.{◌≡◌, ℕ, ◌<◌, ◌≤◌, true, false, List, Option, Some, None, Contains}
use Rattle.qx_geom.specs.declared.root.Root.{Root}
use Rattle.qx_geom.specs.Lists.{is_in}
use Rattle.qx_nodes.specs.BlockMap.{BlockMap}
use Rattle.qx_nodes.specs.Leaves.{leaves_below}
use Rattle.qx_nodes.specs.Visits.{Visit, visits_of, visits_under}
use Rattle.qx_ptree.specs.Trees.{pointer_at}

-- each number from `from` on, before `to`, is in the list
abbrev pub HasEach : List ℕ → ℕ → ℕ → Type 0
HasEach xs from to = (i : ℕ) → from ≤ i → i < to → is_in xs i ≡ true

-- of the numbers from `from` on, before `to`, the least that the list lacks; none where it has each
abbrev pub IsLeastLack : List ℕ → ℕ → ℕ → Option ℕ → Type 0
IsLeastLack xs from to None = HasEach xs from to
IsLeastLack xs from to (Some i) = HasEach xs from i × (is_in xs i ≡ false)

-- this pointer stands at block `index` of a level, and what is met from it on is met in the node
pub record StandsAt (m : BlockMap) (node : Root) (level index p : ℕ) : Type 0 where
  pub within : level ≤ node.levels
  pub pointer : p ≡ pointer_at m node level index
  pub met : (v : Visit) → Contains (visits_under m (leaves_below m node) level index p) v → Contains (visits_of m node) v
