-- Numbers of long names that have no leaf.
use Rattle.std.specs.Prelude.{◌≡◌, ℕ, ◌^◌, ◌<◌, false, Contains}
use Rattle.qx_geom.specs.declared.root.Root.{Root}
use Rattle.qx_geom.specs.Lists.{is_in}
use Rattle.qx_nodes.specs.BlockMap.{BlockMap}
use Rattle.qx_nodes.specs.Visits.{Visit, present_of, visits_of}

-- number n has no leaf: its leaf is a hole, or lies past the size
abbrev pub IsAbsent : BlockMap → Root → ℕ → Type 0
IsAbsent m long n = is_in (present_of m long) n ≡ false

-- a number that a record can hold has no leaf
pub record HasAbsent (m : BlockMap) (long : Root) : Type 0 where
  pub number : ℕ
  pub fits : number < 2 ^ 32
  pub absent : IsAbsent m long number

-- what is met in the Longfile leads to blocks that are there
abbrev pub HasLeaves : BlockMap → Root → Type 0
HasLeaves m long = (v : Visit) → Contains (visits_of m long) v → v.block < m.count
