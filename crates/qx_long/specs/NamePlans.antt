-- Which leaves of a Longfile a change of names writes and takes out.
use Rattle.std.specs.Prelude.{ℕ, ◌+◌, ◌*◌, max, Option, Some, None, ◌==◌, if◌then◌else◌}
use Rattle.qx_geom.specs.declared.root.Root.{Root}
use Rattle.qx_ptree.specs.declared.change.Change.{Change}

-- the number, unless it is n
abbrev pub unless : ℕ → Option ℕ → Option ℕ
unless n None = None
unless n (Some x) = if x == n then None else Some x

-- one name is added, or none, and one goes, or none: the leaf of an added name is written, below a size that doesn't fall
abbrev pub name_change : Root → Option ℕ → Option ℕ → ℕ → Change
name_change long None drop blocksize = record { size = long.size; first = 0; count = 0; also = None; gone = drop }
name_change long (Some n) drop blocksize = record { size = max long.size ((n + 1) * blocksize); first = n; count = 1; also = None; gone = unless n drop }
