-- The two superblock areas.
use Rattle.std.specs.Prelude.{ℕ}
use Rattle.qx_geom.specs.declared.area.Which.{Which}
use Rattle.qx_geom.specs.declared.area.Which.TheVariants.{First, Second}

-- the number by which texts name an area
abbrev pub area_number : Which → ℕ
area_number First = 1
area_number Second = 2

-- the other of the two
abbrev pub other_area : Which → Which
other_area First = Second
other_area Second = First
