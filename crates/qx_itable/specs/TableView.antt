-- How the inodes of a table are kept.
use Rattle.std.specs.Prelude.{◌≡◌, ◌<◌, ◌^◌, length, map, is_some}
use Rattle.qx_itable.specs.declared.table.ITable.TheInside.{Inside}
use Rattle.qx_itable.specs.TableState.{TableState, if_live}

-- the table that the fields stand for
abbrev pub table_in : Inside → TableState
table_in a = record { order = a.order; inodes = map if_live a.inodes.items }

-- the numbers fit 32 bits, and the set has the places of the live inodes
pub record IsInOrder (a : Inside) : Type 0 where
  pub few : length a.inodes.items < 2 ^ 32
  pub live : a.live ≡ map is_some (map if_live a.inodes.items)
