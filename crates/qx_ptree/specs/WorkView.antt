-- How the work of a change lies in memory.
use Rattle.std.specs.Prelude.{map}
use Rattle.qx_ptree.specs.declared.work.Edit.{Edit}
use Rattle.qx_ptree.specs.declared.work.Work.TheInside.{Inside}
use Rattle.qx_ptree.specs.WorkState.{EditState, WorkState}

-- a pointer block and its bytes to come
abbrev pub edit_in : Edit → EditState
edit_in e = record { block = e.block; bytes = e.bytes.items }

-- the work that the fields stand for
abbrev pub work_in : Inside → WorkState
work_in a = record { fresh = a.fresh.items; edits = map edit_in a.edits.items; kept = a.kept.items; released = a.released.items }
