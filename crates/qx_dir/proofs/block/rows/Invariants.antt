use Rattle.std.proofs.Common.{◌≡◌, ◌++◌}
use Rattle.qx_records.specs.Slots.{records_in}
use Rattle.qx_dir.specs.Rows.{places_of}
use Rattle.qx_dir.proofs.block.rows.Given as goal

abbrev pub invariant-loop-record : goal.invariant-loop-record
invariant-loop-record l =
    (goal.iterator-loop-record).can_next l.record-iterator
    × (goal.iterator-loop-record).is_finite l.record-iterator
    × (l.places ++ places_of l.record-iterator ≡ places_of (records_in l.fn.order l.block))
