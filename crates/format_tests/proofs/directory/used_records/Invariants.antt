use Rattle.std.proofs.Common.{◌≡◌, ◌/◌, length, count_by, ◌+◌, ◌≤◌}
use Rattle.qx_records.specs.Slots.{is_in_use, records_in}
use Rattle.format_tests.proofs.directory.used_records.Given as goal

abbrev pub invariant-loop-record : goal.invariant-loop-record
invariant-loop-record l =
    (goal.iterator-loop-record).can_next l.record-iterator
    × (goal.iterator-loop-record).is_finite l.record-iterator
    × (l.used + length l.record-iterator ≤ length l.block / 32)
    × (l.used + count_by is_in_use l.record-iterator ≡ count_by is_in_use (records_in l.fn.order l.block))
