use Rattle.std.proofs.Common.{◌≡◌, find, not}
use Rattle.qx_records.specs.Slots.{is_in_use, records_in}
use Rattle.format_tests.proofs.directory.first_unused.Given as goal

abbrev pub invariant-loop-record : goal.invariant-loop-record
invariant-loop-record l =
    (goal.iterator-loop-record).can_next l.record-iterator
    × (goal.iterator-loop-record).is_finite l.record-iterator
    × (find (λ item. not (is_in_use item)) l.record-iterator ≡ find (λ item. not (is_in_use item)) (records_in l.fn.order l.block))
