use Rattle.qx_records.proofs.RecordLists.{record_at-put_at, record_at-put_at-other}
use Rattle.qx_records.proofs.laws.a_record_that_is_put_changes_no_other.Goals as goal

pub returns-clause-itself : goal.returns-clause-itself
returns-clause-itself c = record_at-put_at

pub returns-clause-others : goal.returns-clause-others
returns-clause-others c = λ order block bytes place other whole within apart. record_at-put_at-other order block bytes place whole within other apart
