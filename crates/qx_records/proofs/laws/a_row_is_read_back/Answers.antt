use Rattle.qx_records.proofs.WrittenRecords.{length_short_bytes, raw_in-short_bytes, length_long_bytes, raw_in-long_bytes, raw_in-zeros}
use Rattle.qx_records.proofs.laws.a_row_is_read_back.Goals as goal

pub returns-clause-short : goal.returns-clause-short
returns-clause-short c = raw_in-short_bytes

pub returns-clause-short_length : goal.returns-clause-short_length
returns-clause-short_length c = length_short_bytes

pub returns-clause-long : goal.returns-clause-long
returns-clause-long c = raw_in-long_bytes

pub returns-clause-long_length : goal.returns-clause-long_length
returns-clause-long_length c = length_long_bytes

pub returns-clause-unused : goal.returns-clause-unused
returns-clause-unused c = raw_in-zeros
