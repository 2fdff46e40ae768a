use Rattle.qx_records.proofs.WrittenRecords.{length_long_name_bytes, long_name_in-long_name_bytes}
use Rattle.qx_records.proofs.laws.a_long_name_is_read_back.Goals as goal

pub returns-clause-name : goal.returns-clause-name
returns-clause-name c = long_name_in-long_name_bytes

pub returns-clause-long : goal.returns-clause-long
returns-clause-long c = length_long_name_bytes
