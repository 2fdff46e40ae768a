use Rattle.std.proofs.Common.{refl}
use Rattle.qx_fields.specs.Number.{field}
use Rattle.qx_records.specs.NameRecord.{raw_in}
use Rattle.qx_records.proofs.examples.the_records_of_bytes.Goals as goal

pub returns-clause-no_inode : goal.returns-clause-no_inode
unfolding field raw_in
returns-clause-no_inode c = refl

pub returns-clause-no_length : goal.returns-clause-no_length
unfolding field raw_in
returns-clause-no_length c = refl

pub returns-clause-short : goal.returns-clause-short
unfolding field raw_in
returns-clause-short c = refl

pub returns-clause-longest : goal.returns-clause-longest
unfolding field raw_in
returns-clause-longest c = refl

pub returns-clause-too_long : goal.returns-clause-too_long
unfolding field raw_in
returns-clause-too_long c = refl

pub returns-clause-long : goal.returns-clause-long
unfolding field raw_in
returns-clause-long c = refl
