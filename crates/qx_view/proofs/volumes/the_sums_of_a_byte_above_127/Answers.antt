use Rattle.std.proofs.Common.{refl}
use Rattle.qx_fields.specs.Number.{field, fields}
use Rattle.qx_records.specs.InodeRecord.{inode_in, kind_of}
use Rattle.qx_records.specs.NameRecord.{raw_in, long_name_in}
use Rattle.qx_records.specs.NameSum.{name_sum_of, name_sum_signed_of}
use Rattle.qx_view.proofs.volumes.the_sums_of_a_byte_above_127.Goals as goal

pub returns-clause-unsigned : goal.returns-clause-unsigned
unfolding field fields inode_in kind_of raw_in long_name_in name_sum_of name_sum_signed_of
returns-clause-unsigned c = refl

pub returns-clause-signed : goal.returns-clause-signed
unfolding field fields inode_in kind_of raw_in long_name_in name_sum_of name_sum_signed_of
returns-clause-signed c = refl

pub returns-clause-neither : goal.returns-clause-neither
unfolding field fields inode_in kind_of raw_in long_name_in name_sum_of name_sum_signed_of
returns-clause-neither c = refl
