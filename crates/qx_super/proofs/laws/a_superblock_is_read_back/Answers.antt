use Rattle.qx_super.proofs.WrittenSuperblocks.{length_super_bytes, checksum_written, superblock_of-super_bytes}
use Rattle.qx_super.proofs.laws.a_superblock_is_read_back.Goals as goal

pub returns-clause-long : goal.returns-clause-long
returns-clause-long c = length_super_bytes

pub returns-clause-checksum : goal.returns-clause-checksum
returns-clause-checksum c = checksum_written

pub returns-clause-fields : goal.returns-clause-fields
returns-clause-fields c = λ s len fits. superblock_of-super_bytes s fits len
