use Rattle.qx_super.proofs.SuperblockTests.{valid-checksum, valid-blocksize, valid-blocks, valid-room}
use Rattle.qx_super.proofs.laws.a_valid_superblock_passed_each_test.Goals as goal

pub returns-clause-checksum : goal.returns-clause-checksum
returns-clause-checksum c = valid-checksum

pub returns-clause-blocksize : goal.returns-clause-blocksize
returns-clause-blocksize c = valid-blocksize

pub returns-clause-blocks : goal.returns-clause-blocks
returns-clause-blocks c = valid-blocks

pub returns-clause-room : goal.returns-clause-room
returns-clause-room c = valid-room
