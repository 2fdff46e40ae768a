use Rattle.qx_super.proofs.SuperblockTests.{superblock_of-wrong}
use Rattle.qx_super.proofs.laws.bytes_without_a_right_checksum_are_no_superblock.Goals as goal

pub returns : goal.returns
returns c = superblock_of-wrong
