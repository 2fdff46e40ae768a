use Rattle.qx_super.proofs.SuperblockTests.{superblock_of-other}
use Rattle.qx_super.proofs.laws.bytes_without_the_magic_are_no_superblock.Goals as goal

pub returns : goal.returns
returns c = superblock_of-other
