use Rattle.qx_super.proofs.ActiveAreas.{superblock_of-zeros}
use Rattle.qx_super.proofs.laws.a_buffer_of_zeros_is_no_superblock.Goals as goal

pub returns : goal.returns
returns c = superblock_of-zeros
