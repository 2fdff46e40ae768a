use Rattle.qx_super.proofs.SuperblockTests.{valid-elsewhere}
use Rattle.qx_super.proofs.laws.a_superblock_is_valid_where_there_is_room.Goals as goal

pub returns : goal.returns
returns c = λ bytes len other s valid. valid-elsewhere bytes len s valid other
