use Rattle.std.proofs.Common.{refl}
use Rattle.qx_fields.specs.Number.{field, fields}
use Rattle.qx_records.specs.InodeRecord.{inode_in}
use Rattle.qx_view.proofs.kinds.the_attributes_of_counted_bytes.Goals as goal

pub returns-clause-little : goal.returns-clause-little
unfolding field fields inode_in
returns-clause-little c = refl

pub returns-clause-big : goal.returns-clause-big
unfolding field fields inode_in
returns-clause-big c = refl
