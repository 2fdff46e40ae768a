use Rattle.std.proofs.Common.{refl}
use Rattle.qx_fields.specs.Number.{field, fields}
use Rattle.qx_records.specs.InodeRecord.{inode_in, kind_of}
use Rattle.qx_records.specs.NameRecord.{raw_in}
use Rattle.qx_view.proofs.examples.the_walk_of_a_vast_directory.Goals as goal

pub returns-clause-outside : goal.returns-clause-outside
unfolding field fields inode_in kind_of raw_in
returns-clause-outside c = refl

pub returns-clause-looping : goal.returns-clause-looping
unfolding field fields inode_in kind_of raw_in
returns-clause-looping c = refl
