use Rattle.std.proofs.Common.{refl}
use Rattle.qx_fields.specs.Number.{field, fields}
use Rattle.qx_records.specs.InodeRecord.{inode_in, kind_of}
use Rattle.qx_records.specs.NameRecord.{raw_in}
use Rattle.qx_view.proofs.examples.the_walk_of_two_directories.Goals as goal

pub returns-clause-order : goal.returns-clause-order
unfolding field fields inode_in kind_of raw_in
returns-clause-order c = refl

pub returns-clause-whole : goal.returns-clause-whole
unfolding field fields inode_in kind_of raw_in
returns-clause-whole c = refl

pub returns-clause-no_inode : goal.returns-clause-no_inode
unfolding field fields inode_in kind_of raw_in
returns-clause-no_inode c = refl

pub returns-clause-twice : goal.returns-clause-twice
unfolding field fields inode_in kind_of raw_in
returns-clause-twice c = refl

pub returns-clause-kind : goal.returns-clause-kind
unfolding field fields inode_in kind_of raw_in
returns-clause-kind c = refl

pub returns-clause-cycle : goal.returns-clause-cycle
unfolding field fields inode_in kind_of raw_in
returns-clause-cycle c = refl
