use Rattle.std.proofs.Common.{refl}
use Rattle.qx_fields.specs.Number.{field, fields}
use Rattle.qx_records.specs.InodeRecord.{inode_in, kind_of}
use Rattle.qx_records.specs.NameRecord.{raw_in}
use Rattle.qx_view.proofs.examples.the_walk_in_both_orders.Goals as goal

pub returns-clause-little : goal.returns-clause-little
unfolding field fields inode_in kind_of raw_in
returns-clause-little c = refl

pub returns-clause-big : goal.returns-clause-big
unfolding field fields inode_in kind_of raw_in
returns-clause-big c = refl

pub returns-clause-little_whole : goal.returns-clause-little_whole
unfolding field fields inode_in kind_of raw_in
returns-clause-little_whole c = refl

pub returns-clause-big_whole : goal.returns-clause-big_whole
unfolding field fields inode_in kind_of raw_in
returns-clause-big_whole c = refl

pub returns-clause-other_order : goal.returns-clause-other_order
unfolding field fields inode_in kind_of raw_in
returns-clause-other_order c = refl
