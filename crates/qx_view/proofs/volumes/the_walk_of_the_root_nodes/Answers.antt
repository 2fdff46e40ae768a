use Rattle.std.proofs.Common.{refl}
use Rattle.qx_fields.specs.Number.{field, fields}
use Rattle.qx_records.specs.InodeRecord.{inode_in, kind_of}
use Rattle.qx_records.specs.NameRecord.{raw_in, long_name_in}
use Rattle.qx_view.proofs.volumes.the_walk_of_the_root_nodes.Goals as goal

pub returns-clause-as_large_as_all_blocks : goal.returns-clause-as_large_as_all_blocks
unfolding field fields inode_in kind_of raw_in long_name_in
returns-clause-as_large_as_all_blocks c = refl

pub returns-clause-larger : goal.returns-clause-larger
unfolding field fields inode_in kind_of raw_in long_name_in
returns-clause-larger c = refl

pub returns-clause-inodes_first : goal.returns-clause-inodes_first
unfolding field fields inode_in kind_of raw_in long_name_in
returns-clause-inodes_first c = refl

pub returns-clause-then_long_names : goal.returns-clause-then_long_names
unfolding field fields inode_in kind_of raw_in long_name_in
returns-clause-then_long_names c = refl

pub returns-clause-then_the_bitmap : goal.returns-clause-then_the_bitmap
unfolding field fields inode_in kind_of raw_in long_name_in
returns-clause-then_the_bitmap c = refl

pub returns-clause-one_block_of_two : goal.returns-clause-one_block_of_two
unfolding field fields inode_in kind_of raw_in long_name_in
returns-clause-one_block_of_two c = refl

pub returns-clause-no_first_inode : goal.returns-clause-no_first_inode
unfolding field fields inode_in kind_of raw_in long_name_in
returns-clause-no_first_inode c = refl
