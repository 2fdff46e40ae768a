use Rattle.std.proofs.Common.{refl}
use Rattle.qx_fields.specs.Number.{field, fields}
use Rattle.qx_geom.specs.Layout.{levels_for, tree_blocks, pointer_blocks, geometry_of, system_root_of}
use Rattle.qx_records.specs.InodeRecord.{inode_in, kind_of}
use Rattle.qx_records.specs.NameRecord.{raw_in, long_name_in}
use Rattle.qx_records.specs.NameSum.{name_sum_of}
use Rattle.qx_view.proofs.volumes.a_volume_of_eighteen_inodes.Goals as goal

pub returns-clause-whole : goal.returns-clause-whole
unfolding field fields inode_in kind_of raw_in long_name_in name_sum_of levels_for tree_blocks pointer_blocks geometry_of system_root_of
returns-clause-whole c = refl

pub returns-clause-ours : goal.returns-clause-ours
unfolding field fields inode_in kind_of raw_in long_name_in name_sum_of levels_for tree_blocks pointer_blocks geometry_of system_root_of
returns-clause-ours c = refl

pub returns-clause-counted : goal.returns-clause-counted
unfolding field fields inode_in kind_of raw_in long_name_in name_sum_of levels_for tree_blocks pointer_blocks geometry_of system_root_of
returns-clause-counted c = refl

pub returns-clause-still_whole : goal.returns-clause-still_whole
unfolding field fields inode_in kind_of raw_in long_name_in name_sum_of levels_for tree_blocks pointer_blocks geometry_of system_root_of
returns-clause-still_whole c = refl

pub returns-clause-still_ours : goal.returns-clause-still_ours
unfolding field fields inode_in kind_of raw_in long_name_in name_sum_of levels_for tree_blocks pointer_blocks geometry_of system_root_of
returns-clause-still_ours c = refl

pub returns-clause-tail : goal.returns-clause-tail
unfolding field fields inode_in kind_of raw_in long_name_in name_sum_of levels_for tree_blocks pointer_blocks geometry_of system_root_of
returns-clause-tail c = refl

pub returns-clause-last_inode : goal.returns-clause-last_inode
unfolding field fields inode_in kind_of raw_in long_name_in name_sum_of levels_for tree_blocks pointer_blocks geometry_of system_root_of
returns-clause-last_inode c = refl
