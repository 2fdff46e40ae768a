use Rattle.std.proofs.Common.{refl}
use Rattle.qx_fields.specs.Number.{field, fields}
use Rattle.qx_geom.specs.Layout.{levels_for, tree_blocks, pointer_blocks, geometry_of, system_root_of}
use Rattle.qx_records.specs.InodeRecord.{inode_in, kind_of}
use Rattle.qx_records.specs.NameRecord.{raw_in, long_name_in}
use Rattle.qx_records.specs.NameSum.{name_sum_of}
use Rattle.qx_view.proofs.volumes.the_walk_of_three_directories.Goals as goal

pub returns-clause-whole : goal.returns-clause-whole
unfolding field fields inode_in kind_of raw_in long_name_in name_sum_of levels_for tree_blocks pointer_blocks geometry_of system_root_of
returns-clause-whole c = refl

pub returns-clause-same_parent : goal.returns-clause-same_parent
unfolding field fields inode_in kind_of raw_in long_name_in name_sum_of levels_for tree_blocks pointer_blocks geometry_of system_root_of
returns-clause-same_parent c = refl

pub returns-clause-earlier : goal.returns-clause-earlier
unfolding field fields inode_in kind_of raw_in long_name_in name_sum_of levels_for tree_blocks pointer_blocks geometry_of system_root_of
returns-clause-earlier c = refl

pub returns-clause-later : goal.returns-clause-later
unfolding field fields inode_in kind_of raw_in long_name_in name_sum_of levels_for tree_blocks pointer_blocks geometry_of system_root_of
returns-clause-later c = refl

pub returns-clause-other_parent : goal.returns-clause-other_parent
unfolding field fields inode_in kind_of raw_in long_name_in name_sum_of levels_for tree_blocks pointer_blocks geometry_of system_root_of
returns-clause-other_parent c = refl
