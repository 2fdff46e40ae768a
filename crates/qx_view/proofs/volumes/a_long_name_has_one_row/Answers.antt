use Rattle.std.proofs.Common.{refl}
use Rattle.qx_fields.specs.Number.{field, fields}
use Rattle.qx_geom.specs.Layout.{levels_for, tree_blocks, pointer_blocks, geometry_of, system_root_of}
use Rattle.qx_records.specs.InodeRecord.{inode_in, kind_of}
use Rattle.qx_records.specs.NameRecord.{raw_in, long_name_in}
use Rattle.qx_records.specs.NameSum.{name_sum_of}
use Rattle.qx_view.proofs.volumes.a_long_name_has_one_row.Goals as goal

pub returns-clause-whole : goal.returns-clause-whole
unfolding field fields inode_in kind_of raw_in long_name_in name_sum_of levels_for tree_blocks pointer_blocks geometry_of system_root_of
returns-clause-whole c = refl

pub returns-clause-once : goal.returns-clause-once
unfolding field fields inode_in kind_of raw_in long_name_in name_sum_of levels_for tree_blocks pointer_blocks geometry_of system_root_of
returns-clause-once c = refl

pub returns-clause-counted : goal.returns-clause-counted
unfolding field fields inode_in kind_of raw_in long_name_in name_sum_of levels_for tree_blocks pointer_blocks geometry_of system_root_of
returns-clause-counted c = refl

pub returns-clause-twice_whole : goal.returns-clause-twice_whole
unfolding field fields inode_in kind_of raw_in long_name_in name_sum_of levels_for tree_blocks pointer_blocks geometry_of system_root_of
returns-clause-twice_whole c = refl

pub returns-clause-twice : goal.returns-clause-twice
unfolding field fields inode_in kind_of raw_in long_name_in name_sum_of levels_for tree_blocks pointer_blocks geometry_of system_root_of
returns-clause-twice c = refl
