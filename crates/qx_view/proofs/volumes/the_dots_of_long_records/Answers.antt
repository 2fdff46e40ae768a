use Rattle.std.proofs.Common.{refl}
use Rattle.qx_fields.specs.Number.{field, fields}
use Rattle.qx_geom.specs.Layout.{levels_for, tree_blocks, pointer_blocks, geometry_of, system_root_of}
use Rattle.qx_records.specs.InodeRecord.{inode_in, kind_of}
use Rattle.qx_records.specs.NameRecord.{raw_in, long_name_in}
use Rattle.qx_records.specs.NameSum.{name_sum_of, name_sum_signed_of}
use Rattle.qx_view.proofs.volumes.the_dots_of_long_records.Goals as goal

pub returns-clause-twice : goal.returns-clause-twice
unfolding field fields inode_in kind_of raw_in long_name_in name_sum_of name_sum_signed_of levels_for tree_blocks pointer_blocks geometry_of system_root_of
returns-clause-twice c = refl

pub returns-clause-whole : goal.returns-clause-whole
unfolding field fields inode_in kind_of raw_in long_name_in name_sum_of name_sum_signed_of levels_for tree_blocks pointer_blocks geometry_of system_root_of
returns-clause-whole c = refl

pub returns-clause-other_inode : goal.returns-clause-other_inode
unfolding field fields inode_in kind_of raw_in long_name_in name_sum_of name_sum_signed_of levels_for tree_blocks pointer_blocks geometry_of system_root_of
returns-clause-other_inode c = refl

pub returns-clause-not_short : goal.returns-clause-not_short
unfolding field fields inode_in kind_of raw_in long_name_in name_sum_of name_sum_signed_of levels_for tree_blocks pointer_blocks geometry_of system_root_of
returns-clause-not_short c = refl
