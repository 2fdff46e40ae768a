use Rattle.std.proofs.Common.{refl}
use Rattle.qx_fields.specs.Number.{field, fields}
use Rattle.qx_geom.specs.Layout.{levels_for, tree_blocks, pointer_blocks, geometry_of, system_root_of}
use Rattle.qx_records.specs.InodeRecord.{inode_in, kind_of}
use Rattle.qx_records.specs.NameRecord.{raw_in, long_name_in}
use Rattle.qx_records.specs.NameSum.{name_sum_of}
use Rattle.qx_view.proofs.volumes.the_walk_takes_what_was_listed_first.Goals as goal

pub returns-clause-three_first : goal.returns-clause-three_first
unfolding field fields inode_in kind_of raw_in long_name_in name_sum_of levels_for tree_blocks pointer_blocks geometry_of system_root_of
returns-clause-three_first c = refl

pub returns-clause-four_first : goal.returns-clause-four_first
unfolding field fields inode_in kind_of raw_in long_name_in name_sum_of levels_for tree_blocks pointer_blocks geometry_of system_root_of
returns-clause-four_first c = refl

pub returns-clause-three_below : goal.returns-clause-three_below
unfolding field fields inode_in kind_of raw_in long_name_in name_sum_of levels_for tree_blocks pointer_blocks geometry_of system_root_of
returns-clause-three_below c = refl

pub returns-clause-four_below : goal.returns-clause-four_below
unfolding field fields inode_in kind_of raw_in long_name_in name_sum_of levels_for tree_blocks pointer_blocks geometry_of system_root_of
returns-clause-four_below c = refl

pub returns-clause-both_below : goal.returns-clause-both_below
unfolding field fields inode_in kind_of raw_in long_name_in name_sum_of levels_for tree_blocks pointer_blocks geometry_of system_root_of
returns-clause-both_below c = refl
