use Rattle.std.proofs.Common.{refl}
use Rattle.qx_fields.specs.Number.{field, fields}
use Rattle.qx_geom.specs.Layout.{levels_for, tree_blocks, pointer_blocks, geometry_of, system_root_of}
use Rattle.qx_records.specs.InodeRecord.{inode_in, kind_of}
use Rattle.qx_records.specs.NameRecord.{raw_in}
use Rattle.qx_view.proofs.examples.the_usage_of_a_new_volume.Goals as goal

pub returns-clause-sound : goal.returns-clause-sound
unfolding field fields inode_in kind_of raw_in levels_for tree_blocks pointer_blocks geometry_of system_root_of
returns-clause-sound c = refl

pub returns-clause-foreign : goal.returns-clause-foreign
unfolding field fields inode_in kind_of raw_in levels_for tree_blocks pointer_blocks geometry_of system_root_of
returns-clause-foreign c = refl

pub returns-clause-none_left : goal.returns-clause-none_left
unfolding field fields inode_in kind_of raw_in levels_for tree_blocks pointer_blocks geometry_of system_root_of
returns-clause-none_left c = refl

pub returns-clause-unmet : goal.returns-clause-unmet
unfolding field fields inode_in kind_of raw_in levels_for tree_blocks pointer_blocks geometry_of system_root_of
returns-clause-unmet c = refl
