use Rattle.std.proofs.Common.{refl}
use Rattle.qx_fields.specs.Number.{field, fields}
use Rattle.qx_geom.specs.Layout.{levels_for, tree_blocks, pointer_blocks, geometry_of, system_root_of}
use Rattle.qx_records.specs.InodeRecord.{inode_in, kind_of}
use Rattle.qx_records.specs.NameRecord.{raw_in}
use Rattle.qx_view.proofs.examples.the_reasons_of_changed_volumes.Goals as goal

pub returns-clause-other_version : goal.returns-clause-other_version
unfolding field fields inode_in kind_of raw_in levels_for tree_blocks pointer_blocks geometry_of system_root_of
returns-clause-other_version c = refl

pub returns-clause-other_number_of_blocks : goal.returns-clause-other_number_of_blocks
unfolding field fields inode_in kind_of raw_in levels_for tree_blocks pointer_blocks geometry_of system_root_of
returns-clause-other_number_of_blocks c = refl

pub returns-clause-few_inodes : goal.returns-clause-few_inodes
unfolding field fields inode_in kind_of raw_in levels_for tree_blocks pointer_blocks geometry_of system_root_of
returns-clause-few_inodes c = refl

pub returns-clause-fourth_root : goal.returns-clause-fourth_root
unfolding field fields inode_in kind_of raw_in levels_for tree_blocks pointer_blocks geometry_of system_root_of
returns-clause-fourth_root c = refl

pub returns-clause-levels_of_nothing : goal.returns-clause-levels_of_nothing
unfolding field fields inode_in kind_of raw_in levels_for tree_blocks pointer_blocks geometry_of system_root_of
returns-clause-levels_of_nothing c = refl

pub returns-clause-other_bitmap : goal.returns-clause-other_bitmap
unfolding field fields inode_in kind_of raw_in levels_for tree_blocks pointer_blocks geometry_of system_root_of
returns-clause-other_bitmap c = refl

pub returns-clause-inside_a_half : goal.returns-clause-inside_a_half
unfolding field fields inode_in kind_of raw_in levels_for tree_blocks pointer_blocks geometry_of system_root_of
returns-clause-inside_a_half c = refl

pub returns-clause-bit_set : goal.returns-clause-bit_set
unfolding field fields inode_in kind_of raw_in levels_for tree_blocks pointer_blocks geometry_of system_root_of
returns-clause-bit_set c = refl

pub returns-clause-bit_clear : goal.returns-clause-bit_clear
unfolding field fields inode_in kind_of raw_in levels_for tree_blocks pointer_blocks geometry_of system_root_of
returns-clause-bit_clear c = refl

pub returns-clause-bit_past_the_blocks : goal.returns-clause-bit_past_the_blocks
unfolding field fields inode_in kind_of raw_in levels_for tree_blocks pointer_blocks geometry_of system_root_of
returns-clause-bit_past_the_blocks c = refl

pub returns-clause-more_levels : goal.returns-clause-more_levels
unfolding field fields inode_in kind_of raw_in levels_for tree_blocks pointer_blocks geometry_of system_root_of
returns-clause-more_levels c = refl

pub returns-clause-stray : goal.returns-clause-stray
unfolding field fields inode_in kind_of raw_in levels_for tree_blocks pointer_blocks geometry_of system_root_of
returns-clause-stray c = refl

pub returns-clause-stray_of_the_longfile : goal.returns-clause-stray_of_the_longfile
unfolding field fields inode_in kind_of raw_in levels_for tree_blocks pointer_blocks geometry_of system_root_of
returns-clause-stray_of_the_longfile c = refl

pub returns-clause-hole : goal.returns-clause-hole
unfolding field fields inode_in kind_of raw_in levels_for tree_blocks pointer_blocks geometry_of system_root_of
returns-clause-hole c = refl

pub returns-clause-odd_size : goal.returns-clause-odd_size
unfolding field fields inode_in kind_of raw_in levels_for tree_blocks pointer_blocks geometry_of system_root_of
returns-clause-odd_size c = refl

pub returns-clause-dots_swapped : goal.returns-clause-dots_swapped
unfolding field fields inode_in kind_of raw_in levels_for tree_blocks pointer_blocks geometry_of system_root_of
returns-clause-dots_swapped c = refl

pub returns-clause-other_status : goal.returns-clause-other_status
unfolding field fields inode_in kind_of raw_in levels_for tree_blocks pointer_blocks geometry_of system_root_of
returns-clause-other_status c = refl

pub returns-clause-lost_inode : goal.returns-clause-lost_inode
unfolding field fields inode_in kind_of raw_in levels_for tree_blocks pointer_blocks geometry_of system_root_of
returns-clause-lost_inode c = refl

pub returns-clause-special : goal.returns-clause-special
unfolding field fields inode_in kind_of raw_in levels_for tree_blocks pointer_blocks geometry_of system_root_of
returns-clause-special c = refl

pub returns-clause-long_names_of_odd_size : goal.returns-clause-long_names_of_odd_size
unfolding field fields inode_in kind_of raw_in levels_for tree_blocks pointer_blocks geometry_of system_root_of
returns-clause-long_names_of_odd_size c = refl

pub returns-clause-long_name_without_row : goal.returns-clause-long_name_without_row
unfolding field fields inode_in kind_of raw_in levels_for tree_blocks pointer_blocks geometry_of system_root_of
returns-clause-long_name_without_row c = refl

pub returns-clause-file : goal.returns-clause-file
unfolding field fields inode_in kind_of raw_in levels_for tree_blocks pointer_blocks geometry_of system_root_of
returns-clause-file c = refl

pub returns-clause-bare_block : goal.returns-clause-bare_block
unfolding field fields inode_in kind_of raw_in levels_for tree_blocks pointer_blocks geometry_of system_root_of
returns-clause-bare_block c = refl

pub returns-clause-ext_mode : goal.returns-clause-ext_mode
unfolding field fields inode_in kind_of raw_in levels_for tree_blocks pointer_blocks geometry_of system_root_of
returns-clause-ext_mode c = refl

pub returns-clause-unnamed_byte : goal.returns-clause-unnamed_byte
unfolding field fields inode_in kind_of raw_in levels_for tree_blocks pointer_blocks geometry_of system_root_of
returns-clause-unnamed_byte c = refl
