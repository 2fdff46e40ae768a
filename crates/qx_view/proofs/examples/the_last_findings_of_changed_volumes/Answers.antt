use Rattle.std.proofs.Common.{refl}
use Rattle.qx_fields.specs.Number.{field, fields}
use Rattle.qx_geom.specs.Layout.{levels_for, tree_blocks, pointer_blocks, geometry_of, system_root_of}
use Rattle.qx_records.specs.InodeRecord.{inode_in, kind_of}
use Rattle.qx_records.specs.NameRecord.{raw_in}
use Rattle.qx_view.proofs.examples.the_last_findings_of_changed_volumes.Goals as goal

pub returns-clause-file : goal.returns-clause-file
unfolding field fields inode_in kind_of raw_in levels_for tree_blocks pointer_blocks geometry_of system_root_of
returns-clause-file c = refl

pub returns-clause-tail : goal.returns-clause-tail
unfolding field fields inode_in kind_of raw_in levels_for tree_blocks pointer_blocks geometry_of system_root_of
returns-clause-tail c = refl

pub returns-clause-last_byte : goal.returns-clause-last_byte
unfolding field fields inode_in kind_of raw_in levels_for tree_blocks pointer_blocks geometry_of system_root_of
returns-clause-last_byte c = refl

pub returns-clause-free_blocks : goal.returns-clause-free_blocks
unfolding field fields inode_in kind_of raw_in levels_for tree_blocks pointer_blocks geometry_of system_root_of
returns-clause-free_blocks c = refl

pub returns-clause-free_inodes : goal.returns-clause-free_inodes
unfolding field fields inode_in kind_of raw_in levels_for tree_blocks pointer_blocks geometry_of system_root_of
returns-clause-free_inodes c = refl
