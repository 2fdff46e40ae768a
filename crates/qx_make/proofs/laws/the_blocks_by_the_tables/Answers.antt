-- Each row is computed.
use Rattle.std.proofs.Common.{refl}
use Rattle.qx_geom.specs.Layout.{levels_for, pointer_blocks, pointer_place, system_word_of, tree_blocks}
use Rattle.qx_records.specs.WrittenInode.{inode_bytes}
use Rattle.qx_records.specs.WrittenNames.{short_bytes}
use Rattle.qx_make.specs.Blocks.{inode_leaf_bytes, made_block_bytes, top_directory_bytes}
use Rattle.qx_system.specs.SystemBytes.{bitmap_byte, bitmap_leaf_bytes, pointer_block_bytes}
use Rattle.qx_make.proofs.laws.the_blocks_by_the_tables.Goals as goal

pub returns-clause-bitmap : goal.returns-clause-bitmap
unfolding levels_for pointer_blocks tree_blocks bitmap_byte bitmap_leaf_bytes inode_leaf_bytes made_block_bytes pointer_block_bytes system_word_of pointer_place top_directory_bytes inode_bytes short_bytes
returns-clause-bitmap c = refl

pub returns-clause-bitmap_end : goal.returns-clause-bitmap_end
unfolding levels_for pointer_blocks tree_blocks bitmap_byte bitmap_leaf_bytes inode_leaf_bytes made_block_bytes pointer_block_bytes system_word_of pointer_place top_directory_bytes inode_bytes short_bytes
returns-clause-bitmap_end c = refl

pub returns-clause-top_inode : goal.returns-clause-top_inode
unfolding levels_for pointer_blocks tree_blocks bitmap_byte bitmap_leaf_bytes inode_leaf_bytes made_block_bytes pointer_block_bytes system_word_of pointer_place top_directory_bytes inode_bytes short_bytes
returns-clause-top_inode c = refl

pub returns-clause-second_inode : goal.returns-clause-second_inode
unfolding levels_for pointer_blocks tree_blocks bitmap_byte bitmap_leaf_bytes inode_leaf_bytes made_block_bytes pointer_block_bytes system_word_of pointer_place top_directory_bytes inode_bytes short_bytes
returns-clause-second_inode c = refl

pub returns-clause-further_inodes : goal.returns-clause-further_inodes
unfolding levels_for pointer_blocks tree_blocks bitmap_byte bitmap_leaf_bytes inode_leaf_bytes made_block_bytes pointer_block_bytes system_word_of pointer_place top_directory_bytes inode_bytes short_bytes
returns-clause-further_inodes c = refl

pub returns-clause-other_half : goal.returns-clause-other_half
unfolding levels_for pointer_blocks tree_blocks bitmap_byte bitmap_leaf_bytes inode_leaf_bytes made_block_bytes pointer_block_bytes system_word_of pointer_place top_directory_bytes inode_bytes short_bytes
returns-clause-other_half c = refl

pub returns-clause-top : goal.returns-clause-top
unfolding levels_for pointer_blocks tree_blocks bitmap_byte bitmap_leaf_bytes inode_leaf_bytes made_block_bytes pointer_block_bytes system_word_of pointer_place top_directory_bytes inode_bytes short_bytes
returns-clause-top c = refl

pub returns-clause-pointers : goal.returns-clause-pointers
unfolding levels_for pointer_blocks tree_blocks bitmap_byte bitmap_leaf_bytes inode_leaf_bytes made_block_bytes pointer_block_bytes system_word_of pointer_place top_directory_bytes inode_bytes short_bytes
returns-clause-pointers c = refl

pub returns-clause-last_pointers : goal.returns-clause-last_pointers
unfolding levels_for pointer_blocks tree_blocks bitmap_byte bitmap_leaf_bytes inode_leaf_bytes made_block_bytes pointer_block_bytes system_word_of pointer_place top_directory_bytes inode_bytes short_bytes
returns-clause-last_pointers c = refl

pub returns-clause-unused_pointers : goal.returns-clause-unused_pointers
unfolding levels_for pointer_blocks tree_blocks bitmap_byte bitmap_leaf_bytes inode_leaf_bytes made_block_bytes pointer_block_bytes system_word_of pointer_place top_directory_bytes inode_bytes short_bytes
returns-clause-unused_pointers c = refl

pub returns-clause-other_pointers : goal.returns-clause-other_pointers
unfolding levels_for pointer_blocks tree_blocks bitmap_byte bitmap_leaf_bytes inode_leaf_bytes made_block_bytes pointer_block_bytes system_word_of pointer_place top_directory_bytes inode_bytes short_bytes
returns-clause-other_pointers c = refl

pub returns-clause-other_last_pointers : goal.returns-clause-other_last_pointers
unfolding levels_for pointer_blocks tree_blocks bitmap_byte bitmap_leaf_bytes inode_leaf_bytes made_block_bytes pointer_block_bytes system_word_of pointer_place top_directory_bytes inode_bytes short_bytes
returns-clause-other_last_pointers c = refl

pub returns-clause-leaf_before_pointers : goal.returns-clause-leaf_before_pointers
unfolding levels_for pointer_blocks tree_blocks bitmap_byte bitmap_leaf_bytes inode_leaf_bytes made_block_bytes pointer_block_bytes system_word_of pointer_place top_directory_bytes inode_bytes short_bytes
returns-clause-leaf_before_pointers c = refl

pub returns-clause-top_behind_pointers : goal.returns-clause-top_behind_pointers
unfolding levels_for pointer_blocks tree_blocks bitmap_byte bitmap_leaf_bytes inode_leaf_bytes made_block_bytes pointer_block_bytes system_word_of pointer_place top_directory_bytes inode_bytes short_bytes
returns-clause-top_behind_pointers c = refl

pub returns-clause-bitmap_with_pointers : goal.returns-clause-bitmap_with_pointers
unfolding levels_for pointer_blocks tree_blocks bitmap_byte bitmap_leaf_bytes inode_leaf_bytes made_block_bytes pointer_block_bytes system_word_of pointer_place top_directory_bytes inode_bytes short_bytes
returns-clause-bitmap_with_pointers c = refl
