-- Each block is computed, and so are the superblock and the tree.
use Rattle.std.proofs.Common.{◌≡◌, ℕ, zero, suc, ◌≤◌, subst, arith, refl}
use Rattle.qx_fields.specs.declared.order.Order.TheVariants.{Little}
use Rattle.qx_geom.specs.Layout.{geometry_of, levels_for, numbers_of, pointer_blocks, system_root_of, tree_blocks}
use Rattle.qx_super.specs.Checksum.{checksum_of, divided, shift}
use Rattle.qx_super.specs.RootNode.{root_bytes}
use Rattle.qx_super.specs.Written.{super_body, super_bytes}
use Rattle.qx_view.specs.Examples.{made_block}
use Rattle.qx_view.specs.SmallImage.{first_bytes, second_bytes}
use Rattle.qx_records.specs.WrittenInode.{inode_bytes}
use Rattle.qx_records.specs.WrittenNames.{short_bytes}
use Rattle.qx_make.specs.Superblocks.{made_super}
use Rattle.qx_make.specs.Blocks.{inode_leaf_bytes, made_block_bytes, top_block, top_directory_bytes}
use Rattle.qx_system.specs.SystemBytes.{bitmap_byte, bitmap_leaf_bytes, pointer_block_bytes}
use Rattle.qx_make.proofs.laws.the_volume_by_hand_is_a_new_one.Goals as goal

-- the blocks of both halves, and the root directory's
made_bytes : (b : ℕ) → b ≤ 10 → made_block b ≡ made_block_bytes (numbers_of 65536 512 16) Little 1000 b
unfolding levels_for pointer_blocks tree_blocks bitmap_byte bitmap_leaf_bytes inode_leaf_bytes made_block_bytes pointer_block_bytes top_directory_bytes inode_bytes short_bytes
made_bytes zero low = refl
made_bytes (suc zero) low = refl
made_bytes (suc (suc zero)) low = refl
made_bytes (suc (suc (suc zero))) low = refl
made_bytes (suc (suc (suc (suc zero)))) low = refl
made_bytes (suc (suc (suc (suc (suc zero))))) low = refl
made_bytes (suc (suc (suc (suc (suc (suc zero)))))) low = refl
made_bytes (suc (suc (suc (suc (suc (suc (suc zero))))))) low = refl
made_bytes (suc (suc (suc (suc (suc (suc (suc (suc zero)))))))) low = refl
made_bytes (suc (suc (suc (suc (suc (suc (suc (suc (suc zero))))))))) low = refl
made_bytes (suc (suc (suc (suc (suc (suc (suc (suc (suc (suc zero)))))))))) low = refl
made_bytes (suc (suc (suc (suc (suc (suc (suc (suc (suc (suc (suc b))))))))))) low = absurd (omega arith)

-- which is block 10
top_is_ten : top_block (numbers_of 65536 512 16) ≡ 10
unfolding levels_for pointer_blocks tree_blocks
top_is_ten = refl

pub returns-clause-geometry : goal.returns-clause-geometry
unfolding levels_for pointer_blocks tree_blocks geometry_of
returns-clause-geometry c = refl

pub returns-clause-blocks : goal.returns-clause-blocks
returns-clause-blocks c = record { order_is = refl; size = refl; count = refl; bytes = λ b low. made_bytes b (subst (λ k. b ≤ k) top_is_ten low) }

pub returns-clause-superblock : goal.returns-clause-superblock
unfolding levels_for pointer_blocks tree_blocks system_root_of
returns-clause-superblock c = refl

pub returns-clause-first : goal.returns-clause-first
unfolding levels_for pointer_blocks tree_blocks system_root_of made_super super_bytes super_body root_bytes checksum_of divided shift first_bytes
returns-clause-first c = refl

pub returns-clause-second : goal.returns-clause-second
unfolding levels_for pointer_blocks tree_blocks system_root_of made_super super_bytes super_body root_bytes checksum_of divided shift second_bytes
returns-clause-second c = refl
