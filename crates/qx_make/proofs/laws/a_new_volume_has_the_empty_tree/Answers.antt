-- The blocks that were made are those of `NewBlocks`.
use Rattle.std.proofs.Common.{subst}
use Rattle.qx_nodes.specs.BlockMap.{BlockMap}
use Rattle.qx_model.specs.EmptyTree.{empty_tree}
use Rattle.qx_view.specs.Reading.{IsTreeOf}
use Rattle.qx_make.specs.NewVolume.{new_roots}
use Rattle.qx_make.proofs.NewBlocks.{blocks_are, new_blocks}
use Rattle.qx_make.proofs.NewTrees.{new_tree_is}
use Rattle.qx_make.proofs.laws.a_new_volume_has_the_empty_tree.Goals as goal

pub returns : goal.returns
returns c = λ m g order moment which whole now made.
    subst (λ (b : BlockMap). IsTreeOf b (new_roots g which) (empty_tree g.blocksize g.num_inodes moment)) (blocks_are g order moment m whole now made) (new_tree_is (new_blocks g order moment m whole now made) which)
