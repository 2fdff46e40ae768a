use Rattle.qx_copies.proofs.CopyTrees.{tree_is}
use Rattle.qx_copies.proofs.ReachedInodes.{copy_represents, inodes_at}
use Rattle.qx_copies.proofs.laws.the_tree_of_an_image_is_its_inodes.Goals as goal

pub returns-clause-copy : goal.returns-clause-copy
returns-clause-copy c = λ m r c t sixteen is has. copy_represents m r c t is has sixteen

pub returns-clause-there : goal.returns-clause-there
returns-clause-there c = λ m r c t is has. inodes_at m r c t is has

pub returns-clause-tree : goal.returns-clause-tree
returns-clause-tree c = λ m r c t size is has beside. tree_is m r c t size is has beside
