use Rattle.qx_view.proofs.OneTree.{tree_unique}
use Rattle.qx_view.proofs.laws.roots_have_one_tree.Goals as goal

pub returns : goal.returns
returns c = tree_unique
