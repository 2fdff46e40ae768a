use Rattle.qx_view.proofs.ApartPositions.{tree_is}
use Rattle.qx_view.proofs.RoomForPointers.{walk_sized}
use Rattle.qx_view.proofs.TreeFound.{tree_found}
use Rattle.qx_view.proofs.laws.no_finding_means_a_tree.Goals as goal

pub returns : goal.returns
returns c m r none = (tree_found m r, tree_is m r (walk_sized m r none) none)
