use Rattle.qx_view.proofs.RoomForPointers.{tree_sized}
use Rattle.qx_view.proofs.TreeLocality.{tree_local}
use Rattle.qx_view.proofs.laws.held_blocks_decide_the_tree.Goals as goal

pub returns : goal.returns
returns c m bytes r t held is = tree_local m bytes r t (tree_sized m r t is) is held
