use Rattle.qx_view.proofs.RoomForPointers.{tree_sized}
use Rattle.qx_view.proofs.TestsAndTree.{no_test_fails}
use Rattle.qx_view.proofs.laws.a_tree_means_no_finding.Goals as goal

pub returns : goal.returns
returns c m r t is = no_test_fails m r t (tree_sized m r t is) is
