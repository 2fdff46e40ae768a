use Rattle.qx_view.proofs.CountedLinks.{links_counted}
use Rattle.qx_view.proofs.RoomForPointers.{tree_sized}
use Rattle.qx_view.proofs.laws.the_walk_counts_the_links.Goals as goal

pub returns : goal.returns
returns c m r t n is = links_counted m r t (tree_sized m r t is) is n
