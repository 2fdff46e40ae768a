use Rattle.qx_view.proofs.ReachedInodes.{walked_are_reached, walked_once}
use Rattle.qx_view.proofs.laws.the_walk_comes_to_the_reached_inodes.Goals as goal

pub returns-clause-reached : goal.returns-clause-reached
returns-clause-reached c m r t n is = walked_are_reached m r t is n

pub returns-clause-once : goal.returns-clause-once
returns-clause-once c = walked_once
