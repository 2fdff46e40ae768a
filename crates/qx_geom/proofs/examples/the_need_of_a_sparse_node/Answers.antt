use Rattle.std.proofs.Common.{refl}
use Rattle.qx_geom.specs.Layout.{levels_for}
use Rattle.qx_geom.specs.Positions.{present_after}
use Rattle.qx_geom.specs.Touch.{need_of}
use Rattle.qx_geom.proofs.examples.the_need_of_a_sparse_node.Goals as goal

pub returns-clause-raised : goal.returns-clause-raised
unfolding levels_for present_after need_of
returns-clause-raised c = refl

pub returns-clause-emptied : goal.returns-clause-emptied
unfolding levels_for present_after need_of
returns-clause-emptied c = refl
