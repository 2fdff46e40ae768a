use Rattle.std.proofs.Common.{refl}
use Rattle.qx_geom.specs.Layout.{levels_for}
use Rattle.qx_geom.specs.Positions.{present_after}
use Rattle.qx_geom.specs.Touch.{need_of}
use Rattle.qx_geom.proofs.examples.the_need_of_a_growing_node.Goals as goal

pub returns-clause-leaves : goal.returns-clause-leaves
unfolding levels_for present_after need_of
returns-clause-leaves c = refl

pub returns-clause-level : goal.returns-clause-level
unfolding levels_for present_after need_of
returns-clause-level c = refl

pub returns-clause-leaf : goal.returns-clause-leaf
unfolding levels_for present_after need_of
returns-clause-leaf c = refl

pub returns-clause-shorter : goal.returns-clause-shorter
unfolding levels_for present_after need_of
returns-clause-shorter c = refl
