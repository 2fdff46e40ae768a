use Rattle.std.proofs.Common.{refl}
use Rattle.qx_geom.specs.Layout.{levels_for}
use Rattle.qx_geom.specs.Positions.{present_after}
use Rattle.qx_geom.specs.Touch.{need_of}
use Rattle.qx_geom.proofs.examples.the_need_of_a_frozen_node.Goals as goal

pub returns-clause-shorter : goal.returns-clause-shorter
unfolding levels_for present_after need_of
returns-clause-shorter c = refl

pub returns-clause-two_leaves : goal.returns-clause-two_leaves
unfolding levels_for present_after need_of
returns-clause-two_leaves c = refl

pub returns-clause-taken_out : goal.returns-clause-taken_out
unfolding levels_for present_after need_of
returns-clause-taken_out c = refl
