use Rattle.std.proofs.Common.{refl}
use Rattle.qx_geom.specs.Layout.{levels_for}
use Rattle.qx_geom.specs.Positions.{present_after}
use Rattle.qx_geom.specs.Touch.{need_of}
use Rattle.qx_geom.proofs.examples.the_need_of_a_moved_leaf.Goals as goal

pub returns-clause-one_above : goal.returns-clause-one_above
unfolding levels_for present_after need_of
returns-clause-one_above c = refl

pub returns-clause-two_above : goal.returns-clause-two_above
unfolding levels_for present_after need_of
returns-clause-two_above c = refl

pub returns-clause-same : goal.returns-clause-same
unfolding levels_for present_after need_of
returns-clause-same c = refl

pub returns-clause-same_private : goal.returns-clause-same_private
unfolding levels_for present_after need_of
returns-clause-same_private c = refl
