use Rattle.std.proofs.Common.{refl}
use Rattle.qx_geom.specs.Layout.{levels_for}
use Rattle.qx_geom.specs.Positions.{present_after}
use Rattle.qx_geom.specs.Touch.{need_of}
use Rattle.qx_geom.proofs.examples.the_need_of_a_far_leaf.Goals as goal

pub returns : goal.returns
unfolding levels_for present_after need_of
returns c = refl
