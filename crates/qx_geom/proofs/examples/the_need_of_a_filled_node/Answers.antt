use Rattle.std.proofs.Common.{refl}
use Rattle.qx_geom.specs.Layout.{levels_for}
use Rattle.qx_geom.specs.Positions.{present_after}
use Rattle.qx_geom.specs.Touch.{need_of}
use Rattle.qx_geom.proofs.examples.the_need_of_a_filled_node.Goals as goal

pub returns-clause-bytes : goal.returns-clause-bytes
unfolding levels_for present_after need_of
returns-clause-bytes c = refl

pub returns-clause-leaves : goal.returns-clause-leaves
unfolding levels_for present_after need_of
returns-clause-leaves c = refl
