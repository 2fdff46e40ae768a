use Rattle.std.proofs.Common.{refl}
use Rattle.qx_geom.specs.Layout.{levels_for}
use Rattle.qx_geom.specs.Positions.{present_after}
use Rattle.qx_geom.specs.Touch.{need_of}
use Rattle.qx_geom.proofs.examples.the_need_of_changed_levels.Goals as goal

pub returns-clause-down : goal.returns-clause-down
unfolding levels_for present_after need_of
returns-clause-down c = refl

pub returns-clause-up : goal.returns-clause-up
unfolding levels_for present_after need_of
returns-clause-up c = refl

pub returns-clause-up_by_one : goal.returns-clause-up_by_one
unfolding levels_for present_after need_of
returns-clause-up_by_one c = refl

pub returns-clause-down_by_one : goal.returns-clause-down_by_one
unfolding levels_for present_after need_of
returns-clause-down_by_one c = refl
