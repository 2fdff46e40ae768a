use Rattle.qx_geom.proofs.LeastTouch.{fresh_is_touched}
use Rattle.qx_geom.proofs.laws.the_fresh_positions_are_touched.Goals as goal

pub returns : goal.returns
returns c = fresh_is_touched
