use Rattle.qx_geom.proofs.LeastTouch.{test_is_least}
use Rattle.qx_geom.proofs.laws.the_test_decides_what_is_touched.Goals as goal

pub returns : goal.returns
returns c = test_is_least
