use Rattle.qx_geom.proofs.SystemBlocks.{area_place-second}
use Rattle.qx_geom.proofs.laws.the_second_area_comes_last.Goals as goal

pub returns : goal.returns
returns c = area_place-second
