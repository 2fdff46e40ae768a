use Rattle.qx_model.proofs.SeparatePositions.{whole_distinct}
use Rattle.qx_model.proofs.whole_laws.a_whole_tree_has_each_position_once.Goals as goal

pub returns : goal.returns
returns c = whole_distinct
