use Rattle.qx_geom.proofs.UnchangedNode.{no_change_no_need, no_need}
use Rattle.qx_geom.proofs.laws.no_change_needs_no_block.Goals as goal

pub returns-clause-size : goal.returns-clause-size
returns-clause-size c = no_change_no_need

pub returns-clause-shape : goal.returns-clause-shape
returns-clause-shape c = no_need
