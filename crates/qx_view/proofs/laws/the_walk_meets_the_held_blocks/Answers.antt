use Rattle.qx_view.proofs.MetBlocks.{met_distinct, met_held}
use Rattle.qx_view.proofs.RoomForPointers.{tree_sized}
use Rattle.qx_view.proofs.laws.the_walk_meets_the_held_blocks.Goals as goal

pub returns-clause-held : goal.returns-clause-held
returns-clause-held c m r t b is = met_held m r t b (tree_sized m r t is) is

pub returns-clause-once : goal.returns-clause-once
returns-clause-once c m r t is = met_distinct m r t (tree_sized m r t is) is
