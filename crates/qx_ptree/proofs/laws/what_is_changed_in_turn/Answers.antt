use Rattle.qx_ptree.proofs.OtherBlocks.{LeavesOthers-both, LeavesOthers-within, out_both}
use Rattle.qx_ptree.proofs.laws.what_is_changed_in_turn.Goals as goal

pub returns-clause-then : goal.returns-clause-then
returns-clause-then c = LeavesOthers-both

pub returns-clause-more : goal.returns-clause-more
returns-clause-more c = λ changed more m n l within. LeavesOthers-within changed more m n within l

pub returns-clause-clear : goal.returns-clause-clear
returns-clause-clear c = out_both
