use Rattle.qx_ptree.proofs.AlteredNodes.{after_fresh, after_place, after_stays}
use Rattle.qx_ptree.proofs.SeveralChanges.{altered_told}
use Rattle.qx_ptree.proofs.StandingBlocks.{block_kept, block_left, block_taken, kept_private, taken_private}
use Rattle.qx_ptree.proofs.laws.what_an_altered_node_meets.Goals as goal

pub returns-clause-told : goal.returns-clause-told
returns-clause-told c = altered_told

pub returns-clause-place : goal.returns-clause-place
returns-clause-place c = λ order old now m p v w s a met. after_place order old m p w.node w.prepared.change w.prepared.sixteen s a v met

pub returns-clause-fresh : goal.returns-clause-fresh
returns-clause-fresh c = λ order old now m p v w s a met. after_fresh order old m p w.node w.prepared.change w.prepared.sixteen s a v met

pub returns-clause-stays : goal.returns-clause-stays
returns-clause-stays c = λ order old now m p v w s a met. after_stays order old m p w.node w.prepared.change w.prepared.sixteen s a v met

pub returns-clause-takes : goal.returns-clause-takes
returns-clause-takes c = λ order old now m p b w s a fresh. block_taken order old now m p w s a b fresh

pub returns-clause-keeps : goal.returns-clause-keeps
returns-clause-keeps c = λ order old now m p v w s a met keeps. block_kept order old now m p w s a v met keeps

pub returns-clause-left : goal.returns-clause-left
returns-clause-left c = λ order old now m p b w s a. block_left order old now m p w s a b

pub returns-clause-private : goal.returns-clause-private
returns-clause-private c = λ order old now m p v w s a met fresh. taken_private order old now m p w s a v met fresh

pub returns-clause-as_private : goal.returns-clause-as_private
returns-clause-as_private c = λ order old now m p v w s a met none. kept_private order old now m p w s a v met none
