use Rattle.qx_ptree.proofs.prepared.abandon.Goals as goal

pub returns-clause-back : goal.returns-clause-back
returns-clause-back g c = λ m. rw (← c.p.view_is) (c.give_back.ensures.back m)
