use Rattle.std.proofs.Common.{sym, subst}
use Rattle.qx_ptree.specs.WorkState.{CanCommit, Preparation}
use Rattle.qx_ptree.proofs.OtherBlocks.{LeavesOthers-work}
use Rattle.qx_ptree.proofs.prepared.commit.Goals as goal

pub write_edits-requires : goal.write_edits-requires
write_edits-requires g c = subst (λ (p : Preparation). CanCommit (g.B.Blocks.state c.args.blocks.now) p) (sym c.p.view_is) c.requires.ready

pub returns-clause-rest : goal.returns-clause-rest
returns-clause-rest g c = rw (← c.p.view_is) (LeavesOthers-work c.p.inside.work _ _ _ c.write_edits.ensures.rest c.give_all_up.ensures.rest)
