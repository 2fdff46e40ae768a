use Rattle.std.proofs.Common.{◌≡◌, ◌∙◌, ap}
use Rattle.qx_ptree.specs.WorkState.{WorkState}
use Rattle.qx_ptree.proofs.OtherBlocks.{LeavesOthers-without_all}
use Rattle.qx_ptree.proofs.work.Work.give_all_up.Goals as goal

pub returns-clause-rest : goal.returns-clause-rest
returns-clause-rest g c =
    let same : c.deref.result.now ≡ c.args.self.now.released = c.deref.ensures.value ∙ ap (λ (w : WorkState). w.released) c.self.view_is in
    rw (c.release_all.ensures.released, same) (LeavesOthers-without_all c.args.self.now.released (g.B.Blocks.state c.args.blocks.now) c.args.self.now.released (λ b h. h))
