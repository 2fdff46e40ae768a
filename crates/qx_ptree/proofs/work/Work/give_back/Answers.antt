use Rattle.std.proofs.Common.{◌≡◌, ◌∙◌, ap}
use Rattle.qx_ptree.specs.WorkState.{WorkState}
use Rattle.qx_ptree.proofs.GivenUp.{last_back}
use Rattle.qx_ptree.proofs.OtherBlocks.{LeavesOthers-without_all}
use Rattle.qx_ptree.proofs.work.Work.give_back.Goals as goal

pub returns-clause-back : goal.returns-clause-back
returns-clause-back g c = λ m others f.
    let same : c.deref.result.now ≡ c.args.self.now.fresh = c.deref.ensures.value ∙ ap (λ (w : WorkState). w.fresh) c.self.view_is in
    rw (c.release_all.ensures.released, same) (last_back others c.args.self.now.fresh m (g.B.Blocks.state c.args.blocks.now) f)

pub returns-clause-rest : goal.returns-clause-rest
returns-clause-rest g c =
    let same : c.deref.result.now ≡ c.args.self.now.fresh = c.deref.ensures.value ∙ ap (λ (w : WorkState). w.fresh) c.self.view_is in
    rw (c.release_all.ensures.released, same) (LeavesOthers-without_all c.args.self.now.fresh (g.B.Blocks.state c.args.blocks.now) c.args.self.now.fresh (λ b h. h))
