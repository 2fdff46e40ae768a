use Rattle.std.proofs.Common.{refl, sym, ◌∙◌, subst, arith}
use Rattle.std.proofs.lemmas.List.{nil_from_length}
use Rattle.qx_ptree.specs.Takings.{LeavesOthers, Takes}
use Rattle.qx_ptree.proofs.OtherBlocks.{LeavesOthers-same}
use Rattle.qx_batch.specs.Batches.{fresh_of}
use Rattle.qx_batch.proofs.GivenBack.{abandoning_next}
use Rattle.qx_batch.proofs.batch.Batch.abandon.Goals as goal

pub loop-last-init : goal.loop-last-init
loop-last-init g c = record {
  abandoning = record { back = λ m t. t; among = λ b h. h; leaves = LeavesOthers-same _ (g.B.Blocks.state c.args.blocks.now) };
  others = refl;
}

pub loop-last-preserved : goal.loop-last-preserved
loop-last-preserved g c = record {
  abandoning = abandoning_next (g.B.Blocks.state c.args.blocks.now) (g.B.Blocks.state c.loop-last.blocks) (g.B.Blocks.state c.abandon.new.blocks) _ c.loop-last.waiting.items c.pop.new.self.items c.in-Some.last
      c.in-Some.ensures.items c.abandon.ensures.back c.abandon.ensures.rest c.loop-last.invariant.abandoning;
  others = c.abandon.ensures.others ∙ c.loop-last.invariant.others;
}

pub returns-clause-back : goal.returns-clause-back
returns-clause-back g c = λ m t.
    subst (λ ws. Takes (fresh_of ws) m (g.B.Blocks.state c.loop-last.blocks)) (nil_from_length c.loop-last.waiting.items (omega (arith, c.in_default.ensures.cases, c.loop-last.waiting.ok)))
    (c.loop-last.invariant.abandoning.back m (subst (λ ws. Takes (fresh_of ws) m (g.B.Blocks.state c.args.blocks.now)) (sym c.self.view_is) t))

pub returns-clause-rest : goal.returns-clause-rest
returns-clause-rest g c = subst (λ ws. LeavesOthers (fresh_of ws) (g.B.Blocks.state c.args.blocks.now) (g.B.Blocks.state c.loop-last.blocks)) c.self.view_is c.loop-last.invariant.abandoning.leaves

pub returns-clause-others : goal.returns-clause-others
returns-clause-others g c = c.loop-last.invariant.others
