use Rattle.std.proofs.Common.{refl, sym, ◌∙◌, subst, arith}
use Rattle.qx_ptree.specs.Takings.{LeavesOthers}
use Rattle.qx_batch.specs.Batches.{AreCommitted, CanCommitAll, LeavesShared, all_blocks_of}
use Rattle.qx_batch.specs.Changes.{AreChanged, with_nodes}
use Rattle.qx_batch.proofs.ChangedBatches.{changed_all}
use Rattle.qx_batch.proofs.CommittedStates.{AreAllCommitted, can_last, committed_ready, committing_ends, committing_next, committing_none, rest_all, shared_all}
use Rattle.qx_batch.proofs.batch.Batch.commit.Goals as goal

pub loop-last-init : goal.loop-last-init
loop-last-init g c = record { committing = committing_none (g.B.Blocks.state c.args.blocks.now) _ c.size.ensures.consistent; others = refl }

pub commit-requires-clause-ready : goal.commit-requires-clause-ready
commit-requires-clause-ready g c = can_last (g.B.Blocks.state c.args.blocks.now) (g.B.Blocks.state c.loop-last.blocks) _ c.loop-last.waiting.items c.pop.new.self.items c.in-Some.last c.in-Some.ensures.items
    (subst (CanCommitAll (g.B.Blocks.state c.args.blocks.now)) (sym c.self.view_is) c.requires.can) c.loop-last.invariant.committing

pub loop-last-preserved : goal.loop-last-preserved
loop-last-preserved g c = record {
  committing = committing_next (g.B.Blocks.state c.args.blocks.now) (g.B.Blocks.state c.loop-last.blocks) (g.B.Blocks.state c.commit.new.blocks) _ c.loop-last.waiting.items c.pop.new.self.items c.in-Some.last
      c.in-Some.ensures.items c.commit.ensures.blocks c.size-in-Some.ensures.consistent c.loop-last.invariant.committing;
  others = c.commit.ensures.others ∙ c.loop-last.invariant.others;
}

pub returns-clause-blocks : goal.returns-clause-blocks
returns-clause-blocks g c = (committing_ends (g.B.Blocks.state c.args.blocks.now) (g.B.Blocks.state c.loop-last.blocks) _ c.args.self c.loop-last.waiting.items
    (omega (arith, c.in_default.ensures.cases, c.loop-last.waiting.ok)) c.self.view_is c.loop-last.invariant.committing).is

pub returns-clause-changed : goal.returns-clause-changed
returns-clause-changed g c = λ order nodes old ps told so laid of prepared.
    let all : AreAllCommitted (g.B.Blocks.state c.args.blocks.now) (g.B.Blocks.state c.loop-last.blocks) c.args.self = committing_ends (g.B.Blocks.state c.args.blocks.now) (g.B.Blocks.state c.loop-last.blocks) _ c.args.self c.loop-last.waiting.items
    (omega (arith, c.in_default.ensures.cases, c.loop-last.waiting.ok)) c.self.view_is c.loop-last.invariant.committing in
    subst (λ m. AreChanged order nodes (with_nodes nodes c.args.self) old m ps) (sym all.is) (changed_all order nodes old (g.B.Blocks.state c.args.blocks.now) ps c.args.self told so all.consistent laid of prepared)

pub returns-clause-committed : goal.returns-clause-committed
returns-clause-committed g c = λ order ready. subst (λ m. AreCommitted order m c.args.self) (sym (returns-clause-blocks g c)) (committed_ready order (g.B.Blocks.state c.args.blocks.now) c.args.self c.requires.can ready)

pub returns-clause-shared : goal.returns-clause-shared
returns-clause-shared g c =
    let all : AreAllCommitted (g.B.Blocks.state c.args.blocks.now) (g.B.Blocks.state c.loop-last.blocks) c.args.self = committing_ends (g.B.Blocks.state c.args.blocks.now) (g.B.Blocks.state c.loop-last.blocks) _ c.args.self c.loop-last.waiting.items
    (omega (arith, c.in_default.ensures.cases, c.loop-last.waiting.ok)) c.self.view_is c.loop-last.invariant.committing in
    subst (LeavesShared (g.B.Blocks.state c.args.blocks.now)) (sym all.is) (shared_all (g.B.Blocks.state c.args.blocks.now) c.args.self all.consistent c.requires.can)

pub returns-clause-rest : goal.returns-clause-rest
returns-clause-rest g c = subst (LeavesOthers (all_blocks_of c.args.self) (g.B.Blocks.state c.args.blocks.now)) (sym (returns-clause-blocks g c)) (rest_all (g.B.Blocks.state c.args.blocks.now) c.args.self c.requires.can)

pub returns-clause-others : goal.returns-clause-others
returns-clause-others g c = c.loop-last.invariant.others
