use Rattle.std.proofs.Common.{rules, arith, [], refl, sym, ◌∙◌, subst}
use Rattle.std.proofs.lemmas.List.{append-nil, take_all}
use Rattle.qx_ptree.specs.Takings.{Takes}
use Rattle.qx_ptree.proofs.TakenBlocks.{Takes-then}
use Rattle.qx_batch.specs.Batches.{ArePrepared, fresh_of}
use Rattle.qx_batch.proofs.PreparedBatches.{next_planned, next_prepared, next_room, prepared_none}
use Rattle.qx_batch.proofs.preparing.prepare_all.Goals as goal

pub loop-plan-init : goal.loop-plan-init
loop-plan-init g c = record {
  so_far = prepared_none c.args.order (g.B.Blocks.state c.args.blocks.now) c.new-batch.result c.new-batch.ensures;
  consistent = c.size.ensures.consistent;
  aside = refl;
  faults = refl;
}

pub add-requires-clause-plan : goal.add-requires-clause-plan
add-requires-clause-plan g c = next_planned c.args.order (g.B.Blocks.state c.args.blocks.now) (g.B.Blocks.state c.loop-plan.blocks) c.size.ensures.consistent c.loop-plan.invariant.consistent c.args.planned.now c.loop-plan.plan-index c.plan-item.result c.loop-plan-test.true c.plan-item.is
    c.requires.planned c.loop-plan.batch c.loop-plan.invariant.so_far

pub add-requires-clause-room : goal.add-requires-clause-room
add-requires-clause-room g c = next_room c.args.order (g.B.Blocks.state c.args.blocks.now) (g.B.Blocks.state c.loop-plan.blocks) c.size.ensures.consistent c.loop-plan.invariant.consistent c.args.planned.now c.loop-plan.plan-index c.plan-item.result c.loop-plan-test.true c.plan-item.is
    c.requires.planned c.loop-plan.batch c.loop-plan.invariant.so_far c.requires.room

pub loop-plan-preserved : goal.loop-plan-preserved
loop-plan-preserved g c = record {
  so_far = next_prepared c.args.order (g.B.Blocks.state c.args.blocks.now) (g.B.Blocks.state c.loop-plan.blocks) c.size.ensures.consistent c.loop-plan.invariant.consistent c.args.planned.now c.loop-plan.plan-index c.plan-item.result c.loop-plan-test.true c.plan-item.is
      c.requires.planned c.loop-plan.batch c.loop-plan.invariant.so_far (g.B.Blocks.state c.add.new.blocks) c.add.new.self c.in_default.ensures.added;
  consistent = c.size-in-loop-plan.ensures.consistent;
  aside = c.add.ensures.others.aside ∙ c.loop-plan.invariant.aside;
  faults = search (rules, arith);
}

pub returns-in-Err-clause-err : goal.returns-in-Err-clause-err
returns-in-Err-clause-err g c = c.abandon.ensures.back (g.B.Blocks.state c.args.blocks.now)
    (subst (λ ws. Takes (fresh_of ws) (g.B.Blocks.state c.args.blocks.now) (g.B.Blocks.state c.add.new.blocks)) (sym c.in-Err.ensures.same)
    (subst (λ fs. Takes fs (g.B.Blocks.state c.args.blocks.now) (g.B.Blocks.state c.add.new.blocks)) (append-nil (fresh_of c.loop-plan.batch))
    (Takes-then (fresh_of c.loop-plan.batch) [] (g.B.Blocks.state c.args.blocks.now) (g.B.Blocks.state c.loop-plan.blocks) (g.B.Blocks.state c.add.new.blocks) c.loop-plan.invariant.so_far.prepared.takes c.in-Err.ensures.err)))

pub returns-clause-ok : goal.returns-clause-ok
returns-clause-ok g c = subst (λ ps. ArePrepared c.args.order (g.B.Blocks.state c.args.blocks.now) (g.B.Blocks.state c.loop-plan.blocks) ps c.loop-plan.batch)
    (take_all c.loop-plan.plan-index c.args.planned.now c.loop-plan-test.false) c.loop-plan.invariant.so_far.prepared
