use Rattle.std.proofs.Common.{[], subst}
use Rattle.qx_blocks.specs.BlockState.{BlockState}
use Rattle.qx_ptree.specs.declared.plan.Plan.{Plan}
use Rattle.qx_ptree.specs.PreparedNode.{Prepares}
use Rattle.qx_ptree.proofs.MadePlans.{made_plan}
use Rattle.qx_ptree.proofs.PreparedNodes.{added-takes}
use Rattle.qx_ptree.proofs.PreparedWhole.{whole-prepares, whole_of}
use Rattle.qx_ptree.proofs.preparing.prepare.Goals as goal

pub prepare_distinct-requires : goal.prepare_distinct-requires
prepare_distinct-requires g c = record { plan = made_plan (g.B.Blocks.state c.args.blocks.now) c.args.node.now c.args.order c.args.change.now c.new-plan.result c.new-plan.ensures c.requires.node c.requires.change }

pub returns-in-Ok-clause-ok : goal.returns-in-Ok-clause-ok
returns-in-Ok-clause-ok g c =
    let m : BlockState = g.B.Blocks.state c.args.blocks.now in
    let n : BlockState = g.B.Blocks.state c.prepare_distinct.new.blocks in
    subst (λ (p : Plan). Prepares p.order m n p.node p.change (whole_of p c.in-Ok.root c.prepare_distinct.new.work)) c.new-plan.ensures.1
    (whole-prepares m n c.new-plan.result c.new-work.result c.prepare_distinct.new.work c.in-Ok.root c.new-work.ensures c.prepare_distinct.ensures.consistent
    (made_plan m c.args.node.now c.args.order c.args.change.now c.new-plan.result c.new-plan.ensures c.requires.node c.requires.change) c.in-Ok.ensures.built c.in-Ok.ensures.distinct c.in-Ok.ensures.after)

pub returns-in-Err-clause-err : goal.returns-in-Err-clause-err
returns-in-Err-clause-err g c =
    c.give_back.ensures.back (g.B.Blocks.state c.args.blocks.now) []
    (added-takes (g.B.Blocks.state c.args.blocks.now) (g.B.Blocks.state c.prepare_distinct.new.blocks) c.new-work.result c.prepare_distinct.new.work c.new-work.ensures c.in-Err.ensures.err)
