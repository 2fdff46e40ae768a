use Rattle.std.proofs.Common.{rules, ◌≡◌, ℕ, ◌≤◌, ◌<◌, ◌∙◌, arith, length-set, refl, sym, subst}
use Rattle.qx_geom.specs.Layout.{levels_for}
use Rattle.qx_blocks.specs.BlockState.{BlockState}
use Rattle.qx_ptree.specs.Fates.{leaves_after}
use Rattle.qx_ptree.specs.Plans.{InReach}
use Rattle.qx_ptree.proofs.KeptNodes.{plan_after}
use Rattle.qx_ptree.proofs.KeptPlans.{kept_consistent, kept_plan, told_before}
use Rattle.qx_ptree.proofs.PartBounds.{top-reach}
use Rattle.qx_ptree.proofs.PlannedParts.{level-is}
use Rattle.qx_ptree.proofs.PointerCounts.{size_positive}
use Rattle.qx_ptree.proofs.PreparedBlocks.{at_err}
use Rattle.qx_ptree.proofs.AddedWork.{adds_none}
use Rattle.qx_ptree.proofs.TakenBlocks.{Takes-none}
use Rattle.qx_ptree.proofs.WholeNeed.{new-levels}
use Rattle.qx_ptree.proofs.WholeNodes.{later_pointer, outside_fails, underway_all, underway_fails, underway_more, underway_none}
use Rattle.qx_ptree.proofs.preparing.prepare_tree.Goals as goal

pub returns-in_err-old-clause-err : goal.returns-in_err-old-clause-err
returns-in_err-old-clause-err g c =
    let m : BlockState = g.B.Blocks.state c.args.blocks.now in
    let n : BlockState = g.B.Blocks.state c.top_pointers.new.blocks in
    at_err c.from_residual.result (adds_none m n c.args.work.now c.args.work.now (Takes-none m n c.in_err-old.ensures.reads.keeps) refl)

pub give_up_outside-requires-clause-consistent : goal.give_up_outside-requires-clause-consistent
give_up_outside-requires-clause-consistent g c = kept_consistent (g.B.Blocks.state c.args.blocks.now) (g.B.Blocks.state c.top_pointers.new.blocks) c.top_pointers.ensures.reads.keeps c.size-size.ensures.consistent

pub give_up_outside-requires-clause-plan : goal.give_up_outside-requires-clause-plan
give_up_outside-requires-clause-plan g c = kept_plan (g.B.Blocks.state c.args.blocks.now) (g.B.Blocks.state c.top_pointers.new.blocks) c.args.plan.now c.top_pointers.ensures.reads.keeps c.requires.plan

pub returns-in_err-give_up_outside-clause-err : goal.returns-in_err-give_up_outside-clause-err
returns-in_err-give_up_outside-clause-err g c =
    at_err c.from_residual-in_err-give_up_outside.result
    (outside_fails (g.B.Blocks.state c.args.blocks.now) (g.B.Blocks.state c.top_pointers.new.blocks) (g.B.Blocks.state c.give_up_outside.new.blocks) c.args.work.now c.give_up_outside.new.work c.args.plan.now _ c.give_up_outside.result
    c.top_pointers.ensures.reads.keeps c.give_up_outside.ensures.reads.keeps c.give_up_outside.ensures.gone)

pub loop-j-init : goal.loop-j-init
loop-j-init g c = record {
  underway = underway_none (g.B.Blocks.state c.args.blocks.now) (g.B.Blocks.state c.top_pointers.new.blocks) (g.B.Blocks.state c.give_up_outside.new.blocks) c.args.work.now c.give_up_outside.new.work c.args.plan.now c.levels-level.result _
      c.top_pointers.ensures.reads.keeps c.give_up_outside.ensures.reads.keeps c.in_ok-give_up_outside.ensures.gone;
  long = refl;
  told = λ told. told;
  aside = search rules;
  faults = search rules;
}

pub prepare_at-requires-clause-reach : goal.prepare_at-requires-clause-reach
prepare_at-requires-clause-reach g c =
    let m : BlockState = g.B.Blocks.state c.args.blocks.now in
    let b : ℕ = m.holdings.size in
    let some : 0 < b = size_positive b c.size-size.ensures.consistent.size in
    let level : c.levels-level.result ≡ levels_for b (leaves_after b c.args.plan.now.change) = level-is b c.size-size.result c.div_ceil.result c.levels-level.result c.args.plan.now.change some c.size-size.ensures.size c.div_ceil.ensures c.levels-level.ensures in
    subst (λ s. InReach s c.levels-level.result c.loop-j.j) (sym c.loop-j.invariant.underway.adds.takes.size)
    (top-reach b c.levels-level.result c.loop-j.j c.size-size.ensures.consistent.size (omega (arith, level, new-levels b c.args.plan.now.change some c.requires.plan.change)) (omega (arith, c.loop-j-test.true)))

pub prepare_at-requires-clause-level : goal.prepare_at-requires-clause-level
prepare_at-requires-clause-level g c =
    let m : BlockState = g.B.Blocks.state c.args.blocks.now in
    let b : ℕ = m.holdings.size in
    let some : 0 < b = size_positive b c.size-size.ensures.consistent.size in
    let level : c.levels-level.result ≡ levels_for b (leaves_after b c.args.plan.now.change) = level-is b c.size-size.result c.div_ceil.result c.levels-level.result c.args.plan.now.change some c.size-size.ensures.size c.div_ceil.ensures c.levels-level.ensures in
    subst (λ s. c.levels-level.result ≤ levels_for s (leaves_after s c.args.plan.now.change)) (sym c.loop-j.invariant.underway.adds.takes.size) (omega (arith, level))

pub prepare_at-requires-clause-plan : goal.prepare_at-requires-clause-plan
prepare_at-requires-clause-plan g c =
    let u = c.loop-j.invariant.underway in
    plan_after u.adds.added.fresh (g.B.Blocks.state c.args.blocks.now) (g.B.Blocks.state c.loop-j.blocks) c.args.plan.now c.size-size.ensures.consistent c.requires.plan u.adds.takes

pub prepare_at-requires-clause-pointer : goal.prepare_at-requires-clause-pointer
prepare_at-requires-clause-pointer g c told =
    let u = c.loop-j.invariant.underway in
    c.in_ok-old.ensures.pointers (told_before (g.B.Blocks.state c.top_pointers.new.blocks) (g.B.Blocks.state c.give_up_outside.new.blocks) c.give_up_outside.ensures.reads.keeps (c.loop-j.invariant.told told)) c.loop-j.j (omega (arith, c.loop-j-test.true))
    ∙ sym (later_pointer u.adds.added.fresh (g.B.Blocks.state c.args.blocks.now) (g.B.Blocks.state c.loop-j.blocks) c.args.plan.now c.levels-level.result c.loop-j.j c.size-size.ensures.consistent c.requires.plan u.adds.takes told)

pub returns-in_err-pointers-clause-err : goal.returns-in_err-pointers-clause-err
returns-in_err-pointers-clause-err g c =
    at_err c.from_residual-in_err-pointers.result
    (underway_fails (g.B.Blocks.state c.args.blocks.now) (g.B.Blocks.state c.loop-j.blocks) (g.B.Blocks.state c.prepare_at.new.blocks) c.args.work.now c.loop-j.work c.prepare_at.new.work c.args.plan.now c.levels-level.result c.loop-j.j c.loop-j.pointers
    c.loop-j.invariant.underway c.in_err-pointers.ensures.err)

pub returns-in_err-pointers-clause-others : goal.returns-in_err-pointers-clause-others
returns-in_err-pointers-clause-others g c = search (rules, arith)

pub loop-j-preserved : goal.loop-j-preserved
loop-j-preserved g c =
    let n : BlockState = g.B.Blocks.state c.loop-j.blocks in
    let o : BlockState = g.B.Blocks.state c.prepare_at.new.blocks in
    record {
      underway = underway_more (g.B.Blocks.state c.args.blocks.now) n o c.args.work.now c.loop-j.work c.prepare_at.new.work c.args.plan.now c.levels-level.result c.loop-j.j c.in_ok-pointers.field-0.pointer c.loop-j.pointers
          c.size-size.ensures.consistent c.requires.plan c.prepare_at.ensures.consistent (omega (arith, c.loop-j-test.true, c.loop-j.invariant.long)) c.loop-j.invariant.underway c.in_ok-pointers.ensures.built c.in_ok-pointers.ensures.reaches;
      long = length-set c.loop-j.pointers c.loop-j.j c.in_ok-pointers.field-0.pointer ∙ c.loop-j.invariant.long;
      told = λ told. c.loop-j.invariant.told (c.in_ok-pointers.ensures.reaches.adds.takes.told_before told);
      aside = search rules;
      faults = search rules;
    }

pub returns-clause-built : goal.returns-clause-built
returns-clause-built g c =
    let m : BlockState = g.B.Blocks.state c.args.blocks.now in
    let b : ℕ = m.holdings.size in
    let some : 0 < b = size_positive b c.size-size.ensures.consistent.size in
    let level : c.levels-level.result ≡ levels_for b (leaves_after b c.args.plan.now.change) = level-is b c.size-size.result c.div_ceil.result c.levels-level.result c.args.plan.now.change some c.size-size.ensures.size c.div_ceil.ensures c.levels-level.ensures in
    underway_all m (g.B.Blocks.state c.loop-j.blocks) c.args.work.now c.loop-j.work c.args.plan.now c.levels-level.result c.loop-j.j c.loop-j.pointers c.size.ensures.consistent
    (omega (arith, c.loop-j-test.false, c.loop-j.auto)) c.loop-j.invariant.long level c.loop-j.invariant.underway

pub returns-clause-others : goal.returns-clause-others
returns-clause-others g c = search (rules, arith)
