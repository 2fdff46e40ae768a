use Rattle.std.proofs.Common.{◌≡◌, ℕ, true, sym, ◌∙◌, ap}
use Rattle.std.specs.Prelude.{Bool}
use Rattle.qx_blocks.specs.BlockState.{BlockState, Holdings}
use Rattle.qx_blocks.specs.Calls.{Keeps}
use Rattle.qx_geom.specs.Room.{fits}
use Rattle.qx_batch.proofs.PreparedBatches.{planned_kept, prepared_kept}
use Rattle.qx_batch.proofs.fitting.prepare_fitting.Goals as goal

-- what was counted fits, so what is needed does
fits_as_counted : (old mid : BlockState) (is_removing fit : Bool) (need count free : ℕ) → Keeps old mid → count ≡ need → free ≡ mid.holdings.free → fit ≡ fits is_removing count free → fit ≡ true → fits is_removing need old.holdings.free ≡ true
fits_as_counted old mid is_removing fit need count free k counted left is good =
    (λ i. fits is_removing (sym counted i) (sym (left ∙ ap (λ (h : Holdings). h.free) k.holdings) i)) ∙ sym is ∙ good

pub prepare_all-requires-clause-planned : goal.prepare_all-requires-clause-planned
prepare_all-requires-clause-planned g c = λ p among. planned_kept c.args.order (g.B.Blocks.state c.args.blocks.now) (g.B.Blocks.state c.joint_need.new.blocks) p c.joint_need.ensures.reads.keeps (c.requires.planned p among)

pub returns-clause-ok : goal.returns-clause-ok
returns-clause-ok g c = (
  prepared_kept c.args.order (g.B.Blocks.state c.args.blocks.now) (g.B.Blocks.state c.joint_need.new.blocks) (g.B.Blocks.state c.prepare_all.new.blocks) c.args.planned.now c.in_ok-batch.batch c.joint_need.ensures.reads.keeps c.in_ok-batch.ensures.ok,
  λ told. fits_as_counted (g.B.Blocks.state c.args.blocks.now) (g.B.Blocks.state c.joint_need.new.blocks) c.args.is_removing c.has_room.result _ c.in_ok-need.need c.free-free.result c.joint_need.ensures.reads.keeps
      (c.in_ok-need.ensures.need (c.in_ok-batch.ensures.ok.takes.told_before told)) c.free-free.ensures.free c.has_room.ensures c.if-not-has_room.false,
)
