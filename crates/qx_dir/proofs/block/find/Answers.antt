use Rattle.std.proofs.Common.{◌/◌, length, sym, ◌∙◌, arith}
use Rattle.qx_dir.proofs.FoundRows.{found-here, found-behind, found-nowhere}
use Rattle.qx_dir.proofs.block.find.Goals as goal

pub returns-in-Some : goal.returns-in-Some
returns-in-Some c =
    found-here c.args.order c.args.block.now c.args.name.now c.loop-place.place (length c.args.block.now / 32) _ c.slot_at-slot.ensures.said (omega arith) c.in-Some.found (sym c.in-Some.is ∙ c.named.ensures)
    ∙ c.loop-place.invariant

pub loop-place-preserved : goal.loop-place-preserved
loop-place-preserved c =
    found-behind c.args.order c.args.block.now c.args.name.now c.loop-place.place (length c.args.block.now / 32) _ c.slot_at-slot.ensures.said (omega arith) (sym c.in_default.is ∙ c.named.ensures)
    ∙ c.loop-place.invariant

pub returns : goal.returns
returns c = sym (found-nowhere c.args.order c.args.block.now c.args.name.now c.loop-place.place (length c.args.block.now / 32) c.loop-place-test.false) ∙ c.loop-place.invariant
