use Rattle.std.proofs.Common.{◌≤◌, ◌∙◌, length, sym, arith}
use Rattle.qx_blocks.proofs.HeldSlots.{found-any, found-free, later-free}
use Rattle.qx_blocks.proofs.memory.free_slot.Goals as goal

pub returns-in-Some-clause-free : goal.returns-in-Some-clause-free
returns-in-Some-clause-free c =
    let long : c.min-from.result ≤ length c.args.slots.now = omega (arith, c.min-from.ensures) in
    later-free c.min-from.result _ c.args.slots.now c.in-Some.b long (found-free _ c.in-Some.b (sym c.first_free.ensures ∙ c.in-Some.is))

pub returns-in-None-clause-free : goal.returns-in-None-clause-free
returns-in-None-clause-free c = found-any c.args.slots.now c.first_free-in-None.result c.first_free-in-None.ensures
