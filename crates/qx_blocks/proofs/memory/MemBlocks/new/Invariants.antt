use Rattle.std.proofs.Common.{◌≡◌, None}
use Rattle.std.specs.Prelude.{replicate, map}
use Rattle.qx_blocks.specs.MemView.{slot_bytes}
use Rattle.qx_blocks.proofs.memory.MemBlocks.new.Given as goal

abbrev pub invariant-loop : goal.invariant-loop
invariant-loop l = map slot_bytes l.slots.items ≡ replicate l.counter None
