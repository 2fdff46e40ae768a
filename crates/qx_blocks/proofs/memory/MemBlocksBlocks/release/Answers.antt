use Rattle.std.proofs.Common.{false, refl}
use Rattle.qx_blocks.proofs.HeldSlots.{release_keeps, release_view}
use Rattle.qx_blocks.proofs.memory.MemBlocksBlocks.release.Goals as goal

pub invariant_of-self : goal.invariant_of-self
invariant_of-self c = release_keeps c.self.inside c.args.self.now c.args.b (record { held = false; bytes = c.new-bytes.result }) c.self.invariant c.self.view_is c.requires refl

pub returns-clause-released : goal.returns-clause-released
returns-clause-released c = release_view c.self.inside c.args.self.now c.args.b (record { held = false; bytes = c.new-bytes.result }) c.self.view_is c.requires refl
