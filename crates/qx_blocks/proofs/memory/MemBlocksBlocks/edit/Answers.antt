use Rattle.std.proofs.Common.{length, [], refl, sym, ap, ◌∙◌}
use Rattle.std.specs.Prelude.{unwrap_or}
use Rattle.qx_blocks.specs.MemState.{edited_in, slot_at}
use Rattle.qx_blocks.proofs.HeldSlots.{HasSlot, has_slot, edit_keeps, edit_view, bytes-lies, length-lies}
use Rattle.qx_blocks.proofs.memory.MemBlocksBlocks.edit.Goals as goal

pub invariant_of-self-lent : goal.invariant_of-self-lent
invariant_of-self-lent c =
    edit_keeps c.self.inside c.args.b c.index_mut-slot.result.now
    (has_slot c.self.inside c.args.self.now c.args.b c.index_mut-slot.result.now c.self.invariant c.self.view_is c.requires c.index_mut-slot.ensures.value)

pub returns : goal.returns
returns c =
    let has : HasSlot c.self.inside c.args.b c.index_mut-slot.result.now
    = has_slot c.self.inside c.args.self.now c.args.b c.index_mut-slot.result.now c.self.invariant c.self.view_is c.requires c.index_mut-slot.ensures.value in (
      (refl, λ w. edit_view c.self.inside c.args.b c.index_mut-slot.result.now has w ∙ ap (λ v. edited_in v c.args.b w) c.self.view_is),
      record {
        long = ap length c.as_mut_slice.ensures.value ∙ length-lies c.self.inside c.args.b c.index_mut-slot.result.now has ∙ ap (λ v. v.size) c.self.view_is;
        bytes = c.as_mut_slice.ensures.value
            ∙ ap (λ o. unwrap_or o []) (sym (bytes-lies c.self.inside c.args.b c.index_mut-slot.result.now has))
            ∙ ap (λ v. unwrap_or (slot_at v c.args.b) []) c.self.view_is;
        edited = tt;
      },
    )
