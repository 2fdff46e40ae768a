use Rattle.std.proofs.Common.{◌≡◌, ◌∙◌, ap, sym, length}
use Rattle.std.specs.Prelude.{IsTrue}
use Rattle.qx_blocks.specs.BlockState.{Holdings, with_bytes}
use Rattle.qx_ptree.proofs.WrittenEdits.{LeavesOthers-edits, edit_can, with_edits-drop}
use Rattle.qx_ptree.proofs.work.Work.write_edits.Goals as goal

pub edit-requires : goal.edit-requires
edit-requires g c =
    let can = edit_can (g.B.Blocks.state c.args.blocks.now) c.args.self.now c.self.inside c.deref-edit-items.result.now c.loop-edit.edit-index c.edit-item.result c.self.view_is c.deref-edit-items.ensures.value c.requires c.loop-edit-test.true c.edit-item.is in
    ap (λ (h : Holdings). h.ready c.edit-item.result.block) c.loop-edit.invariant.holdings ∙ can.0

pub copy_from_slice-requires : goal.copy_from_slice-requires
copy_from_slice-requires g c =
    let can = edit_can (g.B.Blocks.state c.args.blocks.now) c.args.self.now c.self.inside c.deref-edit-items.result.now c.loop-edit.edit-index c.edit-item.result c.self.view_is c.deref-edit-items.ensures.value c.requires c.loop-edit-test.true c.edit-item.is in
    c.edit.ensures.long ∙ ap (λ (h : Holdings). h.size) c.loop-edit.invariant.holdings ∙ sym can.1 ∙ sym (ap length c.deref.ensures.value)

pub loop-edit-preserved : goal.loop-edit-preserved
loop-edit-preserved g c =
    let can = edit_can (g.B.Blocks.state c.args.blocks.now) c.args.self.now c.self.inside c.deref-edit-items.result.now c.loop-edit.edit-index c.edit-item.result c.self.view_is c.deref-edit-items.ensures.value c.requires c.loop-edit-test.true c.edit-item.is in
    let ready : IsTrue ((g.B.Blocks.state c.loop-edit.blocks).holdings.ready c.edit-item.result.block) = ap (λ (h : Holdings). h.ready c.edit-item.result.block) c.loop-edit.invariant.holdings ∙ can.0 in
    let is : c.copy_from_slice.new.self ≡ c.edit-item.result.bytes.items = c.copy_from_slice.ensures.after ∙ c.deref.ensures.value in
    let written : g.B.Blocks.state (g.B.Blocks.edited c.loop-edit.blocks c.edit-item.result.block c.copy_from_slice.new.self) ≡ with_bytes (g.B.Blocks.state c.loop-edit.blocks) c.edit-item.result.block c.edit-item.result.bytes.items
    = g.met.B.Blocks.edits c.loop-edit.blocks c.edit-item.result.block c.copy_from_slice.new.self ready (c.copy_from_slice.ensures.len ∙ ap length c.edit.ensures.bytes)
    ∙ ap (with_bytes (g.B.Blocks.state c.loop-edit.blocks) c.edit-item.result.block) is in
    record {
      rest = rw written (sym (with_edits-drop (g.B.Blocks.state c.loop-edit.blocks) c.deref-edit-items.result.now c.loop-edit.edit-index c.edit-item.result c.loop-edit-test.true c.edit-item.is) ∙ c.loop-edit.invariant.rest);
      holdings = rw written c.loop-edit.invariant.holdings;
      beside = g.met.B.Blocks.edits_beside c.loop-edit.blocks c.edit-item.result.block c.copy_from_slice.new.self ∙ c.loop-edit.invariant.beside;
    }

pub returns-clause-rest : goal.returns-clause-rest
returns-clause-rest g c =
    LeavesOthers-edits (g.B.Blocks.state c.args.blocks.now) (g.B.Blocks.state c.loop-edit.blocks) c.args.self.now c.self.inside c.deref-edit-items.result.now c.loop-edit.edit-index
    c.self.view_is c.deref-edit-items.ensures.value c.requires c.loop-edit-test.false c.loop-edit.invariant.rest
