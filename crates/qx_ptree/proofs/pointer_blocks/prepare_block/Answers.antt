use Rattle.std.proofs.Common.{◌≡◌, ◌∙◌, ap, sym}
use Rattle.qx_blocks.specs.BlockState.{Holdings}
use Rattle.qx_ptree.proofs.AddedWork.{adds_none, adds_taken}
use Rattle.qx_ptree.proofs.PreparedBlocks.{at_err, block_edited, block_lost, block_moved, block_never, block_same, block_taken, err_keeps, pointer_bytes-length}
use Rattle.qx_ptree.proofs.TakenBlocks.{Takes-none, Takes-same}
use Rattle.qx_ptree.proofs.pointer_blocks.prepare_block.Goals as goal

pub returns-in_err-give_up-clause-err : goal.returns-in_err-give_up-clause-err
returns-in_err-give_up-clause-err g c =
    let m = g.B.Blocks.state c.args.blocks.now in
    at_err c.from_residual.result (adds_none m m c.args.work.now c.give_up.new.self (Takes-same m) c.in_err-give_up.ensures.same)

pub returns-in_ok-give_up-clause-written : goal.returns-in_ok-give_up-clause-written
returns-in_ok-give_up-clause-written g c =
    block_lost c.args.order (g.B.Blocks.state c.args.blocks.now) c.args.work.now c.give_up.new.self c.args.pointer c.args.pointers.now c.args.changed c.args.present c.if-had.true c.if-not-present.true c.in_ok-give_up.ensures.noted

pub returns-else-had-clause-written : goal.returns-else-had-clause-written
returns-else-had-clause-written g c =
    block_never c.args.order (g.B.Blocks.state c.args.blocks.now) c.args.work.now c.args.pointer c.args.pointers.now c.args.changed c.args.present c.if-had.false c.if-not-present.true

pub returns-then-not-had-clause-written : goal.returns-then-not-had-clause-written
returns-then-not-had-clause-written g c =
    block_taken c.args.order (g.B.Blocks.state c.args.blocks.now) (g.B.Blocks.state c.take_filled.new.blocks) c.args.work.now c.take_filled.new.work c.args.pointer c.args.pointers.now c.args.changed c.args.present c.take_filled.result
    c.if-not-had.true c.if-not-present.false c.take_filled.ensures.takes c.take_filled.ensures.bytes c.take_filled.ensures.noted

pub returns-then-not-had-clause-err : goal.returns-then-not-had-clause-err
returns-then-not-had-clause-err g c =
    err_keeps (g.B.Blocks.state c.args.blocks.now) (g.B.Blocks.state c.take_filled.new.blocks) c.args.work.now c.take_filled.new.work c.take_filled.result c.take_filled.ensures.err c.take_filled.ensures.same

pub returns-then-not-changed-clause-written : goal.returns-then-not-changed-clause-written
returns-then-not-changed-clause-written g c =
    block_same c.args.order (g.B.Blocks.state c.args.blocks.now) c.args.work.now c.args.pointer c.args.pointers.now c.args.changed c.args.present c.if-not-had.false c.if-not-changed.true c.if-not-present.false

pub returns-then-is_private-clause-written : goal.returns-then-is_private-clause-written
returns-then-is_private-clause-written g c =
    let m = g.B.Blocks.state c.args.blocks.now in
    let n = g.B.Blocks.state c.edit_block.new.blocks in
    let size : n.holdings.size ≡ m.holdings.size = ap (λ (h : Holdings). h.size) c.in_ok-edit_block.ensures.ready.holdings in
    block_edited c.args.order m n c.args.work.now c.edit_block.new.work c.args.pointer c.args.pointers.now c.args.changed c.args.present
    c.if-not-had.false c.if-not-changed.false c.if-not-present.false (sym c.is_private.ensures.private ∙ c.if-is_private.true) c.in_ok-edit_block.ensures.ready
    (pointer_bytes-length c.args.order m c.args.pointers.now c.is_private.ensures.consistent c.requires.long ∙ sym size) c.in_ok-edit_block.ensures.noted

pub returns-in_err-b-clause-err : goal.returns-in_err-b-clause-err
returns-in_err-b-clause-err g c =
    at_err c.from_residual-in_err-b.result (adds_none (g.B.Blocks.state c.args.blocks.now) (g.B.Blocks.state c.take_filled-2.new.blocks) c.args.work.now c.take_filled-2.new.work
    (Takes-none (g.B.Blocks.state c.args.blocks.now) (g.B.Blocks.state c.take_filled-2.new.blocks) c.in_err-b.ensures.err) c.in_err-b.ensures.same)

pub returns-in_err-give_up-2-clause-err : goal.returns-in_err-give_up-2-clause-err
returns-in_err-give_up-2-clause-err g c =
    at_err c.from_residual-in_err-give_up-2.result (adds_taken (g.B.Blocks.state c.args.blocks.now) (g.B.Blocks.state c.take_filled-2.new.blocks) c.args.work.now c.give_up-2.new.self c.in_ok-b.b
    c.in_ok-b.ensures.takes (c.in_err-give_up-2.ensures.same ∙ c.in_ok-b.ensures.noted))

pub returns-clause-written : goal.returns-clause-written
returns-clause-written g c =
    block_moved c.args.order (g.B.Blocks.state c.args.blocks.now) (g.B.Blocks.state c.take_filled-2.new.blocks) c.args.work.now c.take_filled-2.new.work c.give_up-2.new.self c.args.pointer c.args.pointers.now c.args.changed c.args.present c.in_ok-b.b
    c.if-not-had.false c.if-not-changed.false c.if-not-present.false (sym c.is_private.ensures.private ∙ c.if-is_private.false)
    c.in_ok-b.ensures.takes c.in_ok-b.ensures.bytes c.in_ok-b.ensures.noted c.in_ok-give_up-2.ensures.noted
