use Rattle.std.proofs.Common.{◌∙◌, sym}
use Rattle.qx_ptree.proofs.AddedWork.{adds_none, adds_taken}
use Rattle.qx_ptree.proofs.PreparedBlocks.{at_err, err_same, leaf_moved, leaf_stays, leaf_taken}
use Rattle.qx_ptree.proofs.TakenBlocks.{Takes-none, Takes-one}
use Rattle.qx_ptree.proofs.new_parts.written_leaf.Goals as goal

pub returns-then-pointer-eq-ABSENT-clause-written : goal.returns-then-pointer-eq-ABSENT-clause-written
returns-then-pointer-eq-ABSENT-clause-written g c =
    leaf_taken (g.B.Blocks.state c.args.blocks.now) (g.B.Blocks.state c.take.new.blocks) c.args.work.now c.take.new.self c.args.pointer c.take.result
    c.take.ensures.consistent c.if-pointer-eq-ABSENT.true c.take.ensures.taken c.take.ensures.unheld c.take.ensures.room c.take.ensures.noted

pub returns-then-pointer-eq-ABSENT-clause-err : goal.returns-then-pointer-eq-ABSENT-clause-err
returns-then-pointer-eq-ABSENT-clause-err g c =
    err_same (g.B.Blocks.state c.args.blocks.now) (g.B.Blocks.state c.take.new.blocks) c.args.work.now c.take.new.self c.take.result c.take.ensures.err c.take.ensures.same

pub returns-in_err-b-clause-err : goal.returns-in_err-b-clause-err
returns-in_err-b-clause-err g c =
    at_err c.from_residual.result (adds_none (g.B.Blocks.state c.args.blocks.now) (g.B.Blocks.state c.take_copy.new.blocks) c.args.work.now c.take_copy.new.self
    (Takes-none (g.B.Blocks.state c.args.blocks.now) (g.B.Blocks.state c.take_copy.new.blocks) c.in_err-b.ensures.err) c.in_err-b.ensures.same)

pub returns-in_err-give_up-clause-err : goal.returns-in_err-give_up-clause-err
returns-in_err-give_up-clause-err g c =
    let m = g.B.Blocks.state c.args.blocks.now in
    at_err c.from_residual-in_err-give_up.result (adds_taken m (g.B.Blocks.state c.take_copy.new.blocks) c.args.work.now c.give_up.new.self c.in_ok-b.b
    (Takes-one m (g.B.Blocks.state c.take_copy.new.blocks) c.in_ok-b.b (m.bytes c.args.pointer) c.take_copy.ensures.consistent c.in_ok-b.ensures.unheld c.in_ok-b.ensures.room c.in_ok-b.ensures.holdings c.in_ok-b.ensures.told c.in_ok-b.ensures.ready)
    (c.in_err-give_up.ensures.same ∙ c.in_ok-b.ensures.noted))

pub returns-then-not-is_private-clause-written : goal.returns-then-not-is_private-clause-written
returns-then-not-is_private-clause-written g c =
    let m = g.B.Blocks.state c.args.blocks.now in
    leaf_moved m (g.B.Blocks.state c.take_copy.new.blocks) c.args.work.now c.take_copy.new.self c.give_up.new.self c.args.pointer c.in_ok-b.b
    c.if-pointer-eq-ABSENT.false (sym c.is_private.ensures.private ∙ c.if-not-is_private.true)
    (Takes-one m (g.B.Blocks.state c.take_copy.new.blocks) c.in_ok-b.b (m.bytes c.args.pointer) c.take_copy.ensures.consistent c.in_ok-b.ensures.unheld c.in_ok-b.ensures.room c.in_ok-b.ensures.holdings c.in_ok-b.ensures.told c.in_ok-b.ensures.ready)
    c.in_ok-b.ensures.told c.in_ok-b.ensures.noted c.in_ok-give_up.ensures.noted

pub returns-in_err-keep-clause-err : goal.returns-in_err-keep-clause-err
returns-in_err-keep-clause-err g c =
    at_err c.from_residual-in_err-keep.result (adds_none (g.B.Blocks.state c.args.blocks.now) (g.B.Blocks.state c.keep.new.blocks) c.args.work.now c.keep.new.self
    (Takes-none (g.B.Blocks.state c.args.blocks.now) (g.B.Blocks.state c.keep.new.blocks) c.in_err-keep.ensures.err) c.in_err-keep.ensures.same)

pub returns-clause-written : goal.returns-clause-written
returns-clause-written g c =
    leaf_stays (g.B.Blocks.state c.args.blocks.now) (g.B.Blocks.state c.keep.new.blocks) c.args.work.now c.keep.new.self c.args.pointer
    c.if-pointer-eq-ABSENT.false (sym c.is_private.ensures.private ∙ c.if-not-is_private.false) c.in_ok-keep.ensures.ready c.in_ok-keep.ensures.noted
