use Rattle.std.proofs.Common.{◌≡◌, ◌∙◌, ◌++◌, sym, refl, length, take, drop, vec_len}
use Rattle.std.proofs.lemmas.Result.{on_err_weaker}
use Rattle.qx_ptree.specs.Building.{pointer_bytes}
use Rattle.qx_ptree.proofs.AddedWork.{adds_kept, adds_none}
use Rattle.qx_ptree.proofs.PreparedBlocks.{at_err, edit_noted, whole_put, written_over}
use Rattle.qx_ptree.proofs.TakenBlocks.{Takes-none, Takes-same}
use Rattle.qx_ptree.proofs.pointer_blocks.edit_block.Goals as goal

pub returns-in_err-bytes-clause-err : goal.returns-in_err-bytes-clause-err
returns-in_err-bytes-clause-err g c =
    let m = g.B.Blocks.state c.args.blocks.now in
    at_err c.from_residual.result (adds_none m m c.args.work.now c.args.work.now (Takes-same m) refl)

pub returns-in_err-keep-clause-err : goal.returns-in_err-keep-clause-err
returns-in_err-keep-clause-err g c =
    at_err c.from_residual-in_err-keep.result (adds_none (g.B.Blocks.state c.args.blocks.now) (g.B.Blocks.state c.keep.new.blocks) c.args.work.now c.keep.new.self
    (Takes-none (g.B.Blocks.state c.args.blocks.now) (g.B.Blocks.state c.keep.new.blocks) c.in_err-keep.ensures.err) c.in_err-keep.ensures.same)

pub returns-clause-noted : goal.returns-clause-noted
returns-clause-noted g c =
    let m = g.B.Blocks.state c.args.blocks.now in
    let sized : vec_len c.in_ok-bytes.bytes ≡ m.holdings.size = c.in_ok-bytes.ensures.len ∙ c.size.ensures.size in
    let put = whole_put c.args.order m c.as_mut_slice.result.now c.put32s.new.into c.args.pointers.now c.size.ensures.consistent c.requires.long (c.as_mut_slice.ensures.len ∙ sized) c.put32s.ensures.bytes in
    edit_noted c.edit_later.result c.args.work.now c.keep.new.self c.edit_later.new.self c.args.pointer
    (take c.in_ok-bytes.bytes.len (c.put32s.new.into ++ drop (length c.put32s.new.into) c.in_ok-bytes.bytes.items)) (pointer_bytes c.args.order c.args.pointers.now) c.in_ok-keep.ensures.noted
    (written_over c.in_ok-bytes.bytes.len c.put32s.new.into (drop (length c.put32s.new.into) c.in_ok-bytes.bytes.items) (sized ∙ sym put.1) ∙ put.0) c.edit_later.ensures.noted

pub returns-clause-err : goal.returns-clause-err
returns-clause-err g c =
    on_err_weaker c.edit_later.result (λ (same : c.edit_later.new.self ≡ c.keep.new.self). adds_kept (g.B.Blocks.state c.args.blocks.now) (g.B.Blocks.state c.keep.new.blocks) c.args.work.now c.edit_later.new.self c.args.pointer
    c.in_ok-keep.ensures.ready (same ∙ c.in_ok-keep.ensures.noted)) c.edit_later.ensures.same
