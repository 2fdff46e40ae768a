use Rattle.std.proofs.lemmas.Result.{err_from_is_err_and}
use Rattle.std.proofs.Common.{[], ap, Err}
use Rattle.qx_ptree.proofs.KeptNodes.{node_taken}
use Rattle.qx_ptree.proofs.TakenBlocks.{Takes-after}
use Rattle.tree_bench.proofs.Reasons.{stopped}
use Rattle.tree_bench.proofs.changes.try_node.Goals as goal

pub returns-in_err-p-clause-node : goal.returns-in_err-p-clause-node
returns-in_err-p-clause-node g c =
    node_taken c.args.order [] (g.B.Blocks.state c.checked_need.new.blocks) (g.B.Blocks.state c.prepare.new.blocks) c.args.node.now c.in_ok-takes.ensures.consistent c.in_err-p.ensures.err c.in_ok-takes.ensures.node

pub returns-clause-made : goal.returns-clause-made
returns-clause-made g c = λ told.
    let n = g.B.Blocks.state c.checked_need.new.blocks in
    let back = c.abandon.ensures.back n [] c.in_ok-p.ensures.ok.takes in
    c.in_ok-takes.ensures.need (back.told_before told)

pub returns-clause-back : goal.returns-clause-back
returns-clause-back g c =
    let m = g.B.Blocks.state c.args.blocks.now in
    let n = g.B.Blocks.state c.checked_need.new.blocks in
    Takes-after [] m n (g.B.Blocks.state c.abandon.new.blocks) c.checked_need.ensures.keeps (c.abandon.ensures.back n [] c.in_ok-p.ensures.ok.takes)

pub returns-clause-node : goal.returns-clause-node
returns-clause-node g c =
    let n = g.B.Blocks.state c.checked_need.new.blocks in
    node_taken c.args.order [] n (g.B.Blocks.state c.abandon.new.blocks) c.args.node.now c.in_ok-takes.ensures.consistent (c.abandon.ensures.back n [] c.in_ok-p.ensures.ok.takes) c.in_ok-takes.ensures.node

pub returns-in_err-p-clause-reason : goal.returns-in_err-p-clause-reason
returns-in_err-p-clause-reason g c =
    let p = err_from_is_err_and c.from_residual-in_err-p.result c.from_residual-in_err-p.ensures.1 in
    rw (p.1, p.2) (stopped c.args.order (g.B.Blocks.state c.args.blocks.now) c.args.node.now c.args.change.now (g.B.Blocks.state c.prepare.new.blocks).tells (g.B.Blocks.beside c.args.blocks.now).faults
    (g.B.Blocks.beside c.checked_need.new.blocks).faults (g.B.Blocks.beside c.prepare.new.blocks).faults c.in_err-p.field-0.0 c.in_ok-takes.ensures.kept (λ e. c.in_err-p.ensures.others.cause.failed (ap (λ s. Err s) e)))
