use Rattle.std.proofs.Common.{◌≡◌, ◌∙◌, ap}
use Rattle.std.proofs.lemmas.Result.{err_from_is_err_and}
use Rattle.qx_walk.specs.Trees.{note_if}
use Rattle.qx_walk.proofs.OwnNodes.{node_walked, sized_by}
use Rattle.qx_pointers.proofs.PassedTests.{no_finding}
use Rattle.qx_pointers.proofs.ShownBlocks.{shown_size, shows_before}
use Rattle.qx_walk.proofs.own_nodes.walk_own_node.Goals as goal

pub returns-in_err-tail-clause-walked : goal.returns-in_err-tail-clause-walked
returns-in_err-tail-clause-walked g c = λ m met s marks.
    let p = err_from_is_err_and c.from_residual-in_err-tail.result c.from_residual-in_err-tail.ensures.1 in
    rw (p.1, p.2) (record { answer = no_finding 1 _ _ _ _ c.in_err-tail.ensures.asks; marks = tt; part = tt; leaves = tt; nodes = tt; tails = tt })

pub returns-clause-walked : goal.returns-clause-walked
returns-clause-walked g c = λ m met s marks.
    let shape = c.args.shape in
    let before = shows_before shape _ _ m c.has_tail.ensures.asks.reads s in
    let size : m.size ≡ shape.blocksize = shown_size shape _ m s in
    let whole = c.in_ok-part.ensures.part m before in
    node_walked m c.args.n c.args.node.now c.args.keeps c.in_ok-tail.tail met c.in_ok-part.part _ _ (sized_by m shape size) marks (c.in_ok-part.ensures.tests m before) whole (c.in_ok-part.ensures.leaves m before)
    (c.noted-way.ensures ∙ ap (λ b. note_if b c.args.n c.args.way.now.notes.nodes) (c.is_foreign_node.ensures m size whole))
    c.noted-way-2.ensures (c.in_ok-tail.ensures.tail m s)
