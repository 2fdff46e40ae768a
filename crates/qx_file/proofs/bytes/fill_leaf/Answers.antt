use Rattle.std.proofs.Common.{◌≡◌, ◌∙◌, ◌≤◌, ◌+◌, ◌-◌, ap, sym, subst, length, List, ℕ, ◌++◌, take, drop, arith, replicate}
use Rattle.std.specs.Prelude.{IsTrue, slice_range}
use Rattle.std.proofs.lemmas.List.{length-replicate}
use Rattle.qx_blocks.specs.BlockState.{BlockState, with_bytes}
use Rattle.qx_ptree.proofs.PointerCounts.{size_positive}
use Rattle.qx_file.specs.Puts.{with_part}
use Rattle.qx_file.proofs.PartBytes.{part_puts, put_length, taken_length, part_of_fill}
use Rattle.qx_file.proofs.PutLeaves.{leaf_edit}
use Rattle.qx_file.proofs.bytes.fill_leaf.Goals as goal

pub returns-clause-put : goal.returns-clause-put
returns-clause-put g c =
    let m : BlockState = g.B.Blocks.state c.args.blocks.now in
    let x : BlockState = g.B.Blocks.state c.ready_leaf-b.new.blocks in
    let b : ℕ = c.ready_leaf-b.result in
    let p = c.piece_in-piece.result in
    let old : List ℕ = c.edit.result.now in
    let part : List ℕ = c.fill.new.self in
    let new : List ℕ = take p.place old ++ (part ++ drop (p.place + p.count - p.place) (drop p.place old)) in
    let same : x ≡ m = c.ready_leaf-b.ensures.same in
    let long : length old ≡ m.holdings.size = c.edit.ensures.long ∙ ap (λ (n : BlockState). n.holdings.size) same in
    let room : p.place + p.count ≤ length old = omega (arith, c.piece_in-piece.ensures.inside, c.size.ensures.size, long) in
    let part_long : length part ≡ p.count = c.fill.ensures.len ∙ taken_length old p.place p.count room in
    let part_is : part ≡ slice_range (replicate c.args.count c.args.byte) p.from (p.from + p.count) = c.fill.ensures.after (λ y e. e) ∙ ap (λ n. replicate n c.args.byte) (taken_length c.edit.result.now p.place p.count room) ∙ part_of_fill c.args.count p.from p.count c.args.byte c.piece_in-piece.ensures.within in
    let ready : IsTrue (x.holdings.ready b) = subst (λ (n : BlockState). IsTrue (n.holdings.ready b)) (sym same) c.ready_leaf-b.ensures.ready in
    let was : old ≡ m.bytes b = c.edit.ensures.bytes ∙ ap (λ (n : BlockState). n.bytes b) same in
    let written : g.B.Blocks.state (g.B.Blocks.edited c.ready_leaf-b.new.blocks b new) ≡ with_bytes x b new =
    g.met.B.Blocks.edits c.ready_leaf-b.new.blocks b new ready (put_length old part p.place p.count part_long room ∙ ap length c.edit.ensures.bytes) in
    let puts : new ≡ with_part m.holdings.size c.args.index c.args.at (replicate c.args.count c.args.byte) old =
    part_puts m.holdings.size c.args.at c.args.index p.place p.from p.count (replicate c.args.count c.args.byte) old part (size_positive m.holdings.size c.size.ensures.consistent.size) (rw length-replicate c.requires.has)
    (rw c.size.ensures.size at c.piece_in-piece.ensures.place) (rw c.size.ensures.size at c.piece_in-piece.ensures.from) (rw length-replicate (rw c.size.ensures.size at c.piece_in-piece.ensures.count)) part_is part_long in
    written ∙ ap (λ (n : BlockState). with_bytes n b new) same ∙ leaf_edit c.args.order m c.args.node.now c.args.at (replicate c.args.count c.args.byte) c.args.index b old new c.ready_leaf-b.ensures.pointer was puts
