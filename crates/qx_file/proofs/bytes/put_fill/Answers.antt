use Rattle.std.proofs.Common.{◌<◌, ◌∙◌, replicate, length, arith, rules}
use Rattle.std.proofs.lemmas.List.{length-replicate}
use Rattle.qx_blocks.specs.BlockState.{BlockState}
use Rattle.qx_ptree.proofs.PointerCounts.{size_positive}
use Rattle.qx_file.specs.Puts.{CanPut, HasByte}
use Rattle.qx_file.proofs.PartBytes.{has_between, has_last}
use Rattle.qx_file.proofs.PutLeaves.{can_before, puts_all, puts_next}
use Rattle.qx_file.proofs.bytes.put_fill.Goals as goal

pub fill_leaf-requires-clause-can : goal.fill_leaf-requires-clause-can
fill_leaf-requires-clause-can g c =
    let m : BlockState = g.B.Blocks.state c.args.blocks.now in
    let n : BlockState = g.B.Blocks.state c.loop-index.blocks in
    let can : CanPut c.args.order m c.args.node.now c.args.at (length (replicate c.args.count c.args.byte)) = rw length-replicate c.requires in
    let after : CanPut c.args.order n c.args.node.now c.args.at (length (replicate c.args.count c.args.byte)) =
    can_before c.args.order c.args.node.now c.args.at (replicate c.args.count c.args.byte) m n c.loop-index.index can c.loop-index.invariant.puts in
    rw length-replicate at after

pub loop-index-preserved : goal.loop-index-preserved
loop-index-preserved g c =
    let m : BlockState = g.B.Blocks.state c.args.blocks.now in
    let can : CanPut c.args.order m c.args.node.now c.args.at (length (replicate c.args.count c.args.byte)) = rw length-replicate c.requires in
    let some : 0 < c.args.count = search (rules, arith) in
    let has : HasByte m.holdings.size c.args.at c.args.count c.loop-index.index =
    has_between c.size-size.result m.holdings.size c.args.at c.args.count c.loop-index.index c.last_leaf-last.result (size_positive m.holdings.size c.size-size.ensures.consistent.size) some
    c.size-size.ensures.size c.loop-index.auto.index c.loop-index-test.true c.last_leaf-last.ensures.last in
    record {
      puts = puts_next c.args.order c.args.node.now c.args.at (replicate c.args.count c.args.byte) m (g.B.Blocks.state c.loop-index.blocks) (g.B.Blocks.state c.fill_leaf.new.blocks) c.loop-index.index
          can c.loop-index.invariant.puts (rw length-replicate has) c.fill_leaf.ensures.put;
      beside = c.fill_leaf.ensures.others ∙ c.loop-index.invariant.beside;
    }

pub returns-clause-puts : goal.returns-clause-puts
returns-clause-puts g c =
    let m : BlockState = g.B.Blocks.state c.args.blocks.now in
    puts_all c.args.order c.args.node.now c.args.at (replicate c.args.count c.args.byte) m (g.B.Blocks.state c.loop-index.blocks) c.loop-index.index
    (λ i has.
    let one : HasByte m.holdings.size c.args.at c.args.count i = rw length-replicate at has in
    omega (arith, c.loop-index-test.false, has_last c.size-size.result m.holdings.size c.args.at c.args.count i c.last_leaf-last.result (size_positive m.holdings.size c.size-size.ensures.consistent.size) c.size-size.ensures.size c.last_leaf-last.ensures.last one))
    c.loop-index.invariant.puts

pub returns-clause-again : goal.returns-clause-again
returns-clause-again g c =
    let m : BlockState = g.B.Blocks.state c.args.blocks.now in
    let n : BlockState = g.B.Blocks.state c.loop-index.blocks in
    let can : CanPut c.args.order m c.args.node.now c.args.at (length (replicate c.args.count c.args.byte)) = rw length-replicate c.requires in
    let after : CanPut c.args.order n c.args.node.now c.args.at (length (replicate c.args.count c.args.byte)) =
    can_before c.args.order c.args.node.now c.args.at (replicate c.args.count c.args.byte) m n c.loop-index.index can c.loop-index.invariant.puts in
    rw length-replicate at after
