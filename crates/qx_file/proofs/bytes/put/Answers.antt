use Rattle.std.proofs.Common.{◌<◌, ◌∙◌, length, arith, rules}
use Rattle.qx_blocks.specs.BlockState.{BlockState}
use Rattle.qx_ptree.proofs.PointerCounts.{size_positive}
use Rattle.qx_file.specs.Puts.{HasByte}
use Rattle.qx_file.proofs.PartBytes.{has_between, has_last}
use Rattle.qx_file.proofs.PutLeaves.{can_before, puts_all, puts_next}
use Rattle.qx_file.proofs.bytes.put.Goals as goal

pub put_leaf-requires-clause-can : goal.put_leaf-requires-clause-can
put_leaf-requires-clause-can g c =
    can_before c.args.order c.args.node.now c.args.at c.args.bytes.now (g.B.Blocks.state c.args.blocks.now) (g.B.Blocks.state c.loop-index.blocks) c.loop-index.index c.requires c.loop-index.invariant.puts

pub loop-index-preserved : goal.loop-index-preserved
loop-index-preserved g c =
    let m : BlockState = g.B.Blocks.state c.args.blocks.now in
    let some : 0 < length c.args.bytes.now = search (rules, arith) in
    let has : HasByte m.holdings.size c.args.at (length c.args.bytes.now) c.loop-index.index =
    has_between c.size-size.result m.holdings.size c.args.at (length c.args.bytes.now) c.loop-index.index c.last_leaf-last.result (size_positive m.holdings.size c.size-size.ensures.consistent.size) some
    c.size-size.ensures.size c.loop-index.auto.index c.loop-index-test.true c.last_leaf-last.ensures.last in
    record {
      puts = puts_next c.args.order c.args.node.now c.args.at c.args.bytes.now m (g.B.Blocks.state c.loop-index.blocks) (g.B.Blocks.state c.put_leaf.new.blocks) c.loop-index.index
          c.requires c.loop-index.invariant.puts has c.put_leaf.ensures.put;
      beside = c.put_leaf.ensures.others ∙ c.loop-index.invariant.beside;
    }

pub returns-clause-puts : goal.returns-clause-puts
returns-clause-puts g c =
    let m : BlockState = g.B.Blocks.state c.args.blocks.now in
    puts_all c.args.order c.args.node.now c.args.at c.args.bytes.now m (g.B.Blocks.state c.loop-index.blocks) c.loop-index.index
    (λ i has. omega (arith, c.loop-index-test.false, has_last c.size-size.result m.holdings.size c.args.at (length c.args.bytes.now) i c.last_leaf-last.result (size_positive m.holdings.size c.size-size.ensures.consistent.size) c.size-size.ensures.size c.last_leaf-last.ensures.last has))
    c.loop-index.invariant.puts

pub returns-clause-again : goal.returns-clause-again
returns-clause-again g c =
    can_before c.args.order c.args.node.now c.args.at c.args.bytes.now (g.B.Blocks.state c.args.blocks.now) (g.B.Blocks.state c.loop-index.blocks) c.loop-index.index c.requires c.loop-index.invariant.puts
