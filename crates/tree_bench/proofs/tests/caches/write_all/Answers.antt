use Rattle.tree_bench.proofs.ChangedCaches.{node-written}
use Rattle.tree_bench.proofs.tests.caches.write_all.Goals as goal

pub returns-in_err-write_frozen : goal.returns-in_err-write_frozen
returns-in_err-write_frozen g c =
    node-written g.H.Dev.outside c.args.order c.loop-count.cache c.write_frozen.new.self c.args.node.now c.in_err-write_frozen.ensures.failed.failed.before c.write_frozen.ensures.blocks c.loop-count.invariant

pub loop-count-preserved : goal.loop-count-preserved
loop-count-preserved g c =
    node-written g.H.Dev.outside c.args.order c.loop-count.cache c.write_frozen.new.self c.args.node.now (c.in_ok-write_frozen.ensures.wrote c.if-not-branch.false).did.before c.write_frozen.ensures.blocks c.loop-count.invariant
