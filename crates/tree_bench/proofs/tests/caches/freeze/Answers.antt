use Rattle.tree_bench.proofs.ChangedCaches.{node-frozen}
use Rattle.tree_bench.proofs.tests.caches.freeze.Goals as goal

pub returns : goal.returns
returns g c = node-frozen g.H.Dev.outside c.args.order c.args.cache.now c.freeze.new.self c.args.node.now c.freeze.ensures.frozen c.freeze.ensures.bytes c.requires.node
