use Rattle.qx_cache.specs.CacheState.{state_of}
use Rattle.qx_ptree.specs.Trees.{IsNode}
use Rattle.tree_bench.proofs.tests.caches.write_all.Given as goal

abbrev pub invariant-loop-count : goal.invariant-loop-count
invariant-loop-count g l = IsNode l.fn.order (state_of g.H.Dev.outside l.cache) l.fn.node
