use Rattle.qx_ptree.specs.Trees.{empty_node}
use Rattle.block_tests.proofs.ThreeFiles.{laid_empty}
use Rattle.block_tests.proofs.batches.empty_files.Goals as goal

pub returns-clause-first : goal.returns-clause-first
returns-clause-first g c = c.an_empty_node_is_a_node.ensures.node c.args.order (g.B.Blocks.state c.args.blocks.now) c.size.ensures.consistent.size

pub returns-clause-laid : goal.returns-clause-laid
returns-clause-laid g c = λ told.
    laid_empty c.args.order (g.B.Blocks.state c.args.blocks.now) c.size.ensures.consistent told (returns-clause-first g c) (c.an_empty_node_is_a_node.ensures.apart c.args.order (g.B.Blocks.state c.args.blocks.now) empty_node).0
