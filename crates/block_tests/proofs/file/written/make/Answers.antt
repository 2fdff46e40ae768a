use Rattle.qx_ptree.proofs.CommittedNodes.{leaves_committed, node_committed}
use Rattle.block_tests.proofs.file.written.make.Goals as goal

pub returns-clause-node : goal.returns-clause-node
returns-clause-node g c =
    node_committed c.args.order (g.B.Blocks.state c.need.new.blocks) (g.B.Blocks.state c.prepare.new.blocks) (g.B.Blocks.state c.commit.new.blocks) c.args.node.now c.commit.new.node c.args.change.now c.in_ok-p.p
    c.in_ok-p.ensures.ok c.commit.ensures.node c.commit.ensures.blocks c.commit.ensures.rest

pub returns-clause-written : goal.returns-clause-written
returns-clause-written g c =
    leaves_committed c.args.order (g.B.Blocks.state c.need.new.blocks) (g.B.Blocks.state c.prepare.new.blocks) (g.B.Blocks.state c.commit.new.blocks) c.args.node.now c.commit.new.node c.args.change.now c.in_ok-p.p
    c.in_ok-p.ensures.ok c.commit.ensures.node c.commit.ensures.blocks
