use Rattle.std.proofs.Common.{◌≡◌, ◌∙◌, sym, subst, length}
use Rattle.std.specs.Prelude.{IsTrue}
use Rattle.qx_blocks.specs.BlockState.{BlockState, Holdings}
use Rattle.qx_nodes.specs.Leaves.{Hole, leaf_of}
use Rattle.qx_ptree.specs.Trees.{block_map}
use Rattle.qx_file.proofs.ReadBytes.{hole_part}
use Rattle.qx_file.proofs.bytes.read_leaf.Goals as goal

pub read-requires : goal.read-requires
read-requires g c =
    let old : BlockState = g.B.Blocks.state c.args.blocks.now in
    let works : IsTrue (old.holdings.works c.in-Some.b) = rw c.in-Some.is at c.in_ok-b.ensures.held in
    subst (λ (h : Holdings). IsTrue (h.held c.in-Some.b)) (sym c.in_ok-b.ensures.reads.keeps.holdings) (c.requires.consistent.works_held c.in-Some.b works)

pub returns-in-None-clause-bytes : goal.returns-in-None-clause-bytes
returns-in-None-clause-bytes g c = λ told.
    let old : BlockState = g.B.Blocks.state c.args.blocks.now in
    let found : Hole ≡ leaf_of (block_map c.args.order old) c.args.node.now c.args.index = rw c.in-None.is at (c.in_ok-b.ensures.found told) in
    c.fill.ensures.after (λ y e. e) ∙ hole_part (block_map c.args.order old) c.args.node.now c.args.index c.args.place (length c.args.into.now) c.requires.within found
