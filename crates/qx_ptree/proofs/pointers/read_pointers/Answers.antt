use Rattle.std.proofs.Common.{length}
use Rattle.qx_blocks.specs.BlockState.{BlockState}
use Rattle.qx_ptree.proofs.ReadPointers.{words_after}
use Rattle.qx_ptree.proofs.pointers.read_pointers.Goals as goal

pub read-requires : goal.read-requires
read-requires g c = c.leading-pointer.ensures.consistent.works_held c.leading-pointer.result (c.leading-pointer.ensures.works c.if-pointer.false)

pub returns-clause-pointers : goal.returns-clause-pointers
returns-clause-pointers g c =
    let old : BlockState = g.B.Blocks.state c.args.blocks.now in
    let mid : BlockState = g.B.Blocks.state c.read.follows.lender-at-none in
    let bytes = rw c.in_ok-bytes.was at c.read.follows.holds-at-none.1 in
    words_after c.args.order old mid c.args.pointer c.leading-pointer.result (length c.args.into.now) c.in_ok-bytes.bytes.now _ c.read.follows.holds-at-none.0.keeps c.if-pointer.false c.leading-pointer.ensures.same c.requires.leads bytes c.get32s.ensures
